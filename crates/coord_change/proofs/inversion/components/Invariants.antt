use Rattle.std.proofs.Common.{◌≡◌, ℕ, ◌<◌, ◌≤◌, length, All}
use Rattle.poly_law.specs.Polynomials.{substitute}
use Rattle.jet_subst.specs.Parts.{IsPart, part_of}
use Rattle.coord_change.specs.InverseChanges.{IsComponent}
use Rattle.coord_change.proofs.inversion.components.Given as goal

abbrev pub invariant-loop-p : goal.invariant-loop-p
invariant-loop-p g l = let m = g.R.Ring.meaning l.ring in record {
  within : l.p-index ≤ length l.c.parts;
  count : length l.all.items ≡ l.p-index;
  jets : All (IsPart m l.c.n) l.all.items;
  components : (t : ℕ) → t < l.p-index → IsComponent l.c.n m.scalars.ops l.d (substitute l.c.n l.c.n m.scalars.ops (part_of l.c.n m.value l.jets) (part_of l.c.n m.value l.c.parts t)) (part_of l.c.n m.value l.all.items t);
}
