use Rattle.std.proofs.Common.{◌≡◌, ℕ, ◌<◌, length, All}
use Rattle.poly_law.specs.Polynomials.{SameIn}
use Rattle.jet_subst.specs.Parts.{IsPart, part_of}
use Rattle.coord_change.specs.Changes.{entry_of}
use Rattle.coord_change.specs.InverseChanges.{corrected}
use Rattle.coord_change.proofs.inversion.correct.Given as goal

abbrev pub invariant-loop-u : goal.invariant-loop-u
invariant-loop-u g l = let m = g.R.Ring.meaning l.ring in record {
  count : length l.all.items ≡ l.u;
  jets : All (IsPart m l.c.n) l.all.items;
  orders : All (λ p. p.order ≡ l.d) l.all.items;
  values : (j : ℕ) → j < l.u → SameIn l.c.n m.scalars.ops (part_of l.c.n m.value l.all.items j)
      (corrected l.c.n m.scalars.ops (part_of l.c.n m.value l.c.parts) (entry_of m l.c.n l.c.inverse) (part_of l.c.n m.value l.jets) l.d j);
}
