use Rattle.std.proofs.Common.{◌≡◌, ℕ, ◌<◌, length, All}
use Rattle.poly_law.specs.Polynomials.{SameIn}
use Rattle.jet_subst.specs.Parts.{IsPart, part_of}
use Rattle.coord_change.specs.Changes.{entry_of}
use Rattle.coord_change.specs.InverseChanges.{inverse_to}
use Rattle.coord_change.proofs.inversion.invert_to.Given as goal

abbrev pub invariant-loop-i : goal.invariant-loop-i
invariant-loop-i g l = let m = g.R.Ring.meaning l.ring in record {
  count : length l.parts.items ≡ l.c.n;
  jets : All (IsPart m l.c.n) l.parts.items;
  orders : All (λ p. p.order ≡ l.i) l.parts.items;
  values : (u : ℕ) → u < l.c.n → SameIn l.c.n m.scalars.ops (part_of l.c.n m.value l.parts.items u) (inverse_to l.c.n m.scalars.ops (part_of l.c.n m.value l.c.parts) (entry_of m l.c.n l.c.inverse) l.i u);
}
