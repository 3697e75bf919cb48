use Rattle.std.proofs.Common.{◌≡◌, ℕ, ◌<◌, length, All}
use Rattle.poly_law.specs.Polynomials.{SameIn}
use Rattle.jet_subst.specs.Parts.{IsPart, part_of}
use Rattle.coord_change.specs.Changes.{entry_of}
use Rattle.coord_change.specs.Linear.{linear_form}
use Rattle.coord_change.proofs.forms.linear_jets.Given as goal

abbrev pub invariant-loop-i : goal.invariant-loop-i
invariant-loop-i g l = let m = g.R.Ring.meaning l.ring in record {
  count : length l.jets.items ≡ l.i;
  jets : All (IsPart m l.n) l.jets.items;
  orders : All (λ p. p.order ≡ l.order) l.jets.items;
  values : (j : ℕ) → j < l.i → SameIn l.n m.scalars.ops (part_of l.n m.value l.jets.items j) (linear_form l.n m.scalars.ops (entry_of m l.n l.matrix j));
}
