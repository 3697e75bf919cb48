use Rattle.std.proofs.Common.{◌≡◌, ℕ, ◌<◌, length, All}
use Rattle.poly_law.specs.Exps.{variable}
use Rattle.poly_law.specs.ExpList.{exps}
use Rattle.poly_law.specs.Poly.{term}
use Rattle.jet_subst.specs.Parts.{IsPart, part_of}
use Rattle.coord_change.proofs.unit.identity.Given as goal

abbrev pub invariant-loop-i : goal.invariant-loop-i
invariant-loop-i g l = let m = g.R.Ring.meaning l.ring in record {
  count : length l.parts.items ≡ l.i;
  jets : All (IsPart m l.n) l.parts.items;
  orders : All (λ p. p.order ≡ l.order) l.parts.items;
  values : (j : ℕ) → j < l.i → part_of l.n m.value l.parts.items j ≡ term (exps l.n) m.scalars.ops (variable (exps l.n) j);
}
