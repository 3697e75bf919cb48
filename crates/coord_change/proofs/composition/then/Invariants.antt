use Rattle.std.proofs.Common.{◌≡◌, ℕ, ◌<◌, ◌≤◌, length, All, map, take}
use Rattle.poly_law.specs.Polynomials.{SameIn, cut_in, substitute}
use Rattle.jet_law.specs.Terms.{poly_of}
use Rattle.jet_subst.specs.Parts.{IsPart, part_of}
use Rattle.coord_change.specs.Moves.{move_from}
use Rattle.coord_change.specs.Carries.{carry}
use Rattle.coord_change.proofs.composition.then.Given as goal

abbrev pub invariant-loop-part : goal.invariant-loop-part
invariant-loop-part g l = let m = g.R.Ring.meaning l.ring in record {
  within : l.part-index ≤ length l.first.parts;
  count : length l.parts.items ≡ l.part-index;
  jets : All (IsPart m l.first.n) l.parts.items;
  orders : All (λ p. p.order ≡ l.k) l.parts.items;
  values : (j : ℕ) → j < l.part-index → SameIn l.first.n m.scalars.ops (part_of l.first.n m.value l.parts.items j)
      (cut_in l.first.n m.scalars.ops l.k (substitute l.first.n l.first.n m.scalars.ops (part_of l.first.n m.value l.next.parts) (part_of l.first.n m.value l.first.parts j)));
  moves : map (λ p. poly_of l.first.n m.value p.terms) l.parts.items
      ≡ map (λ p. carry l.first.n m.scalars l.k (move_from m l.first.n l.next) (poly_of l.first.n m.value p.terms)) (take l.part-index l.first.parts);
}
