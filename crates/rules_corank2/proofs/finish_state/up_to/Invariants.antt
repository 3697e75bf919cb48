use Rattle.std.proofs.Common.{◌≡◌, ◌≤◌, length, All, map, take}
use Rattle.jet_law.specs.Terms.{poly_of}
use Rattle.jet_law.specs.Canonical.{jet}
use Rattle.jet_subst.specs.Parts.{IsPart}
use Rattle.rules_corank2.proofs.finish_state.up_to.Given as goal

abbrev pub invariant-loop-part : goal.invariant-loop-part
invariant-loop-part g l = let m = g.R.Ring.meaning l.ring in let n = l.c.n in record {
  within : l.part-index ≤ length l.c.parts;
  count : length l.parts.items ≡ l.part-index;
  jets : All (IsPart m n) l.parts.items;
  orders : All (λ p. p.order ≡ l.k) l.parts.items;
  cut : map (λ p. poly_of n m.value p.terms) l.parts.items ≡ map (λ p. jet n m.scalars l.k (poly_of n m.value p.terms)) (take l.part-index l.c.parts);
}
