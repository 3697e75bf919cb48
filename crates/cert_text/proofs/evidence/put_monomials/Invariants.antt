use Rattle.std.proofs.Common.{◌≡◌, ◌++◌, ◌∷◌, take}
use Rattle.std.specs.List.{flat_map}
use Rattle.poly_text.specs.Polynomials.{monomial_text}
use Rattle.cert_text.proofs.evidence.put_monomials.Given as goal

abbrev pub invariant-loop-monomial : goal.invariant-loop-monomial
invariant-loop-monomial l = l.out.items ≡ l.initial.out.items ++ flat_map (λ m. 32 ∷ monomial_text m) (take l.monomial-index l.monomials)
