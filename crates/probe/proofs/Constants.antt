-- Constant terms, and orders.
use Rattle.std.proofs.Common.{◌≡◌, ℕ, ◌<◌, List, [], ◌∷◌, length, All, ap, sym, ◌∙◌, arith}
use Rattle.ring_theory.specs.Ring.{RingOps}
use Rattle.poly_law.specs.ExpList.{exps}
use Rattle.poly_law.specs.Polynomials.{Polynomial, coefficient_in, StartsAtIn}
use Rattle.poly_law.proofs.ExpLists.{exps_are}
use Rattle.poly_law.proofs.ExpLaws
use Rattle.mono_exp.specs.declared.exponent.Exp.{Exp}
use Rattle.jet_law.specs.Terms.{exp_of}
use Rattle.jet_law.proofs.TermLemmas.{degree-exp_of}
use Rattle.jet_poly.specs.JetTerms.{JetTerms}
use Rattle.jet_subst.proofs.Reduced.{zeros}
use Rattle.coord_change.specs.Linear.{order_of}

-- the monomial with the exponents 0, .., 0
abbrev pub one : Exp
one = record { e = 0 ∷ 0 ∷ 0 ∷ 0 ∷ 0 ∷ 0 ∷ 0 ∷ 0 ∷ [] }

-- a polynomial whose coefficient at this monomial is 0 has no constant term
pub no_constant : {V : Type 0} (n : ℕ) (r : RingOps V) (f : Polynomial n V) → coefficient_in n r f (exp_of n one) ≡ r.zero → StartsAtIn n r 1 f
no_constant n r f e m low = ap (coefficient_in n r f) same ∙ e
  where
    same : m ≡ exp_of n one
    same =
        ExpLaws.none_of_degree (exps n) (exps_are n) m (omega arith)
        ∙ sym (ExpLaws.none_of_degree (exps n) (exps_are n) (exp_of n one) (degree-exp_of n one (λ i h. zeros i)))

-- the order of jets of one order
pub order_is : {E : Type 0} (k : ℕ) (parts : List (JetTerms E)) → 0 < length parts → All (λ p. p.order ≡ k) parts → order_of parts ≡ k
order_is k [] h all = absurd (omega arith)
order_is k (p ∷ ps) h all = all 0 p (omega arith)
