-- Linear forms, and the linear part of a list of jets.
use Rattle.std.specs.Prelude.{ℕ, List, [], ◌∷◌, set}
use Rattle.ring_theory.specs.Ring.{RingOps}
use Rattle.ring_theory.specs.Scalars.{Meaning}
use Rattle.poly_law.specs.Sums.{sum_to}
use Rattle.poly_law.specs.Exps.{variable}
use Rattle.poly_law.specs.ExpList.{exps}
use Rattle.poly_law.specs.Poly.{scale}
use Rattle.poly_law.specs.Polynomials.{Polynomial, coefficient_in, poly_in, term_in}
use Rattle.jet_poly.specs.JetTerms.{JetTerms}
use Rattle.jet_subst.specs.Parts.{part_of}

-- the exponents 0, .., 0 of eight variables, but 1 at variable i
abbrev pub one_at : ℕ → List ℕ
one_at i = set (0 ∷ 0 ∷ 0 ∷ 0 ∷ 0 ∷ 0 ∷ 0 ∷ 0 ∷ []) i 1

-- the linear form w(0)*x(0) + .. + w(n - 1)*x(n - 1)
abbrev pub linear_form : {V : Type 0} (n : ℕ) → RingOps V → (ℕ → V) → Polynomial n V
linear_form n r w = sum_to (poly_in n r) n (λ j. scale (exps n) r (w j) (term_in n r (variable (exps n) j)))

-- the linear part of jets in n variables: the coefficient of variable j in jet i
abbrev pub linear_part_of : {E V : Type 0} → Meaning E V → ℕ → List (JetTerms E) → ℕ → ℕ → V
linear_part_of m n parts i j = coefficient_in n m.scalars.ops (part_of n m.value parts i) (variable (exps n) j)

-- the order of the jets: that of the first, and 0 where there is none
abbrev pub order_of : {E : Type 0} → List (JetTerms E) → ℕ
order_of [] = 0
order_of (p ∷ ps) = p.order
