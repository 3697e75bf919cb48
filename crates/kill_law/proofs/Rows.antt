-- Worked kill moves over the rational numbers, by computation. The expected moves are found by hand from the printed leads.
use Rattle.std.proofs.Common.{◌≡◌, ℕ, pos, negsuc, List, [], ◌∷◌, map, refl}
use Rattle.ring_theory.specs.Gcd.{gcd}
use Rattle.ring_theory.specs.Rational.{Rational, rational, rational_zero, rational_add, rational_mul, rational_neg, rational_inv}
use Rattle.ring_theory.specs.Height.{most, product_height, inverse_height, rational_scalars}
use Rattle.poly_law.specs.Polynomials.{Polynomial}
use Rattle.jet_law.specs.Canonical.{monomial_in}
use Rattle.ring_formula.specs.Formulas.{formula_value, formula_heights}
use Rattle.kill_law.specs.declared.part.Part.{Part}
use Rattle.kill_law.specs.declared.part.Part.TheVariants as parts
use Rattle.kill_law.specs.Table.{row}
use Rattle.kill_law.specs.Kill.{letters_of}
use Rattle.kill_law.specs.Taken.{kill_move, reduction_heights}

-- exponents with a coefficient
abbrev Terms : Type 0
Terms = List (List ℕ × Rational)

abbrev by : (n : ℕ) → Terms → Polynomial n Rational
by n ts = map (λ t. (monomial_in n t.0, t.1)) ts

abbrev whole : ℕ → Rational
whole k = rational (pos k) 1

abbrev move : (n : ℕ) → Part → Rational → Rational → Rational → ℕ → Terms → List Terms
move n p a b c grade f = map (map (λ t. (t.0.entries, t.1))) (kill_move n rational_scalars (a ∷ b ∷ c ∷ []) p grade (by n f))

-- E6 takes x*y^3 by the linear move y ↦ y - x/4
linear_move : move 2 parts.E6 (whole 1) (whole 1) (whole 0) 13 ((1 ∷ 3 ∷ [], whole 1) ∷ [])
    ≡ ((1 ∷ 0 ∷ [], whole 1) ∷ []) ∷ ((0 ∷ 1 ∷ [], whole 1) ∷ (1 ∷ 0 ∷ [], rational (negsuc 0) 4) ∷ []) ∷ []
unfolding gcd rational rational_zero rational_add rational_mul rational_neg rational_inv formula_value row kill_move
linear_move = refl

-- so it does in three variables, where a term with the third is left alone
spare_variable : move 3 parts.E6 (whole 1) (whole 1) (whole 0) 13 ((1 ∷ 3 ∷ 0 ∷ [], whole 1) ∷ (1 ∷ 3 ∷ 1 ∷ [], whole 1) ∷ [])
    ≡ ((1 ∷ 0 ∷ 0 ∷ [], whole 1) ∷ []) ∷ ((0 ∷ 1 ∷ 0 ∷ [], whole 1) ∷ (1 ∷ 0 ∷ 0 ∷ [], rational (negsuc 0) 4) ∷ []) ∷ ((0 ∷ 0 ∷ 1 ∷ [], whole 1) ∷ []) ∷ []
unfolding gcd rational rational_zero rational_add rational_mul rational_neg rational_inv formula_value row kill_move
spare_variable = refl

-- E7 takes x^4 + 2*x^2*y^3: the tail -1/3*x^2*y^3 of x^4 is added to 2*x^2*y^3 before this is multiplied
terms_meet : move 2 parts.E7 (whole 1) (whole 1) (whole 0) 12 ((4 ∷ 0 ∷ [], whole 1) ∷ (2 ∷ 3 ∷ [], whole 2) ∷ [])
    ≡ ((1 ∷ 0 ∷ [], whole 1) ∷ (2 ∷ 0 ∷ [], rational (negsuc 0) 3) ∷ []) ∷ ((0 ∷ 1 ∷ [], whole 1) ∷ (1 ∷ 1 ∷ [], rational (negsuc 4) 9) ∷ []) ∷ []
unfolding gcd rational rational_zero rational_add rational_mul rational_neg rational_inv formula_value row kill_move
terms_meet = refl

-- where they cancel, nothing is left to be reduced
terms_cancel : move 2 parts.E7 (whole 1) (whole 1) (whole 0) 12 ((4 ∷ 0 ∷ [], whole 1) ∷ (2 ∷ 3 ∷ [], rational (pos 1) 3) ∷ [])
    ≡ ((1 ∷ 0 ∷ [], whole 1) ∷ (2 ∷ 0 ∷ [], rational (negsuc 0) 3) ∷ []) ∷ ((0 ∷ 1 ∷ [], whole 1) ∷ []) ∷ []
unfolding gcd rational rational_zero rational_add rational_mul rational_neg rational_inv formula_value row kill_move
terms_cancel = refl

-- and no number of height above 3 is formed
heights_meet : most (reduction_heights 2 rational_scalars (whole 1 ∷ whole 1 ∷ whole 0 ∷ []) parts.E7 12 (by 2 ((4 ∷ 0 ∷ [], whole 1) ∷ (2 ∷ 3 ∷ [], rational (pos 1) 3) ∷ []))) ≡ 3
unfolding gcd rational rational_zero rational_add rational_mul rational_neg rational_inv formula_value formula_heights product_height inverse_height most row reduction_heights
heights_meet = refl

-- J10 takes y^7, over the divisors Δ = 31 and 2*Δ
two_divisors : move 2 parts.J10 (whole 1) (whole 1) (whole 1) 7 ((0 ∷ 7 ∷ [], whole 1) ∷ [])
    ≡ ((1 ∷ 0 ∷ [], whole 1) ∷ (0 ∷ 3 ∷ [], rational (negsuc 3) 31) ∷ []) ∷ ((0 ∷ 1 ∷ [], whole 1) ∷ (0 ∷ 2 ∷ [], rational (negsuc 8) 62) ∷ (1 ∷ 0 ∷ [], rational (pos 3) 31) ∷ []) ∷ []
unfolding gcd rational rational_zero rational_add rational_mul rational_neg rational_inv formula_value row kill_move
two_divisors = refl

-- T takes y*z^3 in three steps: its tail is -3*x^2*z^2, whose tail is 9*x*y^2*z
chain_of_tails : move 3 parts.T (whole 1) (whole 1) (whole 1) 4 ((0 ∷ 1 ∷ 3 ∷ [], whole 1) ∷ [])
    ≡ ((1 ∷ 0 ∷ 0 ∷ [], whole 1) ∷ (0 ∷ 0 ∷ 2 ∷ [], rational (negsuc 0) 1) ∷ [])
    ∷ ((0 ∷ 1 ∷ 0 ∷ [], whole 1) ∷ (1 ∷ 0 ∷ 1 ∷ [], whole 3) ∷ [])
    ∷ ((0 ∷ 0 ∷ 1 ∷ [], whole 1) ∷ (0 ∷ 1 ∷ 1 ∷ [], rational (negsuc 8) 1) ∷ []) ∷ []
unfolding gcd rational rational_zero rational_add rational_mul rational_neg rational_inv formula_value row kill_move
chain_of_tails = refl

-- S12 takes x^6
three_cofactors : move 3 parts.S12 (whole 1) (whole 1) (whole 1) 18 ((6 ∷ 0 ∷ 0 ∷ [], whole 1) ∷ [])
    ≡ ((1 ∷ 0 ∷ 0 ∷ [], whole 1) ∷ (0 ∷ 2 ∷ 0 ∷ [], rational (negsuc 3) 13) ∷ [])
    ∷ ((0 ∷ 1 ∷ 0 ∷ [], whole 1) ∷ (3 ∷ 0 ∷ 0 ∷ [], rational (negsuc 0) 1) ∷ (0 ∷ 1 ∷ 1 ∷ [], rational (pos 2) 13) ∷ [])
    ∷ ((0 ∷ 0 ∷ 1 ∷ [], whole 1) ∷ (2 ∷ 1 ∷ 0 ∷ [], rational (pos 12) 13) ∷ []) ∷ []
unfolding gcd rational rational_zero rational_add rational_mul rational_neg rational_inv formula_value row kill_move
three_cofactors = refl

-- the letters of J10 in 2*x^3 + 3*x*y^4 + 5*y^6
letters : letters_of 2 rational_scalars parts.J10 (by 2 ((3 ∷ 0 ∷ [], whole 2) ∷ (1 ∷ 4 ∷ [], whole 3) ∷ (0 ∷ 6 ∷ [], whole 5) ∷ [])) ≡ whole 2 ∷ whole 3 ∷ whole 5 ∷ []
unfolding gcd rational rational_zero rational_add rational_mul rational_neg rational_inv row letters_of
letters = refl
