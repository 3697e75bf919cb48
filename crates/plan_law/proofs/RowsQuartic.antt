-- Rows of binary quartics: X9, one double line, two over Q and over a field, a triple and a fourfold line.
-- The outcomes are computed by the definitions; the expected values are an independent program's.
use Rattle.std.proofs.Common.{◌≡◌, pos, negsuc, [], ◌∷◌, refl}
use Rattle.ring_theory.specs.Gcd.{gcd}
use Rattle.ring_theory.specs.Rational.{rational, rational_zero, rational_add, rational_mul, rational_neg, rational_inv}
use Rattle.ring_theory.specs.Height.{most}
use Rattle.ring_formula.specs.Formulas.{formula_value}
use Rattle.ext_theory.specs.ExtensionScalars.{quadratic_scalars, cubic_scalars}
use Rattle.ext_algebra.specs.Algebra.{scalars}
use Rattle.mono_exp.specs.Exponents.{monomials_of, monomials_below}
use Rattle.jet_law.specs.Canonical.{jet}
use Rattle.normal_forms.specs.declared.family.Family.TheVariants as families
use Rattle.kill_law.specs.Table.{row}
use Rattle.kill_law.specs.Kill.{letters_of}
use Rattle.kill_law.specs.Taken.{kill_move}
use Rattle.coord_change.specs.Moves.{move_of}
use Rattle.coord_change.specs.Carries.{carry, compose, composite}
use Rattle.move_law.specs.Moves.{residual}
use Rattle.move_law.specs.Algebras.{rationals, quadratic_algebra, root_of, lifted, lifted_move}
use Rattle.move_law.specs.Hessian.{squares, hessian_move, corank}
use Rattle.move_law.specs.Split.{completed, split_move}
use Rattle.move_law.specs.Shapes.{cubic_shape, quartic_shape}
use Rattle.move_law.specs.Binary.{none, both, binary_cubic, binary_quartic}
use Rattle.move_law.specs.Patterns.{test_of, pattern_of}
use Rattle.move_law.specs.Finish.{choices, finish_part, finish, is_read}
use Rattle.plan_law.specs.Outcomes.{named}
use Rattle.plan_law.proofs.RowWords.{jet_by, pair, carried_of, outcome_after}

-- x^4+y^4 is X9
X9 : outcome_after 2 (none ∷ none ∷ []) (jet_by 2 ((4 ∷ 0 ∷ [], (rational (pos 1) 1)) ∷ (0 ∷ 4 ∷ [], (rational (pos 1) 1)) ∷ [])) ≡ named families.X9 (carried_of 2 rationals 4 2 (jet_by 2 ((1 ∷ 0 ∷ [], (rational (pos 1) 1)) ∷ []) ∷ jet_by 2 ((0 ∷ 1 ∷ [], (rational (pos 1) 1)) ∷ []) ∷ []) (jet_by 2 ((4 ∷ 0 ∷ [], (rational (pos 1) 1)) ∷ (0 ∷ 4 ∷ [], (rational (pos 1) 1)) ∷ []))) (((rational (pos 1) 1), (rational (pos 1) 1)) ∷ [])
unfolding gcd rational rational_zero rational_add rational_mul rational_neg rational_inv most formula_value quadratic_scalars cubic_scalars scalars monomials_of monomials_below jet row kill_move letters_of move_of carry compose composite residual root_of lifted lifted_move squares hessian_move corank completed split_move cubic_shape quartic_shape binary_cubic binary_quartic test_of pattern_of choices finish_part finish is_read
X9 = refl

-- x^4+x^2*y^2+x*y^3 is X9
X9_of_four_lines : outcome_after 2 (none ∷ none ∷ []) (jet_by 2 ((4 ∷ 0 ∷ [], (rational (pos 1) 1)) ∷ (2 ∷ 2 ∷ [], (rational (pos 1) 1)) ∷ (1 ∷ 3 ∷ [], (rational (pos 1) 1)) ∷ [])) ≡ named families.X9 (carried_of 2 rationals 4 2 (jet_by 2 ((1 ∷ 0 ∷ [], (rational (pos 1) 1)) ∷ []) ∷ jet_by 2 ((0 ∷ 1 ∷ [], (rational (pos 1) 1)) ∷ []) ∷ []) (jet_by 2 ((4 ∷ 0 ∷ [], (rational (pos 1) 1)) ∷ (2 ∷ 2 ∷ [], (rational (pos 1) 1)) ∷ (1 ∷ 3 ∷ [], (rational (pos 1) 1)) ∷ []))) (((rational (negsuc 30) 256), (rational (negsuc 255) 31)) ∷ [])
unfolding gcd rational rational_zero rational_add rational_mul rational_neg rational_inv most formula_value quadratic_scalars cubic_scalars scalars monomials_of monomials_below jet row kill_move letters_of move_of carry compose composite residual root_of lifted lifted_move squares hessian_move corank completed split_move cubic_shape quartic_shape binary_cubic binary_quartic test_of pattern_of choices finish_part finish is_read
X9_of_four_lines = refl

-- x^4+x^2*y^2+y^5 is T(2,4,5)
T245 : outcome_after 2 (none ∷ none ∷ none ∷ []) (jet_by 2 ((4 ∷ 0 ∷ [], (rational (pos 1) 1)) ∷ (2 ∷ 2 ∷ [], (rational (pos 1) 1)) ∷ (0 ∷ 5 ∷ [], (rational (pos 1) 1)) ∷ [])) ≡ named (families.T 2 4 5) (carried_of 2 rationals 5 2 (jet_by 2 ((1 ∷ 0 ∷ [], (rational (pos 1) 1)) ∷ []) ∷ jet_by 2 ((0 ∷ 1 ∷ [], (rational (pos 1) 1)) ∷ []) ∷ []) (jet_by 2 ((4 ∷ 0 ∷ [], (rational (pos 1) 1)) ∷ (2 ∷ 2 ∷ [], (rational (pos 1) 1)) ∷ (0 ∷ 5 ∷ [], (rational (pos 1) 1)) ∷ []))) (((rational (pos 1) 1), (rational (pos 1) 1)) ∷ ((rational (pos 1) 1), (rational (pos 1) 1)) ∷ ((rational (pos 1) 1), (rational (pos 1) 1)) ∷ [])
unfolding gcd rational rational_zero rational_add rational_mul rational_neg rational_inv most formula_value quadratic_scalars cubic_scalars scalars monomials_of monomials_below jet row kill_move letters_of move_of carry compose composite residual root_of lifted lifted_move squares hessian_move corank completed split_move cubic_shape quartic_shape binary_cubic binary_quartic test_of pattern_of choices finish_part finish is_read
T245 = refl

-- x^2*y^2+y^4+x^5 is T(2,4,5)
double_line_y : outcome_after 2 (none ∷ none ∷ none ∷ []) (jet_by 2 ((2 ∷ 2 ∷ [], (rational (pos 1) 1)) ∷ (0 ∷ 4 ∷ [], (rational (pos 1) 1)) ∷ (5 ∷ 0 ∷ [], (rational (pos 1) 1)) ∷ [])) ≡ named (families.T 2 4 5) (carried_of 2 rationals 5 2 (jet_by 2 ((0 ∷ 1 ∷ [], (rational (pos 1) 1)) ∷ []) ∷ jet_by 2 ((1 ∷ 0 ∷ [], (rational (pos 1) 1)) ∷ []) ∷ []) (jet_by 2 ((4 ∷ 0 ∷ [], (rational (pos 1) 1)) ∷ (2 ∷ 2 ∷ [], (rational (pos 1) 1)) ∷ (0 ∷ 5 ∷ [], (rational (pos 1) 1)) ∷ []))) (((rational (pos 1) 1), (rational (pos 1) 1)) ∷ ((rational (pos 1) 1), (rational (pos 1) 1)) ∷ ((rational (pos 1) 1), (rational (pos 1) 1)) ∷ [])
unfolding gcd rational rational_zero rational_add rational_mul rational_neg rational_inv most formula_value quadratic_scalars cubic_scalars scalars monomials_of monomials_below jet row kill_move letters_of move_of carry compose composite residual root_of lifted lifted_move squares hessian_move corank completed split_move cubic_shape quartic_shape binary_cubic binary_quartic test_of pattern_of choices finish_part finish is_read
double_line_y = refl

-- x^2*(x^2+2*x*y+2*y^2)+y^5 is T(2,4,5)
double_line_with_a_middle : outcome_after 2 (none ∷ none ∷ none ∷ []) (jet_by 2 ((4 ∷ 0 ∷ [], (rational (pos 1) 1)) ∷ (3 ∷ 1 ∷ [], (rational (pos 2) 1)) ∷ (2 ∷ 2 ∷ [], (rational (pos 2) 1)) ∷ (0 ∷ 5 ∷ [], (rational (pos 1) 1)) ∷ [])) ≡ named (families.T 2 4 5) (carried_of 2 rationals 5 2 (jet_by 2 ((1 ∷ 0 ∷ [], (rational (pos 1) 1)) ∷ (2 ∷ 0 ∷ [], (rational (pos 1) 64)) ∷ (0 ∷ 2 ∷ [], (rational (pos 5) 8)) ∷ []) ∷ jet_by 2 ((1 ∷ 0 ∷ [], (rational (negsuc 0) 2)) ∷ (0 ∷ 1 ∷ [], (rational (pos 1) 1)) ∷ (2 ∷ 0 ∷ [], (rational (negsuc 10) 128)) ∷ (1 ∷ 1 ∷ [], (rational (negsuc 0) 64)) ∷ (0 ∷ 2 ∷ [], (rational (negsuc 14) 16)) ∷ []) ∷ []) (jet_by 2 ((4 ∷ 0 ∷ [], (rational (pos 1) 2)) ∷ (2 ∷ 2 ∷ [], (rational (pos 2) 1)) ∷ (0 ∷ 5 ∷ [], (rational (pos 1) 1)) ∷ []))) (((rational (pos 1) 2), (rational (pos 2) 1)) ∷ ((rational (pos 2) 1), (rational (pos 1) 2)) ∷ ((rational (pos 1) 1), (rational (pos 1) 1)) ∷ [])
unfolding gcd rational rational_zero rational_add rational_mul rational_neg rational_inv most formula_value quadratic_scalars cubic_scalars scalars monomials_of monomials_below jet row kill_move letters_of move_of carry compose composite residual root_of lifted lifted_move squares hessian_move corank completed split_move cubic_shape quartic_shape binary_cubic binary_quartic test_of pattern_of choices finish_part finish is_read
double_line_with_a_middle = refl

-- (x^2-2*y^2)^2+x^5 is T(2,5,5) over t^2-2
two_lines_over_a_field : outcome_after 2 (none ∷ none ∷ none ∷ []) (jet_by 2 ((4 ∷ 0 ∷ [], (rational (pos 1) 1)) ∷ (2 ∷ 2 ∷ [], (rational (negsuc 3) 1)) ∷ (0 ∷ 4 ∷ [], (rational (pos 4) 1)) ∷ (5 ∷ 0 ∷ [], (rational (pos 1) 1)) ∷ [])) ≡ named (families.T 2 5 5) (carried_of 2 (quadratic_algebra (record { c0 = (rational (negsuc 1) 1); c1 = (rational (pos 0) 1) })) 5 2 (jet_by 2 ((1 ∷ 0 ∷ [], (pair (rational (pos 0) 1) (rational (negsuc 0) 1))) ∷ (0 ∷ 1 ∷ [], (pair (rational (pos 0) 1) (rational (negsuc 0) 1))) ∷ (2 ∷ 0 ∷ [], (pair (rational (negsuc 14) 16) (rational (pos 0) 1))) ∷ (1 ∷ 1 ∷ [], (pair (rational (negsuc 4) 8) (rational (pos 0) 1))) ∷ (0 ∷ 2 ∷ [], (pair (rational (negsuc 4) 16) (rational (pos 0) 1))) ∷ []) ∷ jet_by 2 ((1 ∷ 0 ∷ [], (pair (rational (pos 1) 1) (rational (pos 0) 1))) ∷ (0 ∷ 1 ∷ [], (pair (rational (negsuc 0) 1) (rational (pos 0) 1))) ∷ (2 ∷ 0 ∷ [], (pair (rational (pos 0) 1) (rational (pos 5) 32))) ∷ (1 ∷ 1 ∷ [], (pair (rational (pos 0) 1) (rational (pos 5) 16))) ∷ (0 ∷ 2 ∷ [], (pair (rational (pos 0) 1) (rational (pos 5) 32))) ∷ []) ∷ []) (jet_by 2 ((2 ∷ 2 ∷ [], (pair (rational (pos 64) 1) (rational (pos 0) 1))) ∷ (5 ∷ 0 ∷ [], (pair (rational (pos 0) 1) (rational (negsuc 3) 1))) ∷ (0 ∷ 5 ∷ [], (pair (rational (pos 0) 1) (rational (negsuc 3) 1))) ∷ []))) (((pair (rational (pos 64) 1) (rational (pos 0) 1)), (pair (rational (pos 1) 64) (rational (pos 0) 1))) ∷ ((pair (rational (pos 0) 1) (rational (negsuc 3) 1)), (pair (rational (pos 0) 1) (rational (negsuc 0) 8))) ∷ ((pair (rational (pos 0) 1) (rational (negsuc 3) 1)), (pair (rational (pos 0) 1) (rational (negsuc 0) 8))) ∷ [])
unfolding gcd rational rational_zero rational_add rational_mul rational_neg rational_inv most formula_value quadratic_scalars cubic_scalars scalars monomials_of monomials_below jet row kill_move letters_of move_of carry compose composite residual root_of lifted lifted_move squares hessian_move corank completed split_move cubic_shape quartic_shape binary_cubic binary_quartic test_of pattern_of choices finish_part finish is_read
two_lines_over_a_field = refl

-- (x^2-y^2)^2+x^5 is T(2,5,5)
two_rational_lines : outcome_after 2 (none ∷ both (rational (negsuc 0) 1) (rational (pos 1) 1) ∷ none ∷ []) (jet_by 2 ((4 ∷ 0 ∷ [], (rational (pos 1) 1)) ∷ (2 ∷ 2 ∷ [], (rational (negsuc 1) 1)) ∷ (0 ∷ 4 ∷ [], (rational (pos 1) 1)) ∷ (5 ∷ 0 ∷ [], (rational (pos 1) 1)) ∷ [])) ≡ named (families.T 2 5 5) (carried_of 2 rationals 5 2 (jet_by 2 ((1 ∷ 0 ∷ [], (rational (pos 1) 1)) ∷ (0 ∷ 1 ∷ [], (rational (pos 1) 1)) ∷ (2 ∷ 0 ∷ [], (rational (negsuc 14) 32)) ∷ (1 ∷ 1 ∷ [], (rational (negsuc 4) 16)) ∷ (0 ∷ 2 ∷ [], (rational (negsuc 4) 32)) ∷ []) ∷ jet_by 2 ((1 ∷ 0 ∷ [], (rational (pos 1) 1)) ∷ (0 ∷ 1 ∷ [], (rational (negsuc 0) 1)) ∷ (2 ∷ 0 ∷ [], (rational (negsuc 4) 32)) ∷ (1 ∷ 1 ∷ [], (rational (negsuc 4) 16)) ∷ (0 ∷ 2 ∷ [], (rational (negsuc 4) 32)) ∷ []) ∷ []) (jet_by 2 ((2 ∷ 2 ∷ [], (rational (pos 16) 1)) ∷ (5 ∷ 0 ∷ [], (rational (pos 1) 1)) ∷ (0 ∷ 5 ∷ [], (rational (pos 1) 1)) ∷ []))) (((rational (pos 16) 1), (rational (pos 1) 16)) ∷ ((rational (pos 1) 1), (rational (pos 1) 1)) ∷ ((rational (pos 1) 1), (rational (pos 1) 1)) ∷ [])
unfolding gcd rational rational_zero rational_add rational_mul rational_neg rational_inv most formula_value quadratic_scalars cubic_scalars scalars monomials_of monomials_below jet row kill_move letters_of move_of carry compose composite residual root_of lifted lifted_move squares hessian_move corank completed split_move cubic_shape quartic_shape binary_cubic binary_quartic test_of pattern_of choices finish_part finish is_read
two_rational_lines = refl

-- [x,y] y^2*(x+y)^2+x^5 is T(2,5,5)
two_lines_with_y : outcome_after 2 (none ∷ none ∷ none ∷ []) (jet_by 2 ((2 ∷ 2 ∷ [], (rational (pos 1) 1)) ∷ (1 ∷ 3 ∷ [], (rational (pos 2) 1)) ∷ (0 ∷ 4 ∷ [], (rational (pos 1) 1)) ∷ (5 ∷ 0 ∷ [], (rational (pos 1) 1)) ∷ [])) ≡ named (families.T 2 5 5) (carried_of 2 rationals 5 2 (jet_by 2 ((1 ∷ 0 ∷ [], (rational (pos 1) 1)) ∷ (0 ∷ 1 ∷ [], (rational (negsuc 0) 1)) ∷ (2 ∷ 0 ∷ [], (rational (negsuc 14) 2)) ∷ (1 ∷ 1 ∷ [], (rational (pos 5) 1)) ∷ (0 ∷ 2 ∷ [], (rational (negsuc 4) 2)) ∷ []) ∷ jet_by 2 ((0 ∷ 1 ∷ [], (rational (pos 1) 1)) ∷ (2 ∷ 0 ∷ [], (rational (pos 5) 2)) ∷ []) ∷ []) (jet_by 2 ((2 ∷ 2 ∷ [], (rational (pos 1) 1)) ∷ (5 ∷ 0 ∷ [], (rational (pos 1) 1)) ∷ (0 ∷ 5 ∷ [], (rational (negsuc 0) 1)) ∷ []))) (((rational (pos 1) 1), (rational (pos 1) 1)) ∷ ((rational (pos 1) 1), (rational (pos 1) 1)) ∷ ((rational (negsuc 0) 1), (rational (negsuc 0) 1)) ∷ [])
unfolding gcd rational rational_zero rational_add rational_mul rational_neg rational_inv most formula_value quadratic_scalars cubic_scalars scalars monomials_of monomials_below jet row kill_move letters_of move_of carry compose composite residual root_of lifted lifted_move squares hessian_move corank completed split_move cubic_shape quartic_shape binary_cubic binary_quartic test_of pattern_of choices finish_part finish is_read
two_lines_with_y = refl

-- x^3*y+y^5 is Z11
Z11 : outcome_after 2 (none ∷ none ∷ none ∷ []) (jet_by 2 ((3 ∷ 1 ∷ [], (rational (pos 1) 1)) ∷ (0 ∷ 5 ∷ [], (rational (pos 1) 1)) ∷ [])) ≡ named families.Z11 (carried_of 2 rationals 5 2 (jet_by 2 ((1 ∷ 0 ∷ [], (rational (pos 1) 1)) ∷ []) ∷ jet_by 2 ((0 ∷ 1 ∷ [], (rational (pos 1) 1)) ∷ []) ∷ []) (jet_by 2 ((3 ∷ 1 ∷ [], (rational (pos 1) 1)) ∷ (0 ∷ 5 ∷ [], (rational (pos 1) 1)) ∷ []))) (((rational (pos 1) 1), (rational (pos 1) 1)) ∷ ((rational (pos 1) 1), (rational (pos 1) 1)) ∷ [])
unfolding gcd rational rational_zero rational_add rational_mul rational_neg rational_inv most formula_value quadratic_scalars cubic_scalars scalars monomials_of monomials_below jet row kill_move letters_of move_of carry compose composite residual root_of lifted lifted_move squares hessian_move corank completed split_move cubic_shape quartic_shape binary_cubic binary_quartic test_of pattern_of choices finish_part finish is_read
Z11 = refl

-- x^3*(x+2*y)+y^5 is Z11
Z11_after_a_change : outcome_after 2 (none ∷ none ∷ none ∷ []) (jet_by 2 ((4 ∷ 0 ∷ [], (rational (pos 1) 1)) ∷ (3 ∷ 1 ∷ [], (rational (pos 2) 1)) ∷ (0 ∷ 5 ∷ [], (rational (pos 1) 1)) ∷ [])) ≡ named families.Z11 (carried_of 2 rationals 5 2 (jet_by 2 ((1 ∷ 0 ∷ [], (rational (pos 1) 1)) ∷ (2 ∷ 0 ∷ [], (rational (negsuc 4) 96)) ∷ (1 ∷ 1 ∷ [], (rational (pos 5) 24)) ∷ (0 ∷ 2 ∷ [], (rational (negsuc 4) 12)) ∷ []) ∷ jet_by 2 ((1 ∷ 0 ∷ [], (rational (negsuc 0) 2)) ∷ (0 ∷ 1 ∷ [], (rational (pos 1) 1)) ∷ (2 ∷ 0 ∷ [], (rational (pos 1) 24)) ∷ (1 ∷ 1 ∷ [], (rational (negsuc 4) 48)) ∷ (0 ∷ 2 ∷ [], (rational (pos 5) 24)) ∷ []) ∷ []) (jet_by 2 ((3 ∷ 1 ∷ [], (rational (pos 2) 1)) ∷ (1 ∷ 4 ∷ [], (rational (negsuc 4) 2)) ∷ (0 ∷ 5 ∷ [], (rational (pos 1) 1)) ∷ []))) (((rational (pos 2) 1), (rational (pos 1) 2)) ∷ ((rational (pos 1) 1), (rational (pos 1) 1)) ∷ [])
unfolding gcd rational rational_zero rational_add rational_mul rational_neg rational_inv most formula_value quadratic_scalars cubic_scalars scalars monomials_of monomials_below jet row kill_move letters_of move_of carry compose composite residual root_of lifted lifted_move squares hessian_move corank completed split_move cubic_shape quartic_shape binary_cubic binary_quartic test_of pattern_of choices finish_part finish is_read
Z11_after_a_change = refl

-- x^4+y^5 is W12
W12 : outcome_after 2 (none ∷ none ∷ none ∷ []) (jet_by 2 ((4 ∷ 0 ∷ [], (rational (pos 1) 1)) ∷ (0 ∷ 5 ∷ [], (rational (pos 1) 1)) ∷ [])) ≡ named families.W12 (carried_of 2 rationals 5 2 (jet_by 2 ((1 ∷ 0 ∷ [], (rational (pos 1) 1)) ∷ []) ∷ jet_by 2 ((0 ∷ 1 ∷ [], (rational (pos 1) 1)) ∷ []) ∷ []) (jet_by 2 ((4 ∷ 0 ∷ [], (rational (pos 1) 1)) ∷ (0 ∷ 5 ∷ [], (rational (pos 1) 1)) ∷ []))) (((rational (pos 1) 1), (rational (pos 1) 1)) ∷ ((rational (pos 1) 1), (rational (pos 1) 1)) ∷ [])
unfolding gcd rational rational_zero rational_add rational_mul rational_neg rational_inv most formula_value quadratic_scalars cubic_scalars scalars monomials_of monomials_below jet row kill_move letters_of move_of carry compose composite residual root_of lifted lifted_move squares hessian_move corank completed split_move cubic_shape quartic_shape binary_cubic binary_quartic test_of pattern_of choices finish_part finish is_read
W12 = refl

-- (x+y)^4+y^5 is W12
W12_after_a_change : outcome_after 2 (none ∷ none ∷ none ∷ []) (jet_by 2 ((4 ∷ 0 ∷ [], (rational (pos 1) 1)) ∷ (3 ∷ 1 ∷ [], (rational (pos 4) 1)) ∷ (2 ∷ 2 ∷ [], (rational (pos 6) 1)) ∷ (1 ∷ 3 ∷ [], (rational (pos 4) 1)) ∷ (0 ∷ 4 ∷ [], (rational (pos 1) 1)) ∷ (0 ∷ 5 ∷ [], (rational (pos 1) 1)) ∷ [])) ≡ named families.W12 (carried_of 2 rationals 5 2 (jet_by 2 ((1 ∷ 0 ∷ [], (rational (pos 1) 1)) ∷ (0 ∷ 1 ∷ [], (rational (negsuc 0) 1)) ∷ []) ∷ jet_by 2 ((0 ∷ 1 ∷ [], (rational (pos 1) 1)) ∷ []) ∷ []) (jet_by 2 ((4 ∷ 0 ∷ [], (rational (pos 1) 1)) ∷ (0 ∷ 5 ∷ [], (rational (pos 1) 1)) ∷ []))) (((rational (pos 1) 1), (rational (pos 1) 1)) ∷ ((rational (pos 1) 1), (rational (pos 1) 1)) ∷ [])
unfolding gcd rational rational_zero rational_add rational_mul rational_neg rational_inv most formula_value quadratic_scalars cubic_scalars scalars monomials_of monomials_below jet row kill_move letters_of move_of carry compose composite residual root_of lifted lifted_move squares hessian_move corank completed split_move cubic_shape quartic_shape binary_cubic binary_quartic test_of pattern_of choices finish_part finish is_read
W12_after_a_change = refl
