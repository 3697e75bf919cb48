-- Rows of splitting: square variables in higher terms, and the order of splits and kills.
-- The outcomes are computed by the definitions; the expected values are an independent program's.
use Rattle.std.proofs.Common.{◌≡◌, pos, negsuc, [], ◌∷◌, refl}
use Rattle.ring_theory.specs.Gcd.{gcd}
use Rattle.ring_theory.specs.Rational.{rational, rational_zero, rational_add, rational_mul, rational_neg, rational_inv}
use Rattle.ring_theory.specs.Height.{most}
use Rattle.ring_formula.specs.Formulas.{formula_value}
use Rattle.ext_theory.specs.ExtensionScalars.{quadratic_scalars, cubic_scalars}
use Rattle.ext_algebra.specs.Algebra.{scalars}
use Rattle.mono_exp.specs.Exponents.{monomials_of, monomials_below}
use Rattle.jet_law.specs.Canonical.{jet}
use Rattle.normal_forms.specs.declared.family.Family.TheVariants as families
use Rattle.kill_law.specs.Table.{row}
use Rattle.kill_law.specs.Kill.{letters_of}
use Rattle.kill_law.specs.Taken.{kill_move}
use Rattle.coord_change.specs.Moves.{move_of}
use Rattle.coord_change.specs.Carries.{carry, compose, composite}
use Rattle.move_law.specs.Moves.{residual}
use Rattle.move_law.specs.Algebras.{rationals, root_of, lifted, lifted_move}
use Rattle.move_law.specs.Hessian.{squares, hessian_move, corank}
use Rattle.move_law.specs.Split.{completed, split_move}
use Rattle.move_law.specs.Shapes.{cubic_shape, quartic_shape}
use Rattle.move_law.specs.Binary.{none, binary_cubic, binary_quartic}
use Rattle.move_law.specs.Patterns.{test_of, pattern_of}
use Rattle.move_law.specs.Finish.{choices, finish_part, finish, is_read}
use Rattle.plan_law.specs.Outcomes.{named}
use Rattle.plan_law.proofs.RowWords.{jet_by, carried_of, outcome_after}

-- x^2+2*x*y^2+y^5 is A3
completed_square : outcome_after 2 (none ∷ none ∷ []) (jet_by 2 ((2 ∷ 0 ∷ [], (rational (pos 1) 1)) ∷ (1 ∷ 2 ∷ [], (rational (pos 2) 1)) ∷ (0 ∷ 5 ∷ [], (rational (pos 1) 1)) ∷ [])) ≡ named (families.A 3) (carried_of 2 rationals 4 1 (jet_by 2 ((0 ∷ 1 ∷ [], (rational (pos 1) 1)) ∷ (2 ∷ 0 ∷ [], (rational (negsuc 0) 1)) ∷ []) ∷ jet_by 2 ((1 ∷ 0 ∷ [], (rational (pos 1) 1)) ∷ []) ∷ []) (jet_by 2 ((0 ∷ 2 ∷ [], (rational (pos 1) 1)) ∷ (4 ∷ 0 ∷ [], (rational (negsuc 0) 1)) ∷ []))) (((rational (negsuc 0) 1), (rational (negsuc 0) 1)) ∷ ((rational (pos 1) 1), (rational (pos 1) 1)) ∷ [])
unfolding gcd rational rational_zero rational_add rational_mul rational_neg rational_inv most formula_value quadratic_scalars cubic_scalars scalars monomials_of monomials_below jet row kill_move letters_of move_of carry compose composite residual root_of lifted lifted_move squares hessian_move corank completed split_move cubic_shape quartic_shape binary_cubic binary_quartic test_of pattern_of choices finish_part finish is_read
completed_square = refl

-- [x,y,z] z^2+2*z*x*y+x^2+y^3 is A2
split_in_three : outcome_after 3 (none ∷ []) (jet_by 3 ((2 ∷ 0 ∷ 0 ∷ [], (rational (pos 1) 1)) ∷ (0 ∷ 0 ∷ 2 ∷ [], (rational (pos 1) 1)) ∷ (1 ∷ 1 ∷ 1 ∷ [], (rational (pos 2) 1)) ∷ (0 ∷ 3 ∷ 0 ∷ [], (rational (pos 1) 1)) ∷ [])) ≡ named (families.A 2) (carried_of 3 rationals 3 1 (jet_by 3 ((0 ∷ 1 ∷ 0 ∷ [], (rational (pos 1) 1)) ∷ (1 ∷ 0 ∷ 1 ∷ [], (rational (negsuc 0) 1)) ∷ []) ∷ jet_by 3 ((1 ∷ 0 ∷ 0 ∷ [], (rational (pos 1) 1)) ∷ []) ∷ jet_by 3 ((0 ∷ 0 ∷ 1 ∷ [], (rational (pos 1) 1)) ∷ []) ∷ []) (jet_by 3 ((0 ∷ 2 ∷ 0 ∷ [], (rational (pos 1) 1)) ∷ (0 ∷ 0 ∷ 2 ∷ [], (rational (pos 1) 1)) ∷ (3 ∷ 0 ∷ 0 ∷ [], (rational (pos 1) 1)) ∷ []))) (((rational (pos 1) 1), (rational (pos 1) 1)) ∷ ((rational (pos 1) 1), (rational (pos 1) 1)) ∷ ((rational (pos 1) 1), (rational (pos 1) 1)) ∷ [])
unfolding gcd rational rational_zero rational_add rational_mul rational_neg rational_inv most formula_value quadratic_scalars cubic_scalars scalars monomials_of monomials_below jet row kill_move letters_of move_of carry compose composite residual root_of lifted lifted_move squares hessian_move corank completed split_move cubic_shape quartic_shape binary_cubic binary_quartic test_of pattern_of choices finish_part finish is_read
split_in_three = refl

-- [x,y,z] x^2*y+y^4+z^2+2*x^2*z is D5
split_and_kill : outcome_after 3 (none ∷ none ∷ []) (jet_by 3 ((0 ∷ 0 ∷ 2 ∷ [], (rational (pos 1) 1)) ∷ (2 ∷ 1 ∷ 0 ∷ [], (rational (pos 1) 1)) ∷ (2 ∷ 0 ∷ 1 ∷ [], (rational (pos 2) 1)) ∷ (0 ∷ 4 ∷ 0 ∷ [], (rational (pos 1) 1)) ∷ [])) ≡ named (families.D 5) (carried_of 3 rationals 4 2 (jet_by 3 ((1 ∷ 0 ∷ 0 ∷ [], (rational (pos 1) 1)) ∷ []) ∷ jet_by 3 ((0 ∷ 1 ∷ 0 ∷ [], (rational (pos 1) 1)) ∷ (2 ∷ 0 ∷ 0 ∷ [], (rational (pos 1) 1)) ∷ []) ∷ jet_by 3 ((0 ∷ 0 ∷ 1 ∷ [], (rational (pos 1) 1)) ∷ (2 ∷ 0 ∷ 0 ∷ [], (rational (negsuc 0) 1)) ∷ []) ∷ []) (jet_by 3 ((0 ∷ 0 ∷ 2 ∷ [], (rational (pos 1) 1)) ∷ (2 ∷ 1 ∷ 0 ∷ [], (rational (pos 1) 1)) ∷ (0 ∷ 4 ∷ 0 ∷ [], (rational (pos 1) 1)) ∷ []))) (((rational (pos 1) 1), (rational (pos 1) 1)) ∷ ((rational (pos 1) 1), (rational (pos 1) 1)) ∷ ((rational (pos 1) 1), (rational (pos 1) 1)) ∷ [])
unfolding gcd rational rational_zero rational_add rational_mul rational_neg rational_inv most formula_value quadratic_scalars cubic_scalars scalars monomials_of monomials_below jet row kill_move letters_of move_of carry compose composite residual root_of lifted lifted_move squares hessian_move corank completed split_move cubic_shape quartic_shape binary_cubic binary_quartic test_of pattern_of choices finish_part finish is_read
split_and_kill = refl

-- [x,y,z] z^2+2*x^2*y*z+x^2*y+x^4+y^4 is D5
split_before_kill : outcome_after 3 (none ∷ none ∷ []) (jet_by 3 ((0 ∷ 0 ∷ 2 ∷ [], (rational (pos 1) 1)) ∷ (2 ∷ 1 ∷ 0 ∷ [], (rational (pos 1) 1)) ∷ (4 ∷ 0 ∷ 0 ∷ [], (rational (pos 1) 1)) ∷ (2 ∷ 1 ∷ 1 ∷ [], (rational (pos 2) 1)) ∷ (0 ∷ 4 ∷ 0 ∷ [], (rational (pos 1) 1)) ∷ [])) ≡ named (families.D 5) (carried_of 3 rationals 4 2 (jet_by 3 ((1 ∷ 0 ∷ 0 ∷ [], (rational (pos 1) 1)) ∷ []) ∷ jet_by 3 ((0 ∷ 1 ∷ 0 ∷ [], (rational (pos 1) 1)) ∷ (2 ∷ 0 ∷ 0 ∷ [], (rational (negsuc 0) 1)) ∷ []) ∷ jet_by 3 ((0 ∷ 0 ∷ 1 ∷ [], (rational (pos 1) 1)) ∷ (2 ∷ 1 ∷ 0 ∷ [], (rational (negsuc 0) 1)) ∷ (4 ∷ 0 ∷ 0 ∷ [], (rational (pos 1) 1)) ∷ []) ∷ []) (jet_by 3 ((0 ∷ 0 ∷ 2 ∷ [], (rational (pos 1) 1)) ∷ (2 ∷ 1 ∷ 0 ∷ [], (rational (pos 1) 1)) ∷ (0 ∷ 4 ∷ 0 ∷ [], (rational (pos 1) 1)) ∷ []))) (((rational (pos 1) 1), (rational (pos 1) 1)) ∷ ((rational (pos 1) 1), (rational (pos 1) 1)) ∷ ((rational (pos 1) 1), (rational (pos 1) 1)) ∷ [])
unfolding gcd rational rational_zero rational_add rational_mul rational_neg rational_inv most formula_value quadratic_scalars cubic_scalars scalars monomials_of monomials_below jet row kill_move letters_of move_of carry compose composite residual root_of lifted lifted_move squares hessian_move corank completed split_move cubic_shape quartic_shape binary_cubic binary_quartic test_of pattern_of choices finish_part finish is_read
split_before_kill = refl
