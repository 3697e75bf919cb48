-- Rows of the moves that clear a power: of x above the least for Y, and of y above the least for T(2,3,r).
-- The outcomes are computed by the definitions; the expected values are an independent program's.
use Rattle.std.proofs.Common.{◌≡◌, pos, negsuc, [], ◌∷◌, get_or, refl}
use Rattle.ring_theory.specs.Gcd.{gcd}
use Rattle.ring_theory.specs.Rational.{rational, rational_zero, rational_add, rational_mul, rational_neg, rational_inv}
use Rattle.ring_theory.specs.Height.{most, rational_scalars}
use Rattle.ring_formula.specs.Formulas.{formula_value}
use Rattle.ext_theory.specs.ExtensionScalars.{quadratic_scalars, cubic_scalars}
use Rattle.ext_algebra.specs.Algebra.{scalars}
use Rattle.mono_exp.specs.Exponents.{monomials_of, monomials_below}
use Rattle.jet_law.specs.Canonical.{jet}
use Rattle.normal_forms.specs.declared.family.Family.TheVariants as families
use Rattle.kill_law.specs.Table.{row}
use Rattle.kill_law.specs.Kill.{letters_of}
use Rattle.kill_law.specs.Taken.{kill_move}
use Rattle.coord_change.specs.Moves.{move_of}
use Rattle.coord_change.specs.Carries.{carry, compose, composite}
use Rattle.move_law.specs.Moves.{residual}
use Rattle.move_law.specs.Algebras.{rationals, root_of, lifted, lifted_move}
use Rattle.move_law.specs.Hessian.{squares, hessian_move, corank}
use Rattle.move_law.specs.Split.{completed, split_move}
use Rattle.move_law.specs.Shapes.{cubic_shape, quartic_shape}
use Rattle.move_law.specs.Binary.{none, binary_cubic, binary_quartic}
use Rattle.move_law.specs.Patterns.{test_of, pattern_of}
use Rattle.move_law.specs.Finish.{choices, begin_finish, tail_from, finish_part, finish, is_read}
use Rattle.plan_law.specs.Outcomes.{named}
use Rattle.plan_law.proofs.RowWords.{jet_by, carried_of, outcome_after}

-- x^2*y^2+x^5+x^6+y^6 is T(2,5,6)
cleared_power : outcome_after 2 (none ∷ none ∷ none ∷ none ∷ []) (jet_by 2 ((2 ∷ 2 ∷ [], (rational (pos 1) 1)) ∷ (5 ∷ 0 ∷ [], (rational (pos 1) 1)) ∷ (6 ∷ 0 ∷ [], (rational (pos 1) 1)) ∷ (0 ∷ 6 ∷ [], (rational (pos 1) 1)) ∷ [])) ≡ named (families.T 2 5 6) (carried_of 2 rationals 6 2 (jet_by 2 ((1 ∷ 0 ∷ [], (rational (pos 1) 1)) ∷ (2 ∷ 0 ∷ [], (rational (negsuc 0) 5)) ∷ []) ∷ jet_by 2 ((0 ∷ 1 ∷ [], (rational (pos 1) 1)) ∷ (1 ∷ 1 ∷ [], (rational (pos 1) 5)) ∷ (2 ∷ 1 ∷ [], (rational (pos 1) 25)) ∷ (3 ∷ 1 ∷ [], (rational (pos 1) 125)) ∷ (4 ∷ 1 ∷ [], (rational (pos 1) 625)) ∷ (5 ∷ 1 ∷ [], (rational (pos 1) 3125)) ∷ []) ∷ []) (jet_by 2 ((2 ∷ 2 ∷ [], (rational (pos 1) 1)) ∷ (5 ∷ 0 ∷ [], (rational (pos 1) 1)) ∷ (0 ∷ 6 ∷ [], (rational (pos 1) 1)) ∷ []))) (((rational (pos 1) 1), (rational (pos 1) 1)) ∷ ((rational (pos 1) 1), (rational (pos 1) 1)) ∷ ((rational (pos 1) 1), (rational (pos 1) 1)) ∷ [])
unfolding gcd rational rational_zero rational_add rational_mul rational_neg rational_inv most formula_value quadratic_scalars cubic_scalars scalars monomials_of monomials_below jet row kill_move letters_of move_of carry compose composite residual root_of lifted lifted_move squares hessian_move corank completed split_move cubic_shape quartic_shape binary_cubic binary_quartic test_of pattern_of choices finish_part finish is_read
cleared_power = refl

-- the second move for T(2,3,r), by hand: in x^3+x^2*y^2+y^3+y^4 up to degree 4, with r = 3, v is 1/6, so x goes to x+1/3*x*y and y to y-1/2*x-1/3*y^2
tail_by_hand : composite 2 rational_scalars 4 (get_or (tail_from 2 rational_scalars 4 3 (begin_finish 2 rational_scalars 4 (jet_by 2 ((3 ∷ 0 ∷ [], rational (pos 1) 1) ∷ (0 ∷ 3 ∷ [], rational (pos 1) 1) ∷ (2 ∷ 2 ∷ [], rational (pos 1) 1) ∷ (0 ∷ 4 ∷ [], rational (pos 1) 1) ∷ [])))).moves 0 [] ∷ [])
    ≡ jet_by 2 ((1 ∷ 0 ∷ [], rational (pos 1) 1) ∷ (1 ∷ 1 ∷ [], rational (pos 1) 3) ∷ []) ∷ jet_by 2 ((1 ∷ 0 ∷ [], rational (negsuc 0) 2) ∷ (0 ∷ 1 ∷ [], rational (pos 1) 1) ∷ (0 ∷ 2 ∷ [], rational (negsuc 0) 3) ∷ []) ∷ []
unfolding gcd rational rational_zero rational_add rational_mul rational_neg rational_inv most formula_value quadratic_scalars cubic_scalars scalars monomials_of monomials_below jet row kill_move letters_of move_of carry compose composite residual root_of lifted lifted_move squares hessian_move corank completed split_move cubic_shape quartic_shape binary_cubic binary_quartic test_of pattern_of choices finish_part finish is_read
tail_by_hand = refl
