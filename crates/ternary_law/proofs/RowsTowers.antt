-- Worked ternary cubics, by computation: their Hessian determinants, kernels, moves and carried cubics.
-- The expected values come from a program in another language that was written from the same rules.
use Rattle.std.proofs.Common.{◌≡◌, ℕ, pos, negsuc, List, [], ◌∷◌, Some, map, get_or, refl}
use Rattle.ring_theory.specs.Gcd.{gcd}
use Rattle.ring_theory.specs.Height.{rational_scalars}
use Rattle.ring_theory.specs.Rational.{Rational, rational, rational_zero, rational_add, rational_mul, rational_neg, rational_inv}
use Rattle.ext_theory.specs.Extension.{Quadratic, Cubic}
use Rattle.ext_theory.specs.ExtensionScalars.{quadratic_scalars, cubic_scalars}
use Rattle.mono_exp.specs.Exponents.{monomials_of, monomials_below}
use Rattle.poly_law.specs.Polynomials.{Polynomial}
use Rattle.jet_law.specs.Canonical.{jet, part}
use Rattle.ring_formula.specs.Formulas.{formula_value}
use Rattle.coord_change.specs.Carries.{carry}
use Rattle.move_law.specs.Shapes.{cubic_shape}
use Rattle.ternary_law.specs.Matrices.{matrix_product, unit_matrix, form_of_row, linear_move, moved, lifted_matrix}
use Rattle.ext_algebra.specs.Algebra.{scalars}
use Rattle.move_law.specs.Algebras.{root_of, lifted}
use Rattle.ternary_law.specs.Hessian.{hessian3}
use Rattle.ternary_law.specs.Cubics.{cubic_of}
use Rattle.ternary_law.specs.Steps.{axis_matrix, plane_matrix, node_step, secant_step, swap_step, cusp_second, cusp_third, tangent_second, tangent_third}
use Rattle.ternary_law.specs.Triangle.{in_tower, algebra_of, points, gradients, plane_section, slant}

abbrev o : Rational
o = rational (pos 0) 1

abbrev pair : Rational → Rational → Quadratic Rational
pair a b = record { c0 = a; c1 = b }

abbrev triple : {V : Type 0} → V → V → V → Cubic V
triple a b c = record { c0 = a; c1 = b; c2 = c }

-- a vector by its entries
abbrev at_list : List Rational → ℕ → Rational
at_list v i = get_or v i o

-- the terms of a cubic, by their exponents
abbrev terms : {V : Type 0} → Polynomial 3 V → List (List ℕ × V)
terms f = map (λ t. (t.0.entries, t.1)) f

triangle_tower_hess : hessian3 rational_scalars ((rational (pos 1) 1) ∷ o ∷ o ∷ o ∷ (rational (negsuc 5) 1) ∷ o ∷ (rational (pos 2) 1) ∷ o ∷ o ∷ (rational (pos 4) 1) ∷ []) ≡ ((rational (negsuc 215) 1) ∷ o ∷ o ∷ o ∷ (rational (pos 1296) 1) ∷ o ∷ (rational (negsuc 431) 1) ∷ o ∷ o ∷ (rational (negsuc 863) 1) ∷ [])
unfolding root_of cubic_of hessian3 carry matrix_product form_of_row linear_move scalars cubic_shape axis_matrix plane_matrix node_step secant_step swap_step cusp_second cusp_third tangent_second tangent_third lifted lifted_matrix plane_section slant points gradients jet part monomials_of monomials_below formula_value quadratic_scalars cubic_scalars rational rational_zero rational_add rational_mul rational_neg rational_inv gcd
triangle_tower_hess = refl

triangle_tower_slant : slant (cubic_of rational_scalars ((rational (pos 1) 1) ∷ o ∷ o ∷ o ∷ (rational (negsuc 5) 1) ∷ o ∷ (rational (pos 2) 1) ∷ o ∷ o ∷ (rational (pos 4) 1) ∷ [])) ≡ Some 0
unfolding root_of cubic_of hessian3 carry matrix_product form_of_row linear_move scalars cubic_shape axis_matrix plane_matrix node_step secant_step swap_step cusp_second cusp_third tangent_second tangent_third lifted lifted_matrix plane_section slant points gradients jet part monomials_of monomials_below formula_value quadratic_scalars cubic_scalars rational rational_zero rational_add rational_mul rational_neg rational_inv gcd
triangle_tower_slant = refl

triangle_tower_section : plane_section (cubic_of rational_scalars ((rational (pos 1) 1) ∷ o ∷ o ∷ o ∷ (rational (negsuc 5) 1) ∷ o ∷ (rational (pos 2) 1) ∷ o ∷ o ∷ (rational (pos 4) 1) ∷ [])) 0 ≡ ((rational (pos 1) 1) ∷ o ∷ o ∷ (rational (pos 2) 1) ∷ [])
unfolding root_of cubic_of hessian3 carry matrix_product form_of_row linear_move scalars cubic_shape axis_matrix plane_matrix node_step secant_step swap_step cusp_second cusp_third tangent_second tangent_third lifted lifted_matrix plane_section slant points gradients jet part monomials_of monomials_below formula_value quadratic_scalars cubic_scalars rational rational_zero rational_add rational_mul rational_neg rational_inv gcd
triangle_tower_section = refl

triangle_tower_gradients : gradients (scalars (algebra_of ((rational (pos 1) 1) ∷ o ∷ o ∷ (rational (pos 2) 1) ∷ []) in_tower)) (lifted (algebra_of ((rational (pos 1) 1) ∷ o ∷ o ∷ (rational (pos 2) 1) ∷ []) in_tower) (cubic_of rational_scalars ((rational (pos 1) 1) ∷ o ∷ o ∷ o ∷ (rational (negsuc 5) 1) ∷ o ∷ (rational (pos 2) 1) ∷ o ∷ o ∷ (rational (pos 4) 1) ∷ []))) 0 (points ((rational (pos 1) 1) ∷ o ∷ o ∷ (rational (pos 2) 1) ∷ []) in_tower) ≡ (((triple (pair o o) (pair o o) (pair (rational (pos 3) 1) o)) ∷ (triple (pair (rational (pos 6) 1) o) (pair o o) (pair o o)) ∷ (triple (pair o o) (pair (rational (negsuc 5) 1) o) (pair o o)) ∷ []) ∷ ((triple (pair o o) (pair o o) (pair (rational (negsuc 2) 2) (rational (pos 1) 4))) ∷ (triple (pair (rational (pos 6) 1) o) (pair o o) (pair o o)) ∷ (triple (pair o o) (pair (rational (pos 3) 1) (rational (pos 1) 2)) (pair o o)) ∷ []) ∷ ((triple (pair o o) (pair o o) (pair (rational (negsuc 2) 2) (rational (negsuc 0) 4))) ∷ (triple (pair (rational (pos 6) 1) o) (pair o o) (pair o o)) ∷ (triple (pair o o) (pair (rational (pos 3) 1) (rational (negsuc 0) 2)) (pair o o)) ∷ []) ∷ [])
unfolding root_of cubic_of hessian3 carry matrix_product form_of_row linear_move scalars cubic_shape axis_matrix plane_matrix node_step secant_step swap_step cusp_second cusp_third tangent_second tangent_third lifted lifted_matrix plane_section slant points gradients jet part monomials_of monomials_below formula_value quadratic_scalars cubic_scalars rational rational_zero rational_add rational_mul rational_neg rational_inv gcd
triangle_tower_gradients = refl

triangle_tower_tmoved : terms (moved (scalars (algebra_of ((rational (pos 1) 1) ∷ o ∷ o ∷ (rational (pos 2) 1) ∷ []) in_tower)) (((triple (pair o o) (pair (rational (negsuc 0) 18) o) (pair o o)) ∷ (triple (pair o o) (pair (rational (pos 1) 36) (rational (pos 1) 216)) (pair o o)) ∷ (triple (pair o o) (pair (rational (pos 1) 36) (rational (negsuc 0) 216)) (pair o o)) ∷ []) ∷ ((triple (pair (rational (pos 1) 18) o) (pair o o) (pair o o)) ∷ (triple (pair (rational (pos 1) 18) o) (pair o o) (pair o o)) ∷ (triple (pair (rational (pos 1) 18) o) (pair o o) (pair o o)) ∷ []) ∷ ((triple (pair o o) (pair o o) (pair (rational (pos 1) 36) o)) ∷ (triple (pair o o) (pair o o) (pair (rational (negsuc 0) 72) (rational (pos 1) 432))) ∷ (triple (pair o o) (pair o o) (pair (rational (negsuc 0) 72) (rational (negsuc 0) 432))) ∷ []) ∷ []) (lifted (algebra_of ((rational (pos 1) 1) ∷ o ∷ o ∷ (rational (pos 2) 1) ∷ []) in_tower) (cubic_of rational_scalars ((rational (pos 1) 1) ∷ o ∷ o ∷ o ∷ (rational (negsuc 5) 1) ∷ o ∷ (rational (pos 2) 1) ∷ o ∷ o ∷ (rational (pos 4) 1) ∷ [])))) ≡ (((1 ∷ 1 ∷ 1 ∷ []), (triple (pair (rational (pos 1) 108) o) (pair o o) (pair o o))) ∷ [])
unfolding root_of cubic_of hessian3 carry matrix_product form_of_row linear_move scalars cubic_shape axis_matrix plane_matrix node_step secant_step swap_step cusp_second cusp_third tangent_second tangent_third lifted lifted_matrix plane_section slant points gradients jet part monomials_of monomials_below formula_value quadratic_scalars cubic_scalars rational rational_zero rational_add rational_mul rational_neg rational_inv gcd
triangle_tower_tmoved = refl

triangle_tower_inverse : matrix_product (scalars (algebra_of ((rational (pos 1) 1) ∷ o ∷ o ∷ (rational (pos 2) 1) ∷ []) in_tower)) (((triple (pair o o) (pair (rational (negsuc 0) 18) o) (pair o o)) ∷ (triple (pair o o) (pair (rational (pos 1) 36) (rational (pos 1) 216)) (pair o o)) ∷ (triple (pair o o) (pair (rational (pos 1) 36) (rational (negsuc 0) 216)) (pair o o)) ∷ []) ∷ ((triple (pair (rational (pos 1) 18) o) (pair o o) (pair o o)) ∷ (triple (pair (rational (pos 1) 18) o) (pair o o) (pair o o)) ∷ (triple (pair (rational (pos 1) 18) o) (pair o o) (pair o o)) ∷ []) ∷ ((triple (pair o o) (pair o o) (pair (rational (pos 1) 36) o)) ∷ (triple (pair o o) (pair o o) (pair (rational (negsuc 0) 72) (rational (pos 1) 432))) ∷ (triple (pair o o) (pair o o) (pair (rational (negsuc 0) 72) (rational (negsuc 0) 432))) ∷ []) ∷ []) (((triple (pair o o) (pair o o) (pair (rational (pos 3) 1) o)) ∷ (triple (pair (rational (pos 6) 1) o) (pair o o) (pair o o)) ∷ (triple (pair o o) (pair (rational (negsuc 5) 1) o) (pair o o)) ∷ []) ∷ ((triple (pair o o) (pair o o) (pair (rational (negsuc 2) 2) (rational (pos 1) 4))) ∷ (triple (pair (rational (pos 6) 1) o) (pair o o) (pair o o)) ∷ (triple (pair o o) (pair (rational (pos 3) 1) (rational (pos 1) 2)) (pair o o)) ∷ []) ∷ ((triple (pair o o) (pair o o) (pair (rational (negsuc 2) 2) (rational (negsuc 0) 4))) ∷ (triple (pair (rational (pos 6) 1) o) (pair o o) (pair o o)) ∷ (triple (pair o o) (pair (rational (pos 3) 1) (rational (negsuc 0) 2)) (pair o o)) ∷ []) ∷ []) ≡ unit_matrix (scalars (algebra_of ((rational (pos 1) 1) ∷ o ∷ o ∷ (rational (pos 2) 1) ∷ []) in_tower))
unfolding root_of cubic_of hessian3 carry matrix_product form_of_row linear_move scalars cubic_shape axis_matrix plane_matrix node_step secant_step swap_step cusp_second cusp_third tangent_second tangent_third lifted lifted_matrix plane_section slant points gradients jet part monomials_of monomials_below formula_value quadratic_scalars cubic_scalars rational rational_zero rational_add rational_mul rational_neg rational_inv gcd
triangle_tower_inverse = refl

triangle_tower_moved_hess : hessian3 rational_scalars ((rational (pos 5) 1) ∷ o ∷ (rational (pos 21) 1) ∷ o ∷ (rational (pos 12) 1) ∷ (rational (pos 27) 1) ∷ (rational (pos 10) 1) ∷ (rational (negsuc 5) 1) ∷ (rational (pos 18) 1) ∷ (rational (pos 9) 1) ∷ []) ≡ ((rational (negsuc 4319) 1) ∷ o ∷ (rational (negsuc 18143) 1) ∷ o ∷ (rational (negsuc 10367) 1) ∷ (rational (negsuc 23327) 1) ∷ (rational (negsuc 8639) 1) ∷ (rational (pos 5184) 1) ∷ (rational (negsuc 15551) 1) ∷ (rational (negsuc 7775) 1) ∷ [])
unfolding root_of cubic_of hessian3 carry matrix_product form_of_row linear_move scalars cubic_shape axis_matrix plane_matrix node_step secant_step swap_step cusp_second cusp_third tangent_second tangent_third lifted lifted_matrix plane_section slant points gradients jet part monomials_of monomials_below formula_value quadratic_scalars cubic_scalars rational rational_zero rational_add rational_mul rational_neg rational_inv gcd
triangle_tower_moved_hess = refl

triangle_tower_moved_slant : slant (cubic_of rational_scalars ((rational (pos 5) 1) ∷ o ∷ (rational (pos 21) 1) ∷ o ∷ (rational (pos 12) 1) ∷ (rational (pos 27) 1) ∷ (rational (pos 10) 1) ∷ (rational (negsuc 5) 1) ∷ (rational (pos 18) 1) ∷ (rational (pos 9) 1) ∷ [])) ≡ Some 0
unfolding root_of cubic_of hessian3 carry matrix_product form_of_row linear_move scalars cubic_shape axis_matrix plane_matrix node_step secant_step swap_step cusp_second cusp_third tangent_second tangent_third lifted lifted_matrix plane_section slant points gradients jet part monomials_of monomials_below formula_value quadratic_scalars cubic_scalars rational rational_zero rational_add rational_mul rational_neg rational_inv gcd
triangle_tower_moved_slant = refl

triangle_tower_moved_section : plane_section (cubic_of rational_scalars ((rational (pos 5) 1) ∷ o ∷ (rational (pos 21) 1) ∷ o ∷ (rational (pos 12) 1) ∷ (rational (pos 27) 1) ∷ (rational (pos 10) 1) ∷ (rational (negsuc 5) 1) ∷ (rational (pos 18) 1) ∷ (rational (pos 9) 1) ∷ [])) 0 ≡ ((rational (pos 5) 1) ∷ o ∷ o ∷ (rational (pos 10) 1) ∷ [])
unfolding root_of cubic_of hessian3 carry matrix_product form_of_row linear_move scalars cubic_shape axis_matrix plane_matrix node_step secant_step swap_step cusp_second cusp_third tangent_second tangent_third lifted lifted_matrix plane_section slant points gradients jet part monomials_of monomials_below formula_value quadratic_scalars cubic_scalars rational rational_zero rational_add rational_mul rational_neg rational_inv gcd
triangle_tower_moved_section = refl

triangle_tower_moved_gradients : gradients (scalars (algebra_of ((rational (pos 5) 1) ∷ o ∷ o ∷ (rational (pos 10) 1) ∷ []) in_tower)) (lifted (algebra_of ((rational (pos 5) 1) ∷ o ∷ o ∷ (rational (pos 10) 1) ∷ []) in_tower) (cubic_of rational_scalars ((rational (pos 5) 1) ∷ o ∷ (rational (pos 21) 1) ∷ o ∷ (rational (pos 12) 1) ∷ (rational (pos 27) 1) ∷ (rational (pos 10) 1) ∷ (rational (negsuc 5) 1) ∷ (rational (pos 18) 1) ∷ (rational (pos 9) 1) ∷ []))) 0 (points ((rational (pos 5) 1) ∷ o ∷ o ∷ (rational (pos 10) 1) ∷ []) in_tower) ≡ (((triple (pair o o) (pair o o) (pair (rational (pos 15) 1) o)) ∷ (triple (pair (rational (pos 30) 1) o) (pair o o) (pair o o)) ∷ (triple (pair (rational (negsuc 5) 1) o) (pair (rational (pos 12) 1) o) (pair (rational (pos 21) 1) o)) ∷ []) ∷ ((triple (pair o o) (pair o o) (pair (rational (negsuc 14) 2) (rational (pos 5) 4))) ∷ (triple (pair (rational (pos 30) 1) o) (pair o o) (pair o o)) ∷ (triple (pair (rational (negsuc 5) 1) o) (pair (rational (negsuc 5) 1) (rational (negsuc 0) 1)) (pair (rational (negsuc 20) 2) (rational (pos 7) 4))) ∷ []) ∷ ((triple (pair o o) (pair o o) (pair (rational (negsuc 14) 2) (rational (negsuc 4) 4))) ∷ (triple (pair (rational (pos 30) 1) o) (pair o o) (pair o o)) ∷ (triple (pair (rational (negsuc 5) 1) o) (pair (rational (negsuc 5) 1) (rational (pos 1) 1)) (pair (rational (negsuc 20) 2) (rational (negsuc 6) 4))) ∷ []) ∷ [])
unfolding root_of cubic_of hessian3 carry matrix_product form_of_row linear_move scalars cubic_shape axis_matrix plane_matrix node_step secant_step swap_step cusp_second cusp_third tangent_second tangent_third lifted lifted_matrix plane_section slant points gradients jet part monomials_of monomials_below formula_value quadratic_scalars cubic_scalars rational rational_zero rational_add rational_mul rational_neg rational_inv gcd
triangle_tower_moved_gradients = refl

triangle_tower_moved_tmoved : terms (moved (scalars (algebra_of ((rational (pos 5) 1) ∷ o ∷ o ∷ (rational (pos 10) 1) ∷ []) in_tower)) (((triple (pair o o) (pair (rational (negsuc 0) 90) o) (pair (rational (pos 7) 360) o)) ∷ (triple (pair o o) (pair (rational (pos 1) 180) (rational (pos 1) 1080)) (pair (rational (negsuc 6) 720) (rational (pos 7) 4320))) ∷ (triple (pair o o) (pair (rational (pos 1) 180) (rational (negsuc 0) 1080)) (pair (rational (negsuc 6) 720) (rational (negsuc 6) 4320))) ∷ []) ∷ ((triple (pair (rational (pos 1) 90) o) (pair o o) (pair (rational (negsuc 0) 360) o)) ∷ (triple (pair (rational (pos 1) 90) o) (pair o o) (pair (rational (pos 1) 720) (rational (negsuc 0) 4320))) ∷ (triple (pair (rational (pos 1) 90) o) (pair o o) (pair (rational (pos 1) 720) (rational (pos 1) 4320))) ∷ []) ∷ ((triple (pair o o) (pair o o) (pair (rational (negsuc 0) 72) o)) ∷ (triple (pair o o) (pair o o) (pair (rational (pos 1) 144) (rational (negsuc 0) 864))) ∷ (triple (pair o o) (pair o o) (pair (rational (pos 1) 144) (rational (pos 1) 864))) ∷ []) ∷ []) (lifted (algebra_of ((rational (pos 5) 1) ∷ o ∷ o ∷ (rational (pos 10) 1) ∷ []) in_tower) (cubic_of rational_scalars ((rational (pos 5) 1) ∷ o ∷ (rational (pos 21) 1) ∷ o ∷ (rational (pos 12) 1) ∷ (rational (pos 27) 1) ∷ (rational (pos 10) 1) ∷ (rational (negsuc 5) 1) ∷ (rational (pos 18) 1) ∷ (rational (pos 9) 1) ∷ [])))) ≡ (((1 ∷ 1 ∷ 1 ∷ []), (triple (pair (rational (pos 1) 2700) o) (pair o o) (pair o o))) ∷ [])
unfolding root_of cubic_of hessian3 carry matrix_product form_of_row linear_move scalars cubic_shape axis_matrix plane_matrix node_step secant_step swap_step cusp_second cusp_third tangent_second tangent_third lifted lifted_matrix plane_section slant points gradients jet part monomials_of monomials_below formula_value quadratic_scalars cubic_scalars rational rational_zero rational_add rational_mul rational_neg rational_inv gcd
triangle_tower_moved_tmoved = refl

triangle_tower_moved_inverse : matrix_product (scalars (algebra_of ((rational (pos 5) 1) ∷ o ∷ o ∷ (rational (pos 10) 1) ∷ []) in_tower)) (((triple (pair o o) (pair (rational (negsuc 0) 90) o) (pair (rational (pos 7) 360) o)) ∷ (triple (pair o o) (pair (rational (pos 1) 180) (rational (pos 1) 1080)) (pair (rational (negsuc 6) 720) (rational (pos 7) 4320))) ∷ (triple (pair o o) (pair (rational (pos 1) 180) (rational (negsuc 0) 1080)) (pair (rational (negsuc 6) 720) (rational (negsuc 6) 4320))) ∷ []) ∷ ((triple (pair (rational (pos 1) 90) o) (pair o o) (pair (rational (negsuc 0) 360) o)) ∷ (triple (pair (rational (pos 1) 90) o) (pair o o) (pair (rational (pos 1) 720) (rational (negsuc 0) 4320))) ∷ (triple (pair (rational (pos 1) 90) o) (pair o o) (pair (rational (pos 1) 720) (rational (pos 1) 4320))) ∷ []) ∷ ((triple (pair o o) (pair o o) (pair (rational (negsuc 0) 72) o)) ∷ (triple (pair o o) (pair o o) (pair (rational (pos 1) 144) (rational (negsuc 0) 864))) ∷ (triple (pair o o) (pair o o) (pair (rational (pos 1) 144) (rational (pos 1) 864))) ∷ []) ∷ []) (((triple (pair o o) (pair o o) (pair (rational (pos 15) 1) o)) ∷ (triple (pair (rational (pos 30) 1) o) (pair o o) (pair o o)) ∷ (triple (pair (rational (negsuc 5) 1) o) (pair (rational (pos 12) 1) o) (pair (rational (pos 21) 1) o)) ∷ []) ∷ ((triple (pair o o) (pair o o) (pair (rational (negsuc 14) 2) (rational (pos 5) 4))) ∷ (triple (pair (rational (pos 30) 1) o) (pair o o) (pair o o)) ∷ (triple (pair (rational (negsuc 5) 1) o) (pair (rational (negsuc 5) 1) (rational (negsuc 0) 1)) (pair (rational (negsuc 20) 2) (rational (pos 7) 4))) ∷ []) ∷ ((triple (pair o o) (pair o o) (pair (rational (negsuc 14) 2) (rational (negsuc 4) 4))) ∷ (triple (pair (rational (pos 30) 1) o) (pair o o) (pair o o)) ∷ (triple (pair (rational (negsuc 5) 1) o) (pair (rational (negsuc 5) 1) (rational (pos 1) 1)) (pair (rational (negsuc 20) 2) (rational (negsuc 6) 4))) ∷ []) ∷ []) ≡ unit_matrix (scalars (algebra_of ((rational (pos 5) 1) ∷ o ∷ o ∷ (rational (pos 10) 1) ∷ []) in_tower))
unfolding root_of cubic_of hessian3 carry matrix_product form_of_row linear_move scalars cubic_shape axis_matrix plane_matrix node_step secant_step swap_step cusp_second cusp_third tangent_second tangent_third lifted lifted_matrix plane_section slant points gradients jet part monomials_of monomials_below formula_value quadratic_scalars cubic_scalars rational rational_zero rational_add rational_mul rational_neg rational_inv gcd
triangle_tower_moved_inverse = refl
