-- Worked ternary cubics, by computation: their Hessian determinants, kernels, moves and carried cubics.
-- The expected values come from a program in another language that was written from the same rules.
use Rattle.std.proofs.Common.{◌≡◌, ℕ, pos, negsuc, List, [], ◌∷◌, Some, map, get_or, refl}
use Rattle.ring_theory.specs.Gcd.{gcd}
use Rattle.ring_theory.specs.Height.{rational_scalars}
use Rattle.ring_theory.specs.Rational.{Rational, rational, rational_zero, rational_add, rational_mul, rational_neg, rational_inv}
use Rattle.ext_theory.specs.Extension.{Quadratic, Cubic}
use Rattle.ext_theory.specs.ExtensionScalars.{quadratic_scalars, cubic_scalars}
use Rattle.mono_exp.specs.Exponents.{monomials_of, monomials_below}
use Rattle.poly_law.specs.Polynomials.{Polynomial}
use Rattle.jet_law.specs.Canonical.{jet, part}
use Rattle.ring_formula.specs.Formulas.{formula_value}
use Rattle.coord_change.specs.Carries.{carry}
use Rattle.move_law.specs.Shapes.{cubic_shape}
use Rattle.ternary_law.specs.Matrices.{matrix_product, unit_matrix, form_of_row, linear_move, moved, lifted_matrix}
use Rattle.ext_algebra.specs.Algebra.{scalars}
use Rattle.move_law.specs.Algebras.{root_of, lifted}
use Rattle.ternary_law.specs.Pairs.{roots, over_root}
use Rattle.ternary_law.specs.Hessian.{hessian3}
use Rattle.ternary_law.specs.Cubics.{cubic_of}
use Rattle.ternary_law.specs.Steps.{axis_matrix, plane_matrix, node_step, secant_step, swap_step, cusp_second, cusp_third, tangent_second, tangent_third}
use Rattle.ternary_law.specs.Triangle.{at_corner, at_rational, algebra_of, points, gradients, plane_section, slant}

abbrev o : Rational
o = rational (pos 0) 1

abbrev pair : Rational → Rational → Quadratic Rational
pair a b = record { c0 = a; c1 = b }

abbrev triple : {V : Type 0} → V → V → V → Cubic V
triple a b c = record { c0 = a; c1 = b; c2 = c }

-- a vector by its entries
abbrev at_list : List Rational → ℕ → Rational
at_list v i = get_or v i o

-- the terms of a cubic, by their exponents
abbrev terms : {V : Type 0} → Polynomial 3 V → List (List ℕ × V)
terms f = map (λ t. (t.0.entries, t.1)) f

triangle_hess : hessian3 rational_scalars (o ∷ o ∷ o ∷ o ∷ (rational (pos 1) 1) ∷ o ∷ o ∷ o ∷ o ∷ o ∷ []) ≡ (o ∷ o ∷ o ∷ o ∷ (rational (pos 2) 1) ∷ o ∷ o ∷ o ∷ o ∷ o ∷ [])
unfolding root_of cubic_of hessian3 carry matrix_product form_of_row linear_move scalars cubic_shape axis_matrix plane_matrix node_step secant_step swap_step cusp_second cusp_third tangent_second tangent_third lifted lifted_matrix plane_section slant points gradients jet part monomials_of monomials_below formula_value quadratic_scalars cubic_scalars rational rational_zero rational_add rational_mul rational_neg rational_inv gcd
triangle_hess = refl

triangle_slant : slant (cubic_of rational_scalars (o ∷ o ∷ o ∷ o ∷ (rational (pos 1) 1) ∷ o ∷ o ∷ o ∷ o ∷ o ∷ [])) ≡ Some 1
unfolding root_of cubic_of hessian3 carry matrix_product form_of_row linear_move scalars cubic_shape axis_matrix plane_matrix node_step secant_step swap_step cusp_second cusp_third tangent_second tangent_third lifted lifted_matrix plane_section slant points gradients jet part monomials_of monomials_below formula_value quadratic_scalars cubic_scalars rational rational_zero rational_add rational_mul rational_neg rational_inv gcd
triangle_slant = refl

triangle_section : plane_section (cubic_of rational_scalars (o ∷ o ∷ o ∷ o ∷ (rational (pos 1) 1) ∷ o ∷ o ∷ o ∷ o ∷ o ∷ [])) 1 ≡ (o ∷ (rational (pos 1) 1) ∷ (rational (pos 1) 1) ∷ o ∷ [])
unfolding root_of cubic_of hessian3 carry matrix_product form_of_row linear_move scalars cubic_shape axis_matrix plane_matrix node_step secant_step swap_step cusp_second cusp_third tangent_second tangent_third lifted lifted_matrix plane_section slant points gradients jet part monomials_of monomials_below formula_value quadratic_scalars cubic_scalars rational rational_zero rational_add rational_mul rational_neg rational_inv gcd
triangle_section = refl

triangle_gradients : gradients (scalars (algebra_of (o ∷ (rational (pos 1) 1) ∷ (rational (pos 1) 1) ∷ o ∷ []) (at_corner (roots (rational (negsuc 0) 1) o)))) (lifted (algebra_of (o ∷ (rational (pos 1) 1) ∷ (rational (pos 1) 1) ∷ o ∷ []) (at_corner (roots (rational (negsuc 0) 1) o))) (cubic_of rational_scalars (o ∷ o ∷ o ∷ o ∷ (rational (pos 1) 1) ∷ o ∷ o ∷ o ∷ o ∷ o ∷ []))) 1 (points (o ∷ (rational (pos 1) 1) ∷ (rational (pos 1) 1) ∷ o ∷ []) (at_corner (roots (rational (negsuc 0) 1) o))) ≡ ((o ∷ (rational (pos 1) 1) ∷ o ∷ []) ∷ (o ∷ o ∷ (rational (negsuc 0) 1) ∷ []) ∷ ((rational (pos 1) 1) ∷ o ∷ o ∷ []) ∷ [])
unfolding root_of cubic_of hessian3 carry matrix_product form_of_row linear_move scalars cubic_shape axis_matrix plane_matrix node_step secant_step swap_step cusp_second cusp_third tangent_second tangent_third lifted lifted_matrix plane_section slant points gradients jet part monomials_of monomials_below formula_value quadratic_scalars cubic_scalars rational rational_zero rational_add rational_mul rational_neg rational_inv gcd
triangle_gradients = refl

triangle_tmoved : terms (moved (scalars (algebra_of (o ∷ (rational (pos 1) 1) ∷ (rational (pos 1) 1) ∷ o ∷ []) (at_corner (roots (rational (negsuc 0) 1) o)))) ((o ∷ o ∷ (rational (pos 1) 1) ∷ []) ∷ ((rational (pos 1) 1) ∷ o ∷ o ∷ []) ∷ (o ∷ (rational (negsuc 0) 1) ∷ o ∷ []) ∷ []) (lifted (algebra_of (o ∷ (rational (pos 1) 1) ∷ (rational (pos 1) 1) ∷ o ∷ []) (at_corner (roots (rational (negsuc 0) 1) o))) (cubic_of rational_scalars (o ∷ o ∷ o ∷ o ∷ (rational (pos 1) 1) ∷ o ∷ o ∷ o ∷ o ∷ o ∷ [])))) ≡ (((1 ∷ 1 ∷ 1 ∷ []), (rational (negsuc 0) 1)) ∷ [])
unfolding root_of cubic_of hessian3 carry matrix_product form_of_row linear_move scalars cubic_shape axis_matrix plane_matrix node_step secant_step swap_step cusp_second cusp_third tangent_second tangent_third lifted lifted_matrix plane_section slant points gradients jet part monomials_of monomials_below formula_value quadratic_scalars cubic_scalars rational rational_zero rational_add rational_mul rational_neg rational_inv gcd
triangle_tmoved = refl

triangle_inverse : matrix_product (scalars (algebra_of (o ∷ (rational (pos 1) 1) ∷ (rational (pos 1) 1) ∷ o ∷ []) (at_corner (roots (rational (negsuc 0) 1) o)))) ((o ∷ o ∷ (rational (pos 1) 1) ∷ []) ∷ ((rational (pos 1) 1) ∷ o ∷ o ∷ []) ∷ (o ∷ (rational (negsuc 0) 1) ∷ o ∷ []) ∷ []) ((o ∷ (rational (pos 1) 1) ∷ o ∷ []) ∷ (o ∷ o ∷ (rational (negsuc 0) 1) ∷ []) ∷ ((rational (pos 1) 1) ∷ o ∷ o ∷ []) ∷ []) ≡ unit_matrix (scalars (algebra_of (o ∷ (rational (pos 1) 1) ∷ (rational (pos 1) 1) ∷ o ∷ []) (at_corner (roots (rational (negsuc 0) 1) o))))
unfolding root_of cubic_of hessian3 carry matrix_product form_of_row linear_move scalars cubic_shape axis_matrix plane_matrix node_step secant_step swap_step cusp_second cusp_third tangent_second tangent_third lifted lifted_matrix plane_section slant points gradients jet part monomials_of monomials_below formula_value quadratic_scalars cubic_scalars rational rational_zero rational_add rational_mul rational_neg rational_inv gcd
triangle_inverse = refl

triangle_moved_hess : hessian3 rational_scalars (o ∷ (rational (pos 1) 1) ∷ (rational (negsuc 0) 1) ∷ (rational (pos 2) 1) ∷ o ∷ (rational (negsuc 1) 1) ∷ o ∷ (rational (pos 2) 1) ∷ (rational (negsuc 0) 1) ∷ (rational (negsuc 0) 1) ∷ []) ≡ (o ∷ (rational (pos 8) 1) ∷ (rational (negsuc 7) 1) ∷ (rational (pos 16) 1) ∷ o ∷ (rational (negsuc 15) 1) ∷ o ∷ (rational (pos 16) 1) ∷ (rational (negsuc 7) 1) ∷ (rational (negsuc 7) 1) ∷ [])
unfolding root_of cubic_of hessian3 carry matrix_product form_of_row linear_move scalars cubic_shape axis_matrix plane_matrix node_step secant_step swap_step cusp_second cusp_third tangent_second tangent_third lifted lifted_matrix plane_section slant points gradients jet part monomials_of monomials_below formula_value quadratic_scalars cubic_scalars rational rational_zero rational_add rational_mul rational_neg rational_inv gcd
triangle_moved_hess = refl

triangle_moved_slant : slant (cubic_of rational_scalars (o ∷ (rational (pos 1) 1) ∷ (rational (negsuc 0) 1) ∷ (rational (pos 2) 1) ∷ o ∷ (rational (negsuc 1) 1) ∷ o ∷ (rational (pos 2) 1) ∷ (rational (negsuc 0) 1) ∷ (rational (negsuc 0) 1) ∷ [])) ≡ Some 0
unfolding root_of cubic_of hessian3 carry matrix_product form_of_row linear_move scalars cubic_shape axis_matrix plane_matrix node_step secant_step swap_step cusp_second cusp_third tangent_second tangent_third lifted lifted_matrix plane_section slant points gradients jet part monomials_of monomials_below formula_value quadratic_scalars cubic_scalars rational rational_zero rational_add rational_mul rational_neg rational_inv gcd
triangle_moved_slant = refl

triangle_moved_section : plane_section (cubic_of rational_scalars (o ∷ (rational (pos 1) 1) ∷ (rational (negsuc 0) 1) ∷ (rational (pos 2) 1) ∷ o ∷ (rational (negsuc 1) 1) ∷ o ∷ (rational (pos 2) 1) ∷ (rational (negsuc 0) 1) ∷ (rational (negsuc 0) 1) ∷ [])) 0 ≡ (o ∷ (rational (pos 1) 1) ∷ (rational (pos 2) 1) ∷ o ∷ [])
unfolding root_of cubic_of hessian3 carry matrix_product form_of_row linear_move scalars cubic_shape axis_matrix plane_matrix node_step secant_step swap_step cusp_second cusp_third tangent_second tangent_third lifted lifted_matrix plane_section slant points gradients jet part monomials_of monomials_below formula_value quadratic_scalars cubic_scalars rational rational_zero rational_add rational_mul rational_neg rational_inv gcd
triangle_moved_section = refl

triangle_moved_gradients : gradients (scalars (algebra_of (o ∷ (rational (pos 1) 1) ∷ (rational (pos 2) 1) ∷ o ∷ []) (at_corner (roots (rational (negsuc 1) 1) o)))) (lifted (algebra_of (o ∷ (rational (pos 1) 1) ∷ (rational (pos 2) 1) ∷ o ∷ []) (at_corner (roots (rational (negsuc 1) 1) o))) (cubic_of rational_scalars (o ∷ (rational (pos 1) 1) ∷ (rational (negsuc 0) 1) ∷ (rational (pos 2) 1) ∷ o ∷ (rational (negsuc 1) 1) ∷ o ∷ (rational (pos 2) 1) ∷ (rational (negsuc 0) 1) ∷ (rational (negsuc 0) 1) ∷ []))) 0 (points (o ∷ (rational (pos 1) 1) ∷ (rational (pos 2) 1) ∷ o ∷ []) (at_corner (roots (rational (negsuc 1) 1) o))) ≡ ((o ∷ (rational (pos 1) 1) ∷ (rational (negsuc 0) 1) ∷ []) ∷ ((rational (negsuc 1) 1) ∷ (rational (negsuc 3) 1) ∷ (rational (negsuc 1) 1) ∷ []) ∷ ((rational (pos 2) 1) ∷ o ∷ (rational (pos 2) 1) ∷ []) ∷ [])
unfolding root_of cubic_of hessian3 carry matrix_product form_of_row linear_move scalars cubic_shape axis_matrix plane_matrix node_step secant_step swap_step cusp_second cusp_third tangent_second tangent_third lifted lifted_matrix plane_section slant points gradients jet part monomials_of monomials_below formula_value quadratic_scalars cubic_scalars rational rational_zero rational_add rational_mul rational_neg rational_inv gcd
triangle_moved_gradients = refl

triangle_moved_tmoved : terms (moved (scalars (algebra_of (o ∷ (rational (pos 1) 1) ∷ (rational (pos 2) 1) ∷ o ∷ []) (at_corner (roots (rational (negsuc 1) 1) o)))) (((rational (pos 1) 1) ∷ (rational (pos 1) 4) ∷ (rational (pos 3) 4) ∷ []) ∷ (o ∷ (rational (negsuc 0) 4) ∷ (rational (negsuc 0) 4) ∷ []) ∷ ((rational (negsuc 0) 1) ∷ (rational (negsuc 0) 4) ∷ (rational (negsuc 0) 4) ∷ []) ∷ []) (lifted (algebra_of (o ∷ (rational (pos 1) 1) ∷ (rational (pos 2) 1) ∷ o ∷ []) (at_corner (roots (rational (negsuc 1) 1) o))) (cubic_of rational_scalars (o ∷ (rational (pos 1) 1) ∷ (rational (negsuc 0) 1) ∷ (rational (pos 2) 1) ∷ o ∷ (rational (negsuc 1) 1) ∷ o ∷ (rational (pos 2) 1) ∷ (rational (negsuc 0) 1) ∷ (rational (negsuc 0) 1) ∷ [])))) ≡ (((1 ∷ 1 ∷ 1 ∷ []), (rational (negsuc 0) 4)) ∷ [])
unfolding root_of cubic_of hessian3 carry matrix_product form_of_row linear_move scalars cubic_shape axis_matrix plane_matrix node_step secant_step swap_step cusp_second cusp_third tangent_second tangent_third lifted lifted_matrix plane_section slant points gradients jet part monomials_of monomials_below formula_value quadratic_scalars cubic_scalars rational rational_zero rational_add rational_mul rational_neg rational_inv gcd
triangle_moved_tmoved = refl

triangle_moved_inverse : matrix_product (scalars (algebra_of (o ∷ (rational (pos 1) 1) ∷ (rational (pos 2) 1) ∷ o ∷ []) (at_corner (roots (rational (negsuc 1) 1) o)))) (((rational (pos 1) 1) ∷ (rational (pos 1) 4) ∷ (rational (pos 3) 4) ∷ []) ∷ (o ∷ (rational (negsuc 0) 4) ∷ (rational (negsuc 0) 4) ∷ []) ∷ ((rational (negsuc 0) 1) ∷ (rational (negsuc 0) 4) ∷ (rational (negsuc 0) 4) ∷ []) ∷ []) ((o ∷ (rational (pos 1) 1) ∷ (rational (negsuc 0) 1) ∷ []) ∷ ((rational (negsuc 1) 1) ∷ (rational (negsuc 3) 1) ∷ (rational (negsuc 1) 1) ∷ []) ∷ ((rational (pos 2) 1) ∷ o ∷ (rational (pos 2) 1) ∷ []) ∷ []) ≡ unit_matrix (scalars (algebra_of (o ∷ (rational (pos 1) 1) ∷ (rational (pos 2) 1) ∷ o ∷ []) (at_corner (roots (rational (negsuc 1) 1) o))))
unfolding root_of cubic_of hessian3 carry matrix_product form_of_row linear_move scalars cubic_shape axis_matrix plane_matrix node_step secant_step swap_step cusp_second cusp_third tangent_second tangent_third lifted lifted_matrix plane_section slant points gradients jet part monomials_of monomials_below formula_value quadratic_scalars cubic_scalars rational rational_zero rational_add rational_mul rational_neg rational_inv gcd
triangle_moved_inverse = refl

triangle_quadratic_hess : hessian3 rational_scalars (o ∷ o ∷ (rational (pos 1) 1) ∷ o ∷ o ∷ o ∷ o ∷ (rational (negsuc 1) 1) ∷ o ∷ o ∷ []) ≡ (o ∷ o ∷ (rational (pos 16) 1) ∷ o ∷ o ∷ o ∷ o ∷ (rational (negsuc 31) 1) ∷ o ∷ o ∷ [])
unfolding root_of cubic_of hessian3 carry matrix_product form_of_row linear_move scalars cubic_shape axis_matrix plane_matrix node_step secant_step swap_step cusp_second cusp_third tangent_second tangent_third lifted lifted_matrix plane_section slant points gradients jet part monomials_of monomials_below formula_value quadratic_scalars cubic_scalars rational rational_zero rational_add rational_mul rational_neg rational_inv gcd
triangle_quadratic_hess = refl

triangle_quadratic_slant : slant (cubic_of rational_scalars (o ∷ o ∷ (rational (pos 1) 1) ∷ o ∷ o ∷ o ∷ o ∷ (rational (negsuc 1) 1) ∷ o ∷ o ∷ [])) ≡ Some 1
unfolding root_of cubic_of hessian3 carry matrix_product form_of_row linear_move scalars cubic_shape axis_matrix plane_matrix node_step secant_step swap_step cusp_second cusp_third tangent_second tangent_third lifted lifted_matrix plane_section slant points gradients jet part monomials_of monomials_below formula_value quadratic_scalars cubic_scalars rational rational_zero rational_add rational_mul rational_neg rational_inv gcd
triangle_quadratic_slant = refl

triangle_quadratic_section : plane_section (cubic_of rational_scalars (o ∷ o ∷ (rational (pos 1) 1) ∷ o ∷ o ∷ o ∷ o ∷ (rational (negsuc 1) 1) ∷ o ∷ o ∷ [])) 1 ≡ ((rational (pos 1) 1) ∷ (rational (pos 1) 1) ∷ (rational (negsuc 1) 1) ∷ (rational (negsuc 1) 1) ∷ [])
unfolding root_of cubic_of hessian3 carry matrix_product form_of_row linear_move scalars cubic_shape axis_matrix plane_matrix node_step secant_step swap_step cusp_second cusp_third tangent_second tangent_third lifted lifted_matrix plane_section slant points gradients jet part monomials_of monomials_below formula_value quadratic_scalars cubic_scalars rational rational_zero rational_add rational_mul rational_neg rational_inv gcd
triangle_quadratic_section = refl

triangle_quadratic_gradients : gradients (scalars (algebra_of ((rational (pos 1) 1) ∷ (rational (pos 1) 1) ∷ (rational (negsuc 1) 1) ∷ (rational (negsuc 1) 1) ∷ []) (at_rational (rational (negsuc 0) 1) over_root))) (lifted (algebra_of ((rational (pos 1) 1) ∷ (rational (pos 1) 1) ∷ (rational (negsuc 1) 1) ∷ (rational (negsuc 1) 1) ∷ []) (at_rational (rational (negsuc 0) 1) over_root)) (cubic_of rational_scalars (o ∷ o ∷ (rational (pos 1) 1) ∷ o ∷ o ∷ o ∷ o ∷ (rational (negsuc 1) 1) ∷ o ∷ o ∷ []))) 1 (points ((rational (pos 1) 1) ∷ (rational (pos 1) 1) ∷ (rational (negsuc 1) 1) ∷ (rational (negsuc 1) 1) ∷ []) (at_rational (rational (negsuc 0) 1) over_root)) ≡ (((pair o o) ∷ (pair o o) ∷ (pair (rational (negsuc 0) 1) o) ∷ []) ∷ ((pair (rational (pos 4) 1) (rational (pos 2) 1)) ∷ (pair (rational (negsuc 3) 1) (rational (negsuc 3) 1)) ∷ (pair o o) ∷ []) ∷ ((pair (rational (pos 4) 1) (rational (negsuc 1) 1)) ∷ (pair (rational (negsuc 3) 1) (rational (pos 4) 1)) ∷ (pair o o) ∷ []) ∷ [])
unfolding root_of cubic_of hessian3 carry matrix_product form_of_row linear_move scalars cubic_shape axis_matrix plane_matrix node_step secant_step swap_step cusp_second cusp_third tangent_second tangent_third lifted lifted_matrix plane_section slant points gradients jet part monomials_of monomials_below formula_value quadratic_scalars cubic_scalars rational rational_zero rational_add rational_mul rational_neg rational_inv gcd
triangle_quadratic_gradients = refl

triangle_quadratic_tmoved : terms (moved (scalars (algebra_of ((rational (pos 1) 1) ∷ (rational (pos 1) 1) ∷ (rational (negsuc 1) 1) ∷ (rational (negsuc 1) 1) ∷ []) (at_rational (rational (negsuc 0) 1) over_root))) (((pair o o) ∷ (pair (rational (pos 1) 4) (rational (negsuc 0) 8)) ∷ (pair (rational (pos 1) 4) (rational (pos 1) 8)) ∷ []) ∷ ((pair o o) ∷ (pair (rational (pos 1) 8) (rational (negsuc 0) 8)) ∷ (pair (rational (pos 1) 8) (rational (pos 1) 8)) ∷ []) ∷ ((pair (rational (negsuc 0) 1) o) ∷ (pair o o) ∷ (pair o o) ∷ []) ∷ []) (lifted (algebra_of ((rational (pos 1) 1) ∷ (rational (pos 1) 1) ∷ (rational (negsuc 1) 1) ∷ (rational (negsuc 1) 1) ∷ []) (at_rational (rational (negsuc 0) 1) over_root)) (cubic_of rational_scalars (o ∷ o ∷ (rational (pos 1) 1) ∷ o ∷ o ∷ o ∷ o ∷ (rational (negsuc 1) 1) ∷ o ∷ o ∷ [])))) ≡ (((1 ∷ 1 ∷ 1 ∷ []), (pair (rational (negsuc 0) 8) o)) ∷ [])
unfolding root_of cubic_of hessian3 carry matrix_product form_of_row linear_move scalars cubic_shape axis_matrix plane_matrix node_step secant_step swap_step cusp_second cusp_third tangent_second tangent_third lifted lifted_matrix plane_section slant points gradients jet part monomials_of monomials_below formula_value quadratic_scalars cubic_scalars rational rational_zero rational_add rational_mul rational_neg rational_inv gcd
triangle_quadratic_tmoved = refl

triangle_quadratic_inverse : matrix_product (scalars (algebra_of ((rational (pos 1) 1) ∷ (rational (pos 1) 1) ∷ (rational (negsuc 1) 1) ∷ (rational (negsuc 1) 1) ∷ []) (at_rational (rational (negsuc 0) 1) over_root))) (((pair o o) ∷ (pair (rational (pos 1) 4) (rational (negsuc 0) 8)) ∷ (pair (rational (pos 1) 4) (rational (pos 1) 8)) ∷ []) ∷ ((pair o o) ∷ (pair (rational (pos 1) 8) (rational (negsuc 0) 8)) ∷ (pair (rational (pos 1) 8) (rational (pos 1) 8)) ∷ []) ∷ ((pair (rational (negsuc 0) 1) o) ∷ (pair o o) ∷ (pair o o) ∷ []) ∷ []) (((pair o o) ∷ (pair o o) ∷ (pair (rational (negsuc 0) 1) o) ∷ []) ∷ ((pair (rational (pos 4) 1) (rational (pos 2) 1)) ∷ (pair (rational (negsuc 3) 1) (rational (negsuc 3) 1)) ∷ (pair o o) ∷ []) ∷ ((pair (rational (pos 4) 1) (rational (negsuc 1) 1)) ∷ (pair (rational (negsuc 3) 1) (rational (pos 4) 1)) ∷ (pair o o) ∷ []) ∷ []) ≡ unit_matrix (scalars (algebra_of ((rational (pos 1) 1) ∷ (rational (pos 1) 1) ∷ (rational (negsuc 1) 1) ∷ (rational (negsuc 1) 1) ∷ []) (at_rational (rational (negsuc 0) 1) over_root)))
unfolding root_of cubic_of hessian3 carry matrix_product form_of_row linear_move scalars cubic_shape axis_matrix plane_matrix node_step secant_step swap_step cusp_second cusp_third tangent_second tangent_third lifted lifted_matrix plane_section slant points gradients jet part monomials_of monomials_below formula_value quadratic_scalars cubic_scalars rational rational_zero rational_add rational_mul rational_neg rational_inv gcd
triangle_quadratic_inverse = refl

triangle_quadratic_moved_hess : hessian3 rational_scalars ((rational (pos 1) 1) ∷ (rational (pos 4) 1) ∷ (rational (pos 3) 1) ∷ (rational (pos 2) 1) ∷ (rational (pos 12) 1) ∷ (rational (pos 1) 1) ∷ o ∷ (rational (pos 2) 1) ∷ (rational (pos 8) 1) ∷ (rational (negsuc 0) 1) ∷ []) ≡ ((rational (pos 64) 1) ∷ (rational (pos 256) 1) ∷ (rational (pos 192) 1) ∷ (rational (pos 128) 1) ∷ (rational (pos 768) 1) ∷ (rational (pos 64) 1) ∷ o ∷ (rational (pos 128) 1) ∷ (rational (pos 512) 1) ∷ (rational (negsuc 63) 1) ∷ [])
unfolding root_of cubic_of hessian3 carry matrix_product form_of_row linear_move scalars cubic_shape axis_matrix plane_matrix node_step secant_step swap_step cusp_second cusp_third tangent_second tangent_third lifted lifted_matrix plane_section slant points gradients jet part monomials_of monomials_below formula_value quadratic_scalars cubic_scalars rational rational_zero rational_add rational_mul rational_neg rational_inv gcd
triangle_quadratic_moved_hess = refl

triangle_quadratic_moved_slant : slant (cubic_of rational_scalars ((rational (pos 1) 1) ∷ (rational (pos 4) 1) ∷ (rational (pos 3) 1) ∷ (rational (pos 2) 1) ∷ (rational (pos 12) 1) ∷ (rational (pos 1) 1) ∷ o ∷ (rational (pos 2) 1) ∷ (rational (pos 8) 1) ∷ (rational (negsuc 0) 1) ∷ [])) ≡ Some 0
unfolding root_of cubic_of hessian3 carry matrix_product form_of_row linear_move scalars cubic_shape axis_matrix plane_matrix node_step secant_step swap_step cusp_second cusp_third tangent_second tangent_third lifted lifted_matrix plane_section slant points gradients jet part monomials_of monomials_below formula_value quadratic_scalars cubic_scalars rational rational_zero rational_add rational_mul rational_neg rational_inv gcd
triangle_quadratic_moved_slant = refl

triangle_quadratic_moved_section : plane_section (cubic_of rational_scalars ((rational (pos 1) 1) ∷ (rational (pos 4) 1) ∷ (rational (pos 3) 1) ∷ (rational (pos 2) 1) ∷ (rational (pos 12) 1) ∷ (rational (pos 1) 1) ∷ o ∷ (rational (pos 2) 1) ∷ (rational (pos 8) 1) ∷ (rational (negsuc 0) 1) ∷ [])) 0 ≡ ((rational (pos 1) 1) ∷ (rational (pos 4) 1) ∷ (rational (pos 2) 1) ∷ o ∷ [])
unfolding root_of cubic_of hessian3 carry matrix_product form_of_row linear_move scalars cubic_shape axis_matrix plane_matrix node_step secant_step swap_step cusp_second cusp_third tangent_second tangent_third lifted lifted_matrix plane_section slant points gradients jet part monomials_of monomials_below formula_value quadratic_scalars cubic_scalars rational rational_zero rational_add rational_mul rational_neg rational_inv gcd
triangle_quadratic_moved_section = refl

triangle_quadratic_moved_gradients : gradients (scalars (algebra_of ((rational (pos 1) 1) ∷ (rational (pos 4) 1) ∷ (rational (pos 2) 1) ∷ o ∷ []) (at_rational o over_root))) (lifted (algebra_of ((rational (pos 1) 1) ∷ (rational (pos 4) 1) ∷ (rational (pos 2) 1) ∷ o ∷ []) (at_rational o over_root)) (cubic_of rational_scalars ((rational (pos 1) 1) ∷ (rational (pos 4) 1) ∷ (rational (pos 3) 1) ∷ (rational (pos 2) 1) ∷ (rational (pos 12) 1) ∷ (rational (pos 1) 1) ∷ o ∷ (rational (pos 2) 1) ∷ (rational (pos 8) 1) ∷ (rational (negsuc 0) 1) ∷ []))) 0 (points ((rational (pos 1) 1) ∷ (rational (pos 4) 1) ∷ (rational (pos 2) 1) ∷ o ∷ []) (at_rational o over_root)) ≡ (((pair (rational (pos 2) 1) o) ∷ (pair o o) ∷ (pair (rational (pos 2) 1) o) ∷ []) ∷ ((pair (rational (negsuc 3) 1) (rational (negsuc 3) 1)) ∷ (pair (rational (negsuc 7) 1) (rational (negsuc 11) 1)) ∷ (pair (rational (negsuc 3) 1) o) ∷ []) ∷ ((pair (rational (pos 12) 1) (rational (pos 4) 1)) ∷ (pair (rational (pos 40) 1) (rational (pos 12) 1)) ∷ (pair (rational (negsuc 3) 1) o) ∷ []) ∷ [])
unfolding root_of cubic_of hessian3 carry matrix_product form_of_row linear_move scalars cubic_shape axis_matrix plane_matrix node_step secant_step swap_step cusp_second cusp_third tangent_second tangent_third lifted lifted_matrix plane_section slant points gradients jet part monomials_of monomials_below formula_value quadratic_scalars cubic_scalars rational rational_zero rational_add rational_mul rational_neg rational_inv gcd
triangle_quadratic_moved_gradients = refl

triangle_quadratic_moved_tmoved : terms (moved (scalars (algebra_of ((rational (pos 1) 1) ∷ (rational (pos 4) 1) ∷ (rational (pos 2) 1) ∷ o ∷ []) (at_rational o over_root))) (((pair (rational (pos 3) 4) o) ∷ (pair (rational (pos 7) 16) (rational (pos 1) 8)) ∷ (pair (rational (negsuc 0) 16) (rational (negsuc 0) 8)) ∷ []) ∷ ((pair (rational (negsuc 0) 4) o) ∷ (pair (rational (negsuc 2) 16) (rational (negsuc 0) 16)) ∷ (pair (rational (pos 1) 16) (rational (pos 1) 16)) ∷ []) ∷ ((pair (rational (negsuc 0) 4) o) ∷ (pair (rational (negsuc 6) 16) (rational (negsuc 0) 8)) ∷ (pair (rational (pos 1) 16) (rational (pos 1) 8)) ∷ []) ∷ []) (lifted (algebra_of ((rational (pos 1) 1) ∷ (rational (pos 4) 1) ∷ (rational (pos 2) 1) ∷ o ∷ []) (at_rational o over_root)) (cubic_of rational_scalars ((rational (pos 1) 1) ∷ (rational (pos 4) 1) ∷ (rational (pos 3) 1) ∷ (rational (pos 2) 1) ∷ (rational (pos 12) 1) ∷ (rational (pos 1) 1) ∷ o ∷ (rational (pos 2) 1) ∷ (rational (pos 8) 1) ∷ (rational (negsuc 0) 1) ∷ [])))) ≡ (((1 ∷ 1 ∷ 1 ∷ []), (pair (rational (negsuc 0) 32) o)) ∷ [])
unfolding root_of cubic_of hessian3 carry matrix_product form_of_row linear_move scalars cubic_shape axis_matrix plane_matrix node_step secant_step swap_step cusp_second cusp_third tangent_second tangent_third lifted lifted_matrix plane_section slant points gradients jet part monomials_of monomials_below formula_value quadratic_scalars cubic_scalars rational rational_zero rational_add rational_mul rational_neg rational_inv gcd
triangle_quadratic_moved_tmoved = refl

triangle_quadratic_moved_inverse : matrix_product (scalars (algebra_of ((rational (pos 1) 1) ∷ (rational (pos 4) 1) ∷ (rational (pos 2) 1) ∷ o ∷ []) (at_rational o over_root))) (((pair (rational (pos 3) 4) o) ∷ (pair (rational (pos 7) 16) (rational (pos 1) 8)) ∷ (pair (rational (negsuc 0) 16) (rational (negsuc 0) 8)) ∷ []) ∷ ((pair (rational (negsuc 0) 4) o) ∷ (pair (rational (negsuc 2) 16) (rational (negsuc 0) 16)) ∷ (pair (rational (pos 1) 16) (rational (pos 1) 16)) ∷ []) ∷ ((pair (rational (negsuc 0) 4) o) ∷ (pair (rational (negsuc 6) 16) (rational (negsuc 0) 8)) ∷ (pair (rational (pos 1) 16) (rational (pos 1) 8)) ∷ []) ∷ []) (((pair (rational (pos 2) 1) o) ∷ (pair o o) ∷ (pair (rational (pos 2) 1) o) ∷ []) ∷ ((pair (rational (negsuc 3) 1) (rational (negsuc 3) 1)) ∷ (pair (rational (negsuc 7) 1) (rational (negsuc 11) 1)) ∷ (pair (rational (negsuc 3) 1) o) ∷ []) ∷ ((pair (rational (pos 12) 1) (rational (pos 4) 1)) ∷ (pair (rational (pos 40) 1) (rational (pos 12) 1)) ∷ (pair (rational (negsuc 3) 1) o) ∷ []) ∷ []) ≡ unit_matrix (scalars (algebra_of ((rational (pos 1) 1) ∷ (rational (pos 4) 1) ∷ (rational (pos 2) 1) ∷ o ∷ []) (at_rational o over_root)))
unfolding root_of cubic_of hessian3 carry matrix_product form_of_row linear_move scalars cubic_shape axis_matrix plane_matrix node_step secant_step swap_step cusp_second cusp_third tangent_second tangent_third lifted lifted_matrix plane_section slant points gradients jet part monomials_of monomials_below formula_value quadratic_scalars cubic_scalars rational rational_zero rational_add rational_mul rational_neg rational_inv gcd
triangle_quadratic_moved_inverse = refl
