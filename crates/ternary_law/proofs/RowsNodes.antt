-- Worked ternary cubics, by computation: their Hessian determinants, kernels, moves and carried cubics.
-- The expected values come from a program in another language that was written from the same rules.
use Rattle.std.proofs.Common.{◌≡◌, ℕ, pos, negsuc, List, [], ◌∷◌, map, get_or, refl}
use Rattle.ring_theory.specs.Gcd.{gcd}
use Rattle.ring_theory.specs.Height.{rational_scalars}
use Rattle.ring_theory.specs.Rational.{Rational, rational, rational_zero, rational_add, rational_mul, rational_neg, rational_inv, rational_ops}
use Rattle.ext_theory.specs.Extension.{Quadratic, Cubic}
use Rattle.ext_theory.specs.ExtensionScalars.{quadratic_scalars, cubic_scalars}
use Rattle.mono_exp.specs.Exponents.{monomials_of, monomials_below}
use Rattle.poly_law.specs.Polynomials.{Polynomial}
use Rattle.jet_law.specs.Canonical.{jet, part}
use Rattle.ring_formula.specs.Formulas.{formula_value}
use Rattle.coord_change.specs.Carries.{carry}
use Rattle.move_law.specs.Shapes.{cubic_shape}
use Rattle.ternary_law.specs.Linear.{row_at}
use Rattle.ternary_law.specs.Matrices.{matrix_product, unit_matrix, form_of_row, linear_move, lifted_matrix}
use Rattle.ext_algebra.specs.Algebra.{scalars}
use Rattle.move_law.specs.Algebras.{root_of, lifted}
use Rattle.ternary_law.specs.Pairs.{corner, over_root, pair_algebra}
use Rattle.ternary_law.specs.Hessian.{hessian3}
use Rattle.ternary_law.specs.Cubics.{cubic_of, product_rows}
use Rattle.ternary_law.specs.Steps.{axis_matrix, plane_matrix, node_step, secant_step, swap_step, cusp_second, cusp_third, tangent_second, tangent_third}
use Rattle.ternary_law.specs.Routes.{pair_of, route_matrix, end}
use Rattle.ternary_law.specs.Rules.{node_route}
use Rattle.ternary_law.specs.Triangle.{points, gradients, plane_section, slant}

abbrev o : Rational
o = rational (pos 0) 1

abbrev pair : Rational → Rational → Quadratic Rational
pair a b = record { c0 = a; c1 = b }

abbrev triple : {V : Type 0} → V → V → V → Cubic V
triple a b c = record { c0 = a; c1 = b; c2 = c }

-- a vector by its entries
abbrev at_list : List Rational → ℕ → Rational
at_list v i = get_or v i o

-- the terms of a cubic, by their exponents
abbrev terms : {V : Type 0} → Polynomial 3 V → List (List ℕ × V)
terms f = map (λ t. (t.0.entries, t.1)) f

node_hess : hessian3 rational_scalars ((rational (pos 1) 1) ∷ o ∷ o ∷ o ∷ (rational (pos 1) 1) ∷ o ∷ (rational (pos 1) 1) ∷ o ∷ o ∷ o ∷ []) ≡ ((rational (negsuc 5) 1) ∷ o ∷ o ∷ o ∷ (rational (pos 2) 1) ∷ o ∷ (rational (negsuc 5) 1) ∷ o ∷ o ∷ o ∷ [])
unfolding root_of cubic_of hessian3 carry matrix_product form_of_row linear_move scalars cubic_shape axis_matrix plane_matrix node_step secant_step swap_step cusp_second cusp_third tangent_second tangent_third lifted lifted_matrix plane_section slant points gradients jet part monomials_of monomials_below formula_value quadratic_scalars cubic_scalars rational rational_zero rational_add rational_mul rational_neg rational_inv gcd
node_hess = refl

node_matrix : route_matrix (cubic_of rational_scalars ((rational (pos 1) 1) ∷ o ∷ o ∷ o ∷ (rational (pos 1) 1) ∷ o ∷ (rational (pos 1) 1) ∷ o ∷ o ∷ o ∷ [])) (node_route (cubic_of rational_scalars ((rational (pos 1) 1) ∷ o ∷ o ∷ o ∷ (rational (pos 1) 1) ∷ o ∷ (rational (pos 1) 1) ∷ o ∷ o ∷ o ∷ [])) (at_list (o ∷ o ∷ o ∷ o ∷ o ∷ o ∷ o ∷ o ∷ o ∷ o ∷ o ∷ o ∷ o ∷ o ∷ (rational (pos 1) 1) ∷ []))) corner ≡ (((rational (pos 1) 1) ∷ o ∷ o ∷ []) ∷ (o ∷ (rational (pos 1) 1) ∷ o ∷ []) ∷ (o ∷ o ∷ (rational (pos 1) 1) ∷ []) ∷ [])
unfolding root_of cubic_of hessian3 carry matrix_product form_of_row linear_move scalars cubic_shape axis_matrix plane_matrix node_step secant_step swap_step cusp_second cusp_third tangent_second tangent_third lifted lifted_matrix plane_section slant points gradients jet part monomials_of monomials_below formula_value quadratic_scalars cubic_scalars rational rational_zero rational_add rational_mul rational_neg rational_inv gcd
node_matrix = refl

node_inverse : matrix_product (scalars (pair_algebra (pair_of (cubic_of rational_scalars ((rational (pos 1) 1) ∷ o ∷ o ∷ o ∷ (rational (pos 1) 1) ∷ o ∷ (rational (pos 1) 1) ∷ o ∷ o ∷ o ∷ [])) (node_route (cubic_of rational_scalars ((rational (pos 1) 1) ∷ o ∷ o ∷ o ∷ (rational (pos 1) 1) ∷ o ∷ (rational (pos 1) 1) ∷ o ∷ o ∷ o ∷ [])) (at_list (o ∷ o ∷ o ∷ o ∷ o ∷ o ∷ o ∷ o ∷ o ∷ o ∷ o ∷ o ∷ o ∷ o ∷ (rational (pos 1) 1) ∷ [])))) corner)) (((rational (pos 1) 1) ∷ o ∷ o ∷ []) ∷ (o ∷ (rational (pos 1) 1) ∷ o ∷ []) ∷ (o ∷ o ∷ (rational (pos 1) 1) ∷ []) ∷ []) (((rational (pos 1) 1) ∷ o ∷ o ∷ []) ∷ (o ∷ (rational (pos 1) 1) ∷ o ∷ []) ∷ (o ∷ o ∷ (rational (pos 1) 1) ∷ []) ∷ []) ≡ unit_matrix (scalars (pair_algebra (pair_of (cubic_of rational_scalars ((rational (pos 1) 1) ∷ o ∷ o ∷ o ∷ (rational (pos 1) 1) ∷ o ∷ (rational (pos 1) 1) ∷ o ∷ o ∷ o ∷ [])) (node_route (cubic_of rational_scalars ((rational (pos 1) 1) ∷ o ∷ o ∷ o ∷ (rational (pos 1) 1) ∷ o ∷ (rational (pos 1) 1) ∷ o ∷ o ∷ o ∷ [])) (at_list (o ∷ o ∷ o ∷ o ∷ o ∷ o ∷ o ∷ o ∷ o ∷ o ∷ o ∷ o ∷ o ∷ o ∷ (rational (pos 1) 1) ∷ [])))) corner))
unfolding root_of cubic_of hessian3 carry matrix_product form_of_row linear_move scalars cubic_shape axis_matrix plane_matrix node_step secant_step swap_step cusp_second cusp_third tangent_second tangent_third lifted lifted_matrix plane_section slant points gradients jet part monomials_of monomials_below formula_value quadratic_scalars cubic_scalars rational rational_zero rational_add rational_mul rational_neg rational_inv gcd
node_inverse = refl

node_end : terms (end (cubic_of rational_scalars ((rational (pos 1) 1) ∷ o ∷ o ∷ o ∷ (rational (pos 1) 1) ∷ o ∷ (rational (pos 1) 1) ∷ o ∷ o ∷ o ∷ [])) (node_route (cubic_of rational_scalars ((rational (pos 1) 1) ∷ o ∷ o ∷ o ∷ (rational (pos 1) 1) ∷ o ∷ (rational (pos 1) 1) ∷ o ∷ o ∷ o ∷ [])) (at_list (o ∷ o ∷ o ∷ o ∷ o ∷ o ∷ o ∷ o ∷ o ∷ o ∷ o ∷ o ∷ o ∷ o ∷ (rational (pos 1) 1) ∷ []))) corner) ≡ (((3 ∷ 0 ∷ 0 ∷ []), (rational (pos 1) 1)) ∷ ((1 ∷ 1 ∷ 1 ∷ []), (rational (pos 1) 1)) ∷ ((0 ∷ 3 ∷ 0 ∷ []), (rational (pos 1) 1)) ∷ [])
unfolding root_of cubic_of hessian3 carry matrix_product form_of_row linear_move scalars cubic_shape axis_matrix plane_matrix node_step secant_step swap_step cusp_second cusp_third tangent_second tangent_third lifted lifted_matrix plane_section slant points gradients jet part monomials_of monomials_below formula_value quadratic_scalars cubic_scalars rational rational_zero rational_add rational_mul rational_neg rational_inv gcd
node_end = refl

node_functional : map (λ row. row_at rational_ops 15 row (at_list (o ∷ o ∷ o ∷ o ∷ o ∷ o ∷ o ∷ o ∷ o ∷ o ∷ o ∷ o ∷ o ∷ o ∷ (rational (pos 1) 1) ∷ []))) (product_rows rational_scalars (cubic_of rational_scalars ((rational (pos 1) 1) ∷ o ∷ o ∷ o ∷ (rational (pos 1) 1) ∷ o ∷ (rational (pos 1) 1) ∷ o ∷ o ∷ o ∷ []))) ≡ (o ∷ o ∷ o ∷ o ∷ o ∷ o ∷ o ∷ o ∷ o ∷ o ∷ o ∷ o ∷ o ∷ o ∷ o ∷ o ∷ o ∷ o ∷ [])
unfolding root_of cubic_of hessian3 carry matrix_product form_of_row linear_move scalars cubic_shape axis_matrix plane_matrix node_step secant_step swap_step cusp_second cusp_third tangent_second tangent_third lifted lifted_matrix plane_section slant points gradients jet part monomials_of monomials_below formula_value quadratic_scalars cubic_scalars rational rational_zero rational_add rational_mul rational_neg rational_inv gcd
node_functional = refl

node_moved_hess : hessian3 rational_scalars ((rational (pos 1) 1) ∷ (rational (pos 7) 1) ∷ (rational (pos 2) 1) ∷ (rational (pos 14) 1) ∷ (rational (pos 12) 1) ∷ (rational (pos 1) 1) ∷ (rational (pos 9) 1) ∷ (rational (pos 11) 1) ∷ (rational (pos 8) 1) ∷ (rational (negsuc 0) 1) ∷ []) ≡ ((rational (negsuc 23) 1) ∷ (rational (negsuc 135) 1) ∷ (rational (negsuc 79) 1) ∷ (rational (negsuc 271) 1) ∷ (rational (negsuc 287) 1) ∷ (rational (negsuc 87) 1) ∷ (rational (negsuc 215) 1) ∷ (rational (negsuc 199) 1) ∷ (rational (negsuc 223) 1) ∷ (rational (negsuc 7) 1) ∷ [])
unfolding root_of cubic_of hessian3 carry matrix_product form_of_row linear_move scalars cubic_shape axis_matrix plane_matrix node_step secant_step swap_step cusp_second cusp_third tangent_second tangent_third lifted lifted_matrix plane_section slant points gradients jet part monomials_of monomials_below formula_value quadratic_scalars cubic_scalars rational rational_zero rational_add rational_mul rational_neg rational_inv gcd
node_moved_hess = refl

node_moved_matrix : route_matrix (cubic_of rational_scalars ((rational (pos 1) 1) ∷ (rational (pos 7) 1) ∷ (rational (pos 2) 1) ∷ (rational (pos 14) 1) ∷ (rational (pos 12) 1) ∷ (rational (pos 1) 1) ∷ (rational (pos 9) 1) ∷ (rational (pos 11) 1) ∷ (rational (pos 8) 1) ∷ (rational (negsuc 0) 1) ∷ [])) (node_route (cubic_of rational_scalars ((rational (pos 1) 1) ∷ (rational (pos 7) 1) ∷ (rational (pos 2) 1) ∷ (rational (pos 14) 1) ∷ (rational (pos 12) 1) ∷ (rational (pos 1) 1) ∷ (rational (pos 9) 1) ∷ (rational (pos 11) 1) ∷ (rational (pos 8) 1) ∷ (rational (negsuc 0) 1) ∷ [])) (at_list ((rational (pos 81) 1) ∷ (rational (negsuc 26) 1) ∷ (rational (negsuc 26) 1) ∷ (rational (pos 9) 1) ∷ (rational (pos 9) 1) ∷ (rational (pos 9) 1) ∷ (rational (negsuc 2) 1) ∷ (rational (negsuc 2) 1) ∷ (rational (negsuc 2) 1) ∷ (rational (negsuc 2) 1) ∷ (rational (pos 1) 1) ∷ (rational (pos 1) 1) ∷ (rational (pos 1) 1) ∷ (rational (pos 1) 1) ∷ (rational (pos 1) 1) ∷ []))) corner ≡ (((rational (negsuc 0) 2) ∷ (rational (pos 1) 1) ∷ (rational (negsuc 2) 1) ∷ []) ∷ ((rational (pos 1) 2) ∷ o ∷ (rational (pos 1) 1) ∷ []) ∷ ((rational (pos 1) 2) ∷ (rational (negsuc 0) 1) ∷ (rational (pos 1) 1) ∷ []) ∷ [])
unfolding root_of cubic_of hessian3 carry matrix_product form_of_row linear_move scalars cubic_shape axis_matrix plane_matrix node_step secant_step swap_step cusp_second cusp_third tangent_second tangent_third lifted lifted_matrix plane_section slant points gradients jet part monomials_of monomials_below formula_value quadratic_scalars cubic_scalars rational rational_zero rational_add rational_mul rational_neg rational_inv gcd
node_moved_matrix = refl

node_moved_inverse : matrix_product (scalars (pair_algebra (pair_of (cubic_of rational_scalars ((rational (pos 1) 1) ∷ (rational (pos 7) 1) ∷ (rational (pos 2) 1) ∷ (rational (pos 14) 1) ∷ (rational (pos 12) 1) ∷ (rational (pos 1) 1) ∷ (rational (pos 9) 1) ∷ (rational (pos 11) 1) ∷ (rational (pos 8) 1) ∷ (rational (negsuc 0) 1) ∷ [])) (node_route (cubic_of rational_scalars ((rational (pos 1) 1) ∷ (rational (pos 7) 1) ∷ (rational (pos 2) 1) ∷ (rational (pos 14) 1) ∷ (rational (pos 12) 1) ∷ (rational (pos 1) 1) ∷ (rational (pos 9) 1) ∷ (rational (pos 11) 1) ∷ (rational (pos 8) 1) ∷ (rational (negsuc 0) 1) ∷ [])) (at_list ((rational (pos 81) 1) ∷ (rational (negsuc 26) 1) ∷ (rational (negsuc 26) 1) ∷ (rational (pos 9) 1) ∷ (rational (pos 9) 1) ∷ (rational (pos 9) 1) ∷ (rational (negsuc 2) 1) ∷ (rational (negsuc 2) 1) ∷ (rational (negsuc 2) 1) ∷ (rational (negsuc 2) 1) ∷ (rational (pos 1) 1) ∷ (rational (pos 1) 1) ∷ (rational (pos 1) 1) ∷ (rational (pos 1) 1) ∷ (rational (pos 1) 1) ∷ [])))) corner)) (((rational (negsuc 0) 2) ∷ (rational (pos 1) 1) ∷ (rational (negsuc 2) 1) ∷ []) ∷ ((rational (pos 1) 2) ∷ o ∷ (rational (pos 1) 1) ∷ []) ∷ ((rational (pos 1) 2) ∷ (rational (negsuc 0) 1) ∷ (rational (pos 1) 1) ∷ []) ∷ []) (((rational (pos 1) 1) ∷ (rational (pos 2) 1) ∷ (rational (pos 1) 1) ∷ []) ∷ (o ∷ (rational (pos 1) 1) ∷ (rational (negsuc 0) 1) ∷ []) ∷ ((rational (negsuc 0) 2) ∷ o ∷ (rational (negsuc 0) 2) ∷ []) ∷ []) ≡ unit_matrix (scalars (pair_algebra (pair_of (cubic_of rational_scalars ((rational (pos 1) 1) ∷ (rational (pos 7) 1) ∷ (rational (pos 2) 1) ∷ (rational (pos 14) 1) ∷ (rational (pos 12) 1) ∷ (rational (pos 1) 1) ∷ (rational (pos 9) 1) ∷ (rational (pos 11) 1) ∷ (rational (pos 8) 1) ∷ (rational (negsuc 0) 1) ∷ [])) (node_route (cubic_of rational_scalars ((rational (pos 1) 1) ∷ (rational (pos 7) 1) ∷ (rational (pos 2) 1) ∷ (rational (pos 14) 1) ∷ (rational (pos 12) 1) ∷ (rational (pos 1) 1) ∷ (rational (pos 9) 1) ∷ (rational (pos 11) 1) ∷ (rational (pos 8) 1) ∷ (rational (negsuc 0) 1) ∷ [])) (at_list ((rational (pos 81) 1) ∷ (rational (negsuc 26) 1) ∷ (rational (negsuc 26) 1) ∷ (rational (pos 9) 1) ∷ (rational (pos 9) 1) ∷ (rational (pos 9) 1) ∷ (rational (negsuc 2) 1) ∷ (rational (negsuc 2) 1) ∷ (rational (negsuc 2) 1) ∷ (rational (negsuc 2) 1) ∷ (rational (pos 1) 1) ∷ (rational (pos 1) 1) ∷ (rational (pos 1) 1) ∷ (rational (pos 1) 1) ∷ (rational (pos 1) 1) ∷ [])))) corner))
unfolding root_of cubic_of hessian3 carry matrix_product form_of_row linear_move scalars cubic_shape axis_matrix plane_matrix node_step secant_step swap_step cusp_second cusp_third tangent_second tangent_third lifted lifted_matrix plane_section slant points gradients jet part monomials_of monomials_below formula_value quadratic_scalars cubic_scalars rational rational_zero rational_add rational_mul rational_neg rational_inv gcd
node_moved_inverse = refl

node_moved_end : terms (end (cubic_of rational_scalars ((rational (pos 1) 1) ∷ (rational (pos 7) 1) ∷ (rational (pos 2) 1) ∷ (rational (pos 14) 1) ∷ (rational (pos 12) 1) ∷ (rational (pos 1) 1) ∷ (rational (pos 9) 1) ∷ (rational (pos 11) 1) ∷ (rational (pos 8) 1) ∷ (rational (negsuc 0) 1) ∷ [])) (node_route (cubic_of rational_scalars ((rational (pos 1) 1) ∷ (rational (pos 7) 1) ∷ (rational (pos 2) 1) ∷ (rational (pos 14) 1) ∷ (rational (pos 12) 1) ∷ (rational (pos 1) 1) ∷ (rational (pos 9) 1) ∷ (rational (pos 11) 1) ∷ (rational (pos 8) 1) ∷ (rational (negsuc 0) 1) ∷ [])) (at_list ((rational (pos 81) 1) ∷ (rational (negsuc 26) 1) ∷ (rational (negsuc 26) 1) ∷ (rational (pos 9) 1) ∷ (rational (pos 9) 1) ∷ (rational (pos 9) 1) ∷ (rational (negsuc 2) 1) ∷ (rational (negsuc 2) 1) ∷ (rational (negsuc 2) 1) ∷ (rational (negsuc 2) 1) ∷ (rational (pos 1) 1) ∷ (rational (pos 1) 1) ∷ (rational (pos 1) 1) ∷ (rational (pos 1) 1) ∷ (rational (pos 1) 1) ∷ []))) corner) ≡ (((3 ∷ 0 ∷ 0 ∷ []), (rational (pos 1) 1)) ∷ ((1 ∷ 1 ∷ 1 ∷ []), (rational (negsuc 1) 1)) ∷ ((0 ∷ 3 ∷ 0 ∷ []), (rational (pos 1) 1)) ∷ [])
unfolding root_of cubic_of hessian3 carry matrix_product form_of_row linear_move scalars cubic_shape axis_matrix plane_matrix node_step secant_step swap_step cusp_second cusp_third tangent_second tangent_third lifted lifted_matrix plane_section slant points gradients jet part monomials_of monomials_below formula_value quadratic_scalars cubic_scalars rational rational_zero rational_add rational_mul rational_neg rational_inv gcd
node_moved_end = refl

node_moved_functional : map (λ row. row_at rational_ops 15 row (at_list ((rational (pos 81) 1) ∷ (rational (negsuc 26) 1) ∷ (rational (negsuc 26) 1) ∷ (rational (pos 9) 1) ∷ (rational (pos 9) 1) ∷ (rational (pos 9) 1) ∷ (rational (negsuc 2) 1) ∷ (rational (negsuc 2) 1) ∷ (rational (negsuc 2) 1) ∷ (rational (negsuc 2) 1) ∷ (rational (pos 1) 1) ∷ (rational (pos 1) 1) ∷ (rational (pos 1) 1) ∷ (rational (pos 1) 1) ∷ (rational (pos 1) 1) ∷ []))) (product_rows rational_scalars (cubic_of rational_scalars ((rational (pos 1) 1) ∷ (rational (pos 7) 1) ∷ (rational (pos 2) 1) ∷ (rational (pos 14) 1) ∷ (rational (pos 12) 1) ∷ (rational (pos 1) 1) ∷ (rational (pos 9) 1) ∷ (rational (pos 11) 1) ∷ (rational (pos 8) 1) ∷ (rational (negsuc 0) 1) ∷ []))) ≡ (o ∷ o ∷ o ∷ o ∷ o ∷ o ∷ o ∷ o ∷ o ∷ o ∷ o ∷ o ∷ o ∷ o ∷ o ∷ o ∷ o ∷ o ∷ [])
unfolding root_of cubic_of hessian3 carry matrix_product form_of_row linear_move scalars cubic_shape axis_matrix plane_matrix node_step secant_step swap_step cusp_second cusp_third tangent_second tangent_third lifted lifted_matrix plane_section slant points gradients jet part monomials_of monomials_below formula_value quadratic_scalars cubic_scalars rational rational_zero rational_add rational_mul rational_neg rational_inv gcd
node_moved_functional = refl

node_over_hess : hessian3 rational_scalars ((rational (pos 1) 1) ∷ o ∷ (rational (pos 1) 1) ∷ o ∷ o ∷ o ∷ o ∷ (rational (pos 1) 1) ∷ o ∷ o ∷ []) ≡ (o ∷ o ∷ (rational (negsuc 7) 1) ∷ (rational (negsuc 23) 1) ∷ o ∷ o ∷ o ∷ (rational (negsuc 7) 1) ∷ o ∷ o ∷ [])
unfolding root_of cubic_of hessian3 carry matrix_product form_of_row linear_move scalars cubic_shape axis_matrix plane_matrix node_step secant_step swap_step cusp_second cusp_third tangent_second tangent_third lifted lifted_matrix plane_section slant points gradients jet part monomials_of monomials_below formula_value quadratic_scalars cubic_scalars rational rational_zero rational_add rational_mul rational_neg rational_inv gcd
node_over_hess = refl

node_over_matrix : route_matrix (cubic_of rational_scalars ((rational (pos 1) 1) ∷ o ∷ (rational (pos 1) 1) ∷ o ∷ o ∷ o ∷ o ∷ (rational (pos 1) 1) ∷ o ∷ o ∷ [])) (node_route (cubic_of rational_scalars ((rational (pos 1) 1) ∷ o ∷ (rational (pos 1) 1) ∷ o ∷ o ∷ o ∷ o ∷ (rational (pos 1) 1) ∷ o ∷ o ∷ [])) (at_list (o ∷ o ∷ o ∷ o ∷ o ∷ o ∷ o ∷ o ∷ o ∷ o ∷ o ∷ o ∷ o ∷ o ∷ (rational (pos 1) 1) ∷ []))) over_root ≡ (((pair o (rational (negsuc 0) 1)) ∷ (pair o (rational (negsuc 0) 1)) ∷ (pair o o) ∷ []) ∷ ((pair (rational (pos 1) 1) o) ∷ (pair (rational (negsuc 0) 1) o) ∷ (pair o o) ∷ []) ∷ ((pair o (rational (pos 3) 4)) ∷ (pair o (rational (pos 3) 4)) ∷ (pair (rational (pos 1) 1) o) ∷ []) ∷ [])
unfolding root_of cubic_of hessian3 carry matrix_product form_of_row linear_move scalars cubic_shape axis_matrix plane_matrix node_step secant_step swap_step cusp_second cusp_third tangent_second tangent_third lifted lifted_matrix plane_section slant points gradients jet part monomials_of monomials_below formula_value quadratic_scalars cubic_scalars rational rational_zero rational_add rational_mul rational_neg rational_inv gcd
node_over_matrix = refl

node_over_inverse : matrix_product (scalars (pair_algebra (pair_of (cubic_of rational_scalars ((rational (pos 1) 1) ∷ o ∷ (rational (pos 1) 1) ∷ o ∷ o ∷ o ∷ o ∷ (rational (pos 1) 1) ∷ o ∷ o ∷ [])) (node_route (cubic_of rational_scalars ((rational (pos 1) 1) ∷ o ∷ (rational (pos 1) 1) ∷ o ∷ o ∷ o ∷ o ∷ (rational (pos 1) 1) ∷ o ∷ o ∷ [])) (at_list (o ∷ o ∷ o ∷ o ∷ o ∷ o ∷ o ∷ o ∷ o ∷ o ∷ o ∷ o ∷ o ∷ o ∷ (rational (pos 1) 1) ∷ [])))) over_root)) (((pair o (rational (negsuc 0) 1)) ∷ (pair o (rational (negsuc 0) 1)) ∷ (pair o o) ∷ []) ∷ ((pair (rational (pos 1) 1) o) ∷ (pair (rational (negsuc 0) 1) o) ∷ (pair o o) ∷ []) ∷ ((pair o (rational (pos 3) 4)) ∷ (pair o (rational (pos 3) 4)) ∷ (pair (rational (pos 1) 1) o) ∷ []) ∷ []) (((pair o (rational (pos 1) 2)) ∷ (pair (rational (pos 1) 2) o) ∷ (pair o o) ∷ []) ∷ ((pair o (rational (pos 1) 2)) ∷ (pair (rational (negsuc 0) 2) o) ∷ (pair o o) ∷ []) ∷ ((pair (rational (pos 3) 4) o) ∷ (pair o o) ∷ (pair (rational (pos 1) 1) o) ∷ []) ∷ []) ≡ unit_matrix (scalars (pair_algebra (pair_of (cubic_of rational_scalars ((rational (pos 1) 1) ∷ o ∷ (rational (pos 1) 1) ∷ o ∷ o ∷ o ∷ o ∷ (rational (pos 1) 1) ∷ o ∷ o ∷ [])) (node_route (cubic_of rational_scalars ((rational (pos 1) 1) ∷ o ∷ (rational (pos 1) 1) ∷ o ∷ o ∷ o ∷ o ∷ (rational (pos 1) 1) ∷ o ∷ o ∷ [])) (at_list (o ∷ o ∷ o ∷ o ∷ o ∷ o ∷ o ∷ o ∷ o ∷ o ∷ o ∷ o ∷ o ∷ o ∷ (rational (pos 1) 1) ∷ [])))) over_root))
unfolding root_of cubic_of hessian3 carry matrix_product form_of_row linear_move scalars cubic_shape axis_matrix plane_matrix node_step secant_step swap_step cusp_second cusp_third tangent_second tangent_third lifted lifted_matrix plane_section slant points gradients jet part monomials_of monomials_below formula_value quadratic_scalars cubic_scalars rational rational_zero rational_add rational_mul rational_neg rational_inv gcd
node_over_inverse = refl

node_over_end : terms (end (cubic_of rational_scalars ((rational (pos 1) 1) ∷ o ∷ (rational (pos 1) 1) ∷ o ∷ o ∷ o ∷ o ∷ (rational (pos 1) 1) ∷ o ∷ o ∷ [])) (node_route (cubic_of rational_scalars ((rational (pos 1) 1) ∷ o ∷ (rational (pos 1) 1) ∷ o ∷ o ∷ o ∷ o ∷ (rational (pos 1) 1) ∷ o ∷ o ∷ [])) (at_list (o ∷ o ∷ o ∷ o ∷ o ∷ o ∷ o ∷ o ∷ o ∷ o ∷ o ∷ o ∷ o ∷ o ∷ (rational (pos 1) 1) ∷ []))) over_root) ≡ (((3 ∷ 0 ∷ 0 ∷ []), (pair o (rational (pos 1) 1))) ∷ ((1 ∷ 1 ∷ 1 ∷ []), (pair (rational (negsuc 3) 1) o)) ∷ ((0 ∷ 3 ∷ 0 ∷ []), (pair o (rational (pos 1) 1))) ∷ [])
unfolding root_of cubic_of hessian3 carry matrix_product form_of_row linear_move scalars cubic_shape axis_matrix plane_matrix node_step secant_step swap_step cusp_second cusp_third tangent_second tangent_third lifted lifted_matrix plane_section slant points gradients jet part monomials_of monomials_below formula_value quadratic_scalars cubic_scalars rational rational_zero rational_add rational_mul rational_neg rational_inv gcd
node_over_end = refl

node_over_functional : map (λ row. row_at rational_ops 15 row (at_list (o ∷ o ∷ o ∷ o ∷ o ∷ o ∷ o ∷ o ∷ o ∷ o ∷ o ∷ o ∷ o ∷ o ∷ (rational (pos 1) 1) ∷ []))) (product_rows rational_scalars (cubic_of rational_scalars ((rational (pos 1) 1) ∷ o ∷ (rational (pos 1) 1) ∷ o ∷ o ∷ o ∷ o ∷ (rational (pos 1) 1) ∷ o ∷ o ∷ []))) ≡ (o ∷ o ∷ o ∷ o ∷ o ∷ o ∷ o ∷ o ∷ o ∷ o ∷ o ∷ o ∷ o ∷ o ∷ o ∷ o ∷ o ∷ o ∷ [])
unfolding root_of cubic_of hessian3 carry matrix_product form_of_row linear_move scalars cubic_shape axis_matrix plane_matrix node_step secant_step swap_step cusp_second cusp_third tangent_second tangent_third lifted lifted_matrix plane_section slant points gradients jet part monomials_of monomials_below formula_value quadratic_scalars cubic_scalars rational rational_zero rational_add rational_mul rational_neg rational_inv gcd
node_over_functional = refl

node_over_moved_hess : hessian3 rational_scalars ((rational (pos 2) 1) ∷ (rational (pos 10) 1) ∷ (rational (pos 6) 1) ∷ (rational (pos 17) 1) ∷ (rational (pos 18) 1) ∷ (rational (pos 7) 1) ∷ (rational (pos 8) 1) ∷ (rational (pos 17) 1) ∷ (rational (pos 8) 1) ∷ (rational (pos 3) 1) ∷ []) ≡ ((rational (negsuc 31) 1) ∷ (rational (negsuc 127) 1) ∷ (rational (negsuc 95) 1) ∷ (rational (negsuc 255) 1) ∷ o ∷ (rational (negsuc 223) 1) ∷ (rational (negsuc 191) 1) ∷ (rational (pos 128) 1) ∷ (rational (negsuc 63) 1) ∷ (rational (negsuc 159) 1) ∷ [])
unfolding root_of cubic_of hessian3 carry matrix_product form_of_row linear_move scalars cubic_shape axis_matrix plane_matrix node_step secant_step swap_step cusp_second cusp_third tangent_second tangent_third lifted lifted_matrix plane_section slant points gradients jet part monomials_of monomials_below formula_value quadratic_scalars cubic_scalars rational rational_zero rational_add rational_mul rational_neg rational_inv gcd
node_over_moved_hess = refl

node_over_moved_matrix : route_matrix (cubic_of rational_scalars ((rational (pos 2) 1) ∷ (rational (pos 10) 1) ∷ (rational (pos 6) 1) ∷ (rational (pos 17) 1) ∷ (rational (pos 18) 1) ∷ (rational (pos 7) 1) ∷ (rational (pos 8) 1) ∷ (rational (pos 17) 1) ∷ (rational (pos 8) 1) ∷ (rational (pos 3) 1) ∷ [])) (node_route (cubic_of rational_scalars ((rational (pos 2) 1) ∷ (rational (pos 10) 1) ∷ (rational (pos 6) 1) ∷ (rational (pos 17) 1) ∷ (rational (pos 18) 1) ∷ (rational (pos 7) 1) ∷ (rational (pos 8) 1) ∷ (rational (pos 17) 1) ∷ (rational (pos 8) 1) ∷ (rational (pos 3) 1) ∷ [])) (at_list ((rational (pos 81) 1) ∷ (rational (negsuc 26) 1) ∷ (rational (negsuc 26) 1) ∷ (rational (pos 9) 1) ∷ (rational (pos 9) 1) ∷ (rational (pos 9) 1) ∷ (rational (negsuc 2) 1) ∷ (rational (negsuc 2) 1) ∷ (rational (negsuc 2) 1) ∷ (rational (negsuc 2) 1) ∷ (rational (pos 1) 1) ∷ (rational (pos 1) 1) ∷ (rational (pos 1) 1) ∷ (rational (pos 1) 1) ∷ (rational (pos 1) 1) ∷ []))) over_root ≡ (((pair (rational (pos 17) 4) (rational (pos 13) 8)) ∷ (pair (rational (pos 9) 4) (rational (pos 13) 8)) ∷ (pair (rational (negsuc 2) 1) o) ∷ []) ∷ ((pair (rational (negsuc 6) 4) (rational (negsuc 6) 8)) ∷ (pair (rational (negsuc 6) 4) (rational (negsuc 6) 8)) ∷ (pair (rational (pos 1) 1) o) ∷ []) ∷ ((pair (rational (negsuc 10) 4) (rational (negsuc 6) 8)) ∷ (pair (rational (negsuc 2) 4) (rational (negsuc 6) 8)) ∷ (pair (rational (pos 1) 1) o) ∷ []) ∷ [])
unfolding root_of cubic_of hessian3 carry matrix_product form_of_row linear_move scalars cubic_shape axis_matrix plane_matrix node_step secant_step swap_step cusp_second cusp_third tangent_second tangent_third lifted lifted_matrix plane_section slant points gradients jet part monomials_of monomials_below formula_value quadratic_scalars cubic_scalars rational rational_zero rational_add rational_mul rational_neg rational_inv gcd
node_over_moved_matrix = refl

node_over_moved_inverse : matrix_product (scalars (pair_algebra (pair_of (cubic_of rational_scalars ((rational (pos 2) 1) ∷ (rational (pos 10) 1) ∷ (rational (pos 6) 1) ∷ (rational (pos 17) 1) ∷ (rational (pos 18) 1) ∷ (rational (pos 7) 1) ∷ (rational (pos 8) 1) ∷ (rational (pos 17) 1) ∷ (rational (pos 8) 1) ∷ (rational (pos 3) 1) ∷ [])) (node_route (cubic_of rational_scalars ((rational (pos 2) 1) ∷ (rational (pos 10) 1) ∷ (rational (pos 6) 1) ∷ (rational (pos 17) 1) ∷ (rational (pos 18) 1) ∷ (rational (pos 7) 1) ∷ (rational (pos 8) 1) ∷ (rational (pos 17) 1) ∷ (rational (pos 8) 1) ∷ (rational (pos 3) 1) ∷ [])) (at_list ((rational (pos 81) 1) ∷ (rational (negsuc 26) 1) ∷ (rational (negsuc 26) 1) ∷ (rational (pos 9) 1) ∷ (rational (pos 9) 1) ∷ (rational (pos 9) 1) ∷ (rational (negsuc 2) 1) ∷ (rational (negsuc 2) 1) ∷ (rational (negsuc 2) 1) ∷ (rational (negsuc 2) 1) ∷ (rational (pos 1) 1) ∷ (rational (pos 1) 1) ∷ (rational (pos 1) 1) ∷ (rational (pos 1) 1) ∷ (rational (pos 1) 1) ∷ [])))) over_root)) (((pair (rational (pos 17) 4) (rational (pos 13) 8)) ∷ (pair (rational (pos 9) 4) (rational (pos 13) 8)) ∷ (pair (rational (negsuc 2) 1) o) ∷ []) ∷ ((pair (rational (negsuc 6) 4) (rational (negsuc 6) 8)) ∷ (pair (rational (negsuc 6) 4) (rational (negsuc 6) 8)) ∷ (pair (rational (pos 1) 1) o) ∷ []) ∷ ((pair (rational (negsuc 10) 4) (rational (negsuc 6) 8)) ∷ (pair (rational (negsuc 2) 4) (rational (negsuc 6) 8)) ∷ (pair (rational (pos 1) 1) o) ∷ []) ∷ []) (((pair (rational (pos 1) 1) (rational (pos 1) 2)) ∷ (pair (rational (pos 5) 2) (rational (pos 1) 1)) ∷ (pair (rational (pos 1) 2) (rational (pos 1) 2)) ∷ []) ∷ ((pair (rational (pos 1) 1) (rational (pos 1) 2)) ∷ (pair (rational (pos 3) 2) (rational (pos 1) 1)) ∷ (pair (rational (pos 3) 2) (rational (pos 1) 2)) ∷ []) ∷ ((pair (rational (negsuc 6) 8) o) ∷ (pair (rational (negsuc 2) 4) o) ∷ (pair (rational (negsuc 6) 8) o) ∷ []) ∷ []) ≡ unit_matrix (scalars (pair_algebra (pair_of (cubic_of rational_scalars ((rational (pos 2) 1) ∷ (rational (pos 10) 1) ∷ (rational (pos 6) 1) ∷ (rational (pos 17) 1) ∷ (rational (pos 18) 1) ∷ (rational (pos 7) 1) ∷ (rational (pos 8) 1) ∷ (rational (pos 17) 1) ∷ (rational (pos 8) 1) ∷ (rational (pos 3) 1) ∷ [])) (node_route (cubic_of rational_scalars ((rational (pos 2) 1) ∷ (rational (pos 10) 1) ∷ (rational (pos 6) 1) ∷ (rational (pos 17) 1) ∷ (rational (pos 18) 1) ∷ (rational (pos 7) 1) ∷ (rational (pos 8) 1) ∷ (rational (pos 17) 1) ∷ (rational (pos 8) 1) ∷ (rational (pos 3) 1) ∷ [])) (at_list ((rational (pos 81) 1) ∷ (rational (negsuc 26) 1) ∷ (rational (negsuc 26) 1) ∷ (rational (pos 9) 1) ∷ (rational (pos 9) 1) ∷ (rational (pos 9) 1) ∷ (rational (negsuc 2) 1) ∷ (rational (negsuc 2) 1) ∷ (rational (negsuc 2) 1) ∷ (rational (negsuc 2) 1) ∷ (rational (pos 1) 1) ∷ (rational (pos 1) 1) ∷ (rational (pos 1) 1) ∷ (rational (pos 1) 1) ∷ (rational (pos 1) 1) ∷ [])))) over_root))
unfolding root_of cubic_of hessian3 carry matrix_product form_of_row linear_move scalars cubic_shape axis_matrix plane_matrix node_step secant_step swap_step cusp_second cusp_third tangent_second tangent_third lifted lifted_matrix plane_section slant points gradients jet part monomials_of monomials_below formula_value quadratic_scalars cubic_scalars rational rational_zero rational_add rational_mul rational_neg rational_inv gcd
node_over_moved_inverse = refl

node_over_moved_end : terms (end (cubic_of rational_scalars ((rational (pos 2) 1) ∷ (rational (pos 10) 1) ∷ (rational (pos 6) 1) ∷ (rational (pos 17) 1) ∷ (rational (pos 18) 1) ∷ (rational (pos 7) 1) ∷ (rational (pos 8) 1) ∷ (rational (pos 17) 1) ∷ (rational (pos 8) 1) ∷ (rational (pos 3) 1) ∷ [])) (node_route (cubic_of rational_scalars ((rational (pos 2) 1) ∷ (rational (pos 10) 1) ∷ (rational (pos 6) 1) ∷ (rational (pos 17) 1) ∷ (rational (pos 18) 1) ∷ (rational (pos 7) 1) ∷ (rational (pos 8) 1) ∷ (rational (pos 17) 1) ∷ (rational (pos 8) 1) ∷ (rational (pos 3) 1) ∷ [])) (at_list ((rational (pos 81) 1) ∷ (rational (negsuc 26) 1) ∷ (rational (negsuc 26) 1) ∷ (rational (pos 9) 1) ∷ (rational (pos 9) 1) ∷ (rational (pos 9) 1) ∷ (rational (negsuc 2) 1) ∷ (rational (negsuc 2) 1) ∷ (rational (negsuc 2) 1) ∷ (rational (negsuc 2) 1) ∷ (rational (pos 1) 1) ∷ (rational (pos 1) 1) ∷ (rational (pos 1) 1) ∷ (rational (pos 1) 1) ∷ (rational (pos 1) 1) ∷ []))) over_root) ≡ (((3 ∷ 0 ∷ 0 ∷ []), (pair (rational (pos 2) 1) (rational (pos 1) 1))) ∷ ((1 ∷ 1 ∷ 1 ∷ []), (pair (rational (pos 8) 1) o)) ∷ ((0 ∷ 3 ∷ 0 ∷ []), (pair (rational (pos 2) 1) (rational (pos 1) 1))) ∷ [])
unfolding root_of cubic_of hessian3 carry matrix_product form_of_row linear_move scalars cubic_shape axis_matrix plane_matrix node_step secant_step swap_step cusp_second cusp_third tangent_second tangent_third lifted lifted_matrix plane_section slant points gradients jet part monomials_of monomials_below formula_value quadratic_scalars cubic_scalars rational rational_zero rational_add rational_mul rational_neg rational_inv gcd
node_over_moved_end = refl

node_over_moved_functional : map (λ row. row_at rational_ops 15 row (at_list ((rational (pos 81) 1) ∷ (rational (negsuc 26) 1) ∷ (rational (negsuc 26) 1) ∷ (rational (pos 9) 1) ∷ (rational (pos 9) 1) ∷ (rational (pos 9) 1) ∷ (rational (negsuc 2) 1) ∷ (rational (negsuc 2) 1) ∷ (rational (negsuc 2) 1) ∷ (rational (negsuc 2) 1) ∷ (rational (pos 1) 1) ∷ (rational (pos 1) 1) ∷ (rational (pos 1) 1) ∷ (rational (pos 1) 1) ∷ (rational (pos 1) 1) ∷ []))) (product_rows rational_scalars (cubic_of rational_scalars ((rational (pos 2) 1) ∷ (rational (pos 10) 1) ∷ (rational (pos 6) 1) ∷ (rational (pos 17) 1) ∷ (rational (pos 18) 1) ∷ (rational (pos 7) 1) ∷ (rational (pos 8) 1) ∷ (rational (pos 17) 1) ∷ (rational (pos 8) 1) ∷ (rational (pos 3) 1) ∷ []))) ≡ (o ∷ o ∷ o ∷ o ∷ o ∷ o ∷ o ∷ o ∷ o ∷ o ∷ o ∷ o ∷ o ∷ o ∷ o ∷ o ∷ o ∷ o ∷ [])
unfolding root_of cubic_of hessian3 carry matrix_product form_of_row linear_move scalars cubic_shape axis_matrix plane_matrix node_step secant_step swap_step cusp_second cusp_third tangent_second tangent_third lifted lifted_matrix plane_section slant points gradients jet part monomials_of monomials_below formula_value quadratic_scalars cubic_scalars rational rational_zero rational_add rational_mul rational_neg rational_inv gcd
node_over_moved_functional = refl
