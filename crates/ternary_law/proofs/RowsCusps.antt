-- Worked ternary cubics, by computation: their Hessian determinants, kernels, moves and carried cubics.
-- The expected values come from a program in another language that was written from the same rules.
use Rattle.std.proofs.Common.{◌≡◌, ℕ, pos, negsuc, List, [], ◌∷◌, map, get_or, refl}
use Rattle.ring_theory.specs.Gcd.{gcd}
use Rattle.ring_theory.specs.Height.{rational_scalars}
use Rattle.ring_theory.specs.Rational.{Rational, rational, rational_zero, rational_add, rational_mul, rational_neg, rational_inv}
use Rattle.ext_theory.specs.Extension.{Quadratic, Cubic}
use Rattle.ext_theory.specs.ExtensionScalars.{quadratic_scalars, cubic_scalars}
use Rattle.mono_exp.specs.Exponents.{monomials_of, monomials_below}
use Rattle.poly_law.specs.Polynomials.{Polynomial}
use Rattle.jet_law.specs.Canonical.{jet, part}
use Rattle.ring_formula.specs.Formulas.{formula_value}
use Rattle.coord_change.specs.Carries.{carry}
use Rattle.move_law.specs.Shapes.{cubic_shape}
use Rattle.ternary_law.specs.Matrices.{matrix_product, unit_matrix, form_of_row, linear_move, lifted_matrix}
use Rattle.ext_algebra.specs.Algebra.{scalars}
use Rattle.move_law.specs.Algebras.{root_of, lifted}
use Rattle.ternary_law.specs.Hessian.{hessian3}
use Rattle.ternary_law.specs.Cubics.{cubic_of}
use Rattle.ternary_law.specs.Steps.{axis_matrix, plane_matrix, node_step, secant_step, swap_step, cusp_second, cusp_third, tangent_second, tangent_third}
use Rattle.ternary_law.specs.Routes.{matrix_by, reached}
use Rattle.ternary_law.specs.Rules.{all_cusp_steps, all_tangent_steps}
use Rattle.ternary_law.specs.Triangle.{points, gradients, plane_section, slant}

abbrev o : Rational
o = rational (pos 0) 1

abbrev pair : Rational → Rational → Quadratic Rational
pair a b = record { c0 = a; c1 = b }

abbrev triple : {V : Type 0} → V → V → V → Cubic V
triple a b c = record { c0 = a; c1 = b; c2 = c }

-- a vector by its entries
abbrev at_list : List Rational → ℕ → Rational
at_list v i = get_or v i o

-- the terms of a cubic, by their exponents
abbrev terms : {V : Type 0} → Polynomial 3 V → List (List ℕ × V)
terms f = map (λ t. (t.0.entries, t.1)) f

cusp_hess : hessian3 rational_scalars ((rational (pos 1) 1) ∷ o ∷ o ∷ o ∷ o ∷ o ∷ o ∷ o ∷ (rational (pos 1) 1) ∷ o ∷ []) ≡ (o ∷ o ∷ o ∷ o ∷ o ∷ (rational (negsuc 23) 1) ∷ o ∷ o ∷ o ∷ o ∷ [])
unfolding root_of cubic_of hessian3 carry matrix_product form_of_row linear_move scalars cubic_shape axis_matrix plane_matrix node_step secant_step swap_step cusp_second cusp_third tangent_second tangent_third lifted lifted_matrix plane_section slant points gradients jet part monomials_of monomials_below formula_value quadratic_scalars cubic_scalars rational rational_zero rational_add rational_mul rational_neg rational_inv gcd
cusp_hess = refl

cusp_matrix : matrix_by rational_scalars (all_cusp_steps (cubic_of rational_scalars ((rational (pos 1) 1) ∷ o ∷ o ∷ o ∷ o ∷ o ∷ o ∷ o ∷ (rational (pos 1) 1) ∷ o ∷ [])) (at_list (o ∷ (rational (pos 1) 1) ∷ o ∷ []))) (cubic_of rational_scalars ((rational (pos 1) 1) ∷ o ∷ o ∷ o ∷ o ∷ o ∷ o ∷ o ∷ (rational (pos 1) 1) ∷ o ∷ [])) ≡ (((rational (pos 1) 1) ∷ o ∷ o ∷ []) ∷ (o ∷ (rational (pos 1) 1) ∷ o ∷ []) ∷ (o ∷ o ∷ (rational (pos 1) 1) ∷ []) ∷ [])
unfolding root_of cubic_of hessian3 carry matrix_product form_of_row linear_move scalars cubic_shape axis_matrix plane_matrix node_step secant_step swap_step cusp_second cusp_third tangent_second tangent_third lifted lifted_matrix plane_section slant points gradients jet part monomials_of monomials_below formula_value quadratic_scalars cubic_scalars rational rational_zero rational_add rational_mul rational_neg rational_inv gcd
cusp_matrix = refl

cusp_inverse : matrix_product rational_scalars (((rational (pos 1) 1) ∷ o ∷ o ∷ []) ∷ (o ∷ (rational (pos 1) 1) ∷ o ∷ []) ∷ (o ∷ o ∷ (rational (pos 1) 1) ∷ []) ∷ []) (((rational (pos 1) 1) ∷ o ∷ o ∷ []) ∷ (o ∷ (rational (pos 1) 1) ∷ o ∷ []) ∷ (o ∷ o ∷ (rational (pos 1) 1) ∷ []) ∷ []) ≡ unit_matrix rational_scalars
unfolding root_of cubic_of hessian3 carry matrix_product form_of_row linear_move scalars cubic_shape axis_matrix plane_matrix node_step secant_step swap_step cusp_second cusp_third tangent_second tangent_third lifted lifted_matrix plane_section slant points gradients jet part monomials_of monomials_below formula_value quadratic_scalars cubic_scalars rational rational_zero rational_add rational_mul rational_neg rational_inv gcd
cusp_inverse = refl

cusp_end : terms (reached rational_scalars (all_cusp_steps (cubic_of rational_scalars ((rational (pos 1) 1) ∷ o ∷ o ∷ o ∷ o ∷ o ∷ o ∷ o ∷ (rational (pos 1) 1) ∷ o ∷ [])) (at_list (o ∷ (rational (pos 1) 1) ∷ o ∷ []))) (cubic_of rational_scalars ((rational (pos 1) 1) ∷ o ∷ o ∷ o ∷ o ∷ o ∷ o ∷ o ∷ (rational (pos 1) 1) ∷ o ∷ []))) ≡ (((3 ∷ 0 ∷ 0 ∷ []), (rational (pos 1) 1)) ∷ ((0 ∷ 1 ∷ 2 ∷ []), (rational (pos 1) 1)) ∷ [])
unfolding root_of cubic_of hessian3 carry matrix_product form_of_row linear_move scalars cubic_shape axis_matrix plane_matrix node_step secant_step swap_step cusp_second cusp_third tangent_second tangent_third lifted lifted_matrix plane_section slant points gradients jet part monomials_of monomials_below formula_value quadratic_scalars cubic_scalars rational rational_zero rational_add rational_mul rational_neg rational_inv gcd
cusp_end = refl

cusp_moved_hess : hessian3 rational_scalars ((rational (pos 1) 1) ∷ (rational (pos 7) 1) ∷ (rational (pos 2) 1) ∷ (rational (pos 12) 1) ∷ (rational (pos 14) 1) ∷ (rational (pos 1) 1) ∷ (rational (pos 8) 1) ∷ (rational (pos 12) 1) ∷ (rational (pos 7) 1) ∷ o ∷ []) ≡ ((rational (negsuc 95) 1) ∷ (rational (negsuc 191) 1) ∷ (rational (negsuc 287) 1) ∷ o ∷ (rational (negsuc 383) 1) ∷ (rational (negsuc 287) 1) ∷ o ∷ o ∷ (rational (negsuc 191) 1) ∷ (rational (negsuc 95) 1) ∷ [])
unfolding root_of cubic_of hessian3 carry matrix_product form_of_row linear_move scalars cubic_shape axis_matrix plane_matrix node_step secant_step swap_step cusp_second cusp_third tangent_second tangent_third lifted lifted_matrix plane_section slant points gradients jet part monomials_of monomials_below formula_value quadratic_scalars cubic_scalars rational rational_zero rational_add rational_mul rational_neg rational_inv gcd
cusp_moved_hess = refl

cusp_moved_matrix : matrix_by rational_scalars (all_cusp_steps (cubic_of rational_scalars ((rational (pos 1) 1) ∷ (rational (pos 7) 1) ∷ (rational (pos 2) 1) ∷ (rational (pos 12) 1) ∷ (rational (pos 14) 1) ∷ (rational (pos 1) 1) ∷ (rational (pos 8) 1) ∷ (rational (pos 12) 1) ∷ (rational (pos 7) 1) ∷ o ∷ [])) (at_list ((rational (negsuc 0) 1) ∷ o ∷ (rational (pos 1) 1) ∷ []))) (cubic_of rational_scalars ((rational (pos 1) 1) ∷ (rational (pos 7) 1) ∷ (rational (pos 2) 1) ∷ (rational (pos 12) 1) ∷ (rational (pos 14) 1) ∷ (rational (pos 1) 1) ∷ (rational (pos 8) 1) ∷ (rational (pos 12) 1) ∷ (rational (pos 7) 1) ∷ o ∷ [])) ≡ (((rational (negsuc 0) 1) ∷ (rational (negsuc 0) 1) ∷ (rational (pos 3) 2) ∷ []) ∷ ((rational (pos 1) 1) ∷ o ∷ (rational (negsuc 0) 2) ∷ []) ∷ ((rational (pos 1) 1) ∷ (rational (pos 1) 1) ∷ (rational (negsuc 0) 2) ∷ []) ∷ [])
unfolding root_of cubic_of hessian3 carry matrix_product form_of_row linear_move scalars cubic_shape axis_matrix plane_matrix node_step secant_step swap_step cusp_second cusp_third tangent_second tangent_third lifted lifted_matrix plane_section slant points gradients jet part monomials_of monomials_below formula_value quadratic_scalars cubic_scalars rational rational_zero rational_add rational_mul rational_neg rational_inv gcd
cusp_moved_matrix = refl

cusp_moved_inverse : matrix_product rational_scalars (((rational (negsuc 0) 1) ∷ (rational (negsuc 0) 1) ∷ (rational (pos 3) 2) ∷ []) ∷ ((rational (pos 1) 1) ∷ o ∷ (rational (negsuc 0) 2) ∷ []) ∷ ((rational (pos 1) 1) ∷ (rational (pos 1) 1) ∷ (rational (negsuc 0) 2) ∷ []) ∷ []) (((rational (pos 1) 2) ∷ (rational (pos 1) 1) ∷ (rational (pos 1) 2) ∷ []) ∷ (o ∷ (rational (negsuc 0) 1) ∷ (rational (pos 1) 1) ∷ []) ∷ ((rational (pos 1) 1) ∷ o ∷ (rational (pos 1) 1) ∷ []) ∷ []) ≡ unit_matrix rational_scalars
unfolding root_of cubic_of hessian3 carry matrix_product form_of_row linear_move scalars cubic_shape axis_matrix plane_matrix node_step secant_step swap_step cusp_second cusp_third tangent_second tangent_third lifted lifted_matrix plane_section slant points gradients jet part monomials_of monomials_below formula_value quadratic_scalars cubic_scalars rational rational_zero rational_add rational_mul rational_neg rational_inv gcd
cusp_moved_inverse = refl

cusp_moved_end : terms (reached rational_scalars (all_cusp_steps (cubic_of rational_scalars ((rational (pos 1) 1) ∷ (rational (pos 7) 1) ∷ (rational (pos 2) 1) ∷ (rational (pos 12) 1) ∷ (rational (pos 14) 1) ∷ (rational (pos 1) 1) ∷ (rational (pos 8) 1) ∷ (rational (pos 12) 1) ∷ (rational (pos 7) 1) ∷ o ∷ [])) (at_list ((rational (negsuc 0) 1) ∷ o ∷ (rational (pos 1) 1) ∷ []))) (cubic_of rational_scalars ((rational (pos 1) 1) ∷ (rational (pos 7) 1) ∷ (rational (pos 2) 1) ∷ (rational (pos 12) 1) ∷ (rational (pos 14) 1) ∷ (rational (pos 1) 1) ∷ (rational (pos 8) 1) ∷ (rational (pos 12) 1) ∷ (rational (pos 7) 1) ∷ o ∷ []))) ≡ (((3 ∷ 0 ∷ 0 ∷ []), (rational (pos 8) 1)) ∷ ((0 ∷ 1 ∷ 2 ∷ []), (rational (negsuc 0) 1)) ∷ [])
unfolding root_of cubic_of hessian3 carry matrix_product form_of_row linear_move scalars cubic_shape axis_matrix plane_matrix node_step secant_step swap_step cusp_second cusp_third tangent_second tangent_third lifted lifted_matrix plane_section slant points gradients jet part monomials_of monomials_below formula_value quadratic_scalars cubic_scalars rational rational_zero rational_add rational_mul rational_neg rational_inv gcd
cusp_moved_end = refl

tangent_hess : hessian3 rational_scalars (o ∷ o ∷ o ∷ o ∷ o ∷ (rational (pos 1) 1) ∷ o ∷ (rational (pos 1) 1) ∷ o ∷ o ∷ []) ≡ (o ∷ o ∷ o ∷ o ∷ o ∷ o ∷ o ∷ o ∷ o ∷ (rational (negsuc 7) 1) ∷ [])
unfolding root_of cubic_of hessian3 carry matrix_product form_of_row linear_move scalars cubic_shape axis_matrix plane_matrix node_step secant_step swap_step cusp_second cusp_third tangent_second tangent_third lifted lifted_matrix plane_section slant points gradients jet part monomials_of monomials_below formula_value quadratic_scalars cubic_scalars rational rational_zero rational_add rational_mul rational_neg rational_inv gcd
tangent_hess = refl

tangent_matrix : matrix_by rational_scalars (all_tangent_steps (cubic_of rational_scalars (o ∷ o ∷ o ∷ o ∷ o ∷ (rational (pos 1) 1) ∷ o ∷ (rational (pos 1) 1) ∷ o ∷ o ∷ [])) (cubic_of rational_scalars (hessian3 rational_scalars (o ∷ o ∷ o ∷ o ∷ o ∷ (rational (pos 1) 1) ∷ o ∷ (rational (pos 1) 1) ∷ o ∷ o ∷ [])))) (cubic_of rational_scalars (o ∷ o ∷ o ∷ o ∷ o ∷ (rational (pos 1) 1) ∷ o ∷ (rational (pos 1) 1) ∷ o ∷ o ∷ [])) ≡ (((rational (pos 1) 1) ∷ o ∷ o ∷ []) ∷ (o ∷ (rational (pos 1) 1) ∷ o ∷ []) ∷ (o ∷ o ∷ (rational (pos 1) 1) ∷ []) ∷ [])
unfolding root_of cubic_of hessian3 carry matrix_product form_of_row linear_move scalars cubic_shape axis_matrix plane_matrix node_step secant_step swap_step cusp_second cusp_third tangent_second tangent_third lifted lifted_matrix plane_section slant points gradients jet part monomials_of monomials_below formula_value quadratic_scalars cubic_scalars rational rational_zero rational_add rational_mul rational_neg rational_inv gcd
tangent_matrix = refl

tangent_inverse : matrix_product rational_scalars (((rational (pos 1) 1) ∷ o ∷ o ∷ []) ∷ (o ∷ (rational (pos 1) 1) ∷ o ∷ []) ∷ (o ∷ o ∷ (rational (pos 1) 1) ∷ []) ∷ []) (((rational (pos 1) 1) ∷ o ∷ o ∷ []) ∷ (o ∷ (rational (pos 1) 1) ∷ o ∷ []) ∷ (o ∷ o ∷ (rational (pos 1) 1) ∷ []) ∷ []) ≡ unit_matrix rational_scalars
unfolding root_of cubic_of hessian3 carry matrix_product form_of_row linear_move scalars cubic_shape axis_matrix plane_matrix node_step secant_step swap_step cusp_second cusp_third tangent_second tangent_third lifted lifted_matrix plane_section slant points gradients jet part monomials_of monomials_below formula_value quadratic_scalars cubic_scalars rational rational_zero rational_add rational_mul rational_neg rational_inv gcd
tangent_inverse = refl

tangent_end : terms (reached rational_scalars (all_tangent_steps (cubic_of rational_scalars (o ∷ o ∷ o ∷ o ∷ o ∷ (rational (pos 1) 1) ∷ o ∷ (rational (pos 1) 1) ∷ o ∷ o ∷ [])) (cubic_of rational_scalars (hessian3 rational_scalars (o ∷ o ∷ o ∷ o ∷ o ∷ (rational (pos 1) 1) ∷ o ∷ (rational (pos 1) 1) ∷ o ∷ o ∷ [])))) (cubic_of rational_scalars (o ∷ o ∷ o ∷ o ∷ o ∷ (rational (pos 1) 1) ∷ o ∷ (rational (pos 1) 1) ∷ o ∷ o ∷ []))) ≡ (((1 ∷ 0 ∷ 2 ∷ []), (rational (pos 1) 1)) ∷ ((0 ∷ 2 ∷ 1 ∷ []), (rational (pos 1) 1)) ∷ [])
unfolding root_of cubic_of hessian3 carry matrix_product form_of_row linear_move scalars cubic_shape axis_matrix plane_matrix node_step secant_step swap_step cusp_second cusp_third tangent_second tangent_third lifted lifted_matrix plane_section slant points gradients jet part monomials_of monomials_below formula_value quadratic_scalars cubic_scalars rational rational_zero rational_add rational_mul rational_neg rational_inv gcd
tangent_end = refl

tangent_moved_hess : hessian3 rational_scalars ((rational (pos 1) 1) ∷ (rational (pos 2) 1) ∷ (rational (pos 3) 1) ∷ (rational (pos 1) 1) ∷ (rational (pos 2) 1) ∷ (rational (pos 4) 1) ∷ o ∷ (rational (pos 1) 1) ∷ o ∷ (rational (pos 2) 1) ∷ []) ≡ ((rational (negsuc 31) 1) ∷ o ∷ (rational (negsuc 95) 1) ∷ o ∷ o ∷ (rational (negsuc 95) 1) ∷ o ∷ o ∷ o ∷ (rational (negsuc 31) 1) ∷ [])
unfolding root_of cubic_of hessian3 carry matrix_product form_of_row linear_move scalars cubic_shape axis_matrix plane_matrix node_step secant_step swap_step cusp_second cusp_third tangent_second tangent_third lifted lifted_matrix plane_section slant points gradients jet part monomials_of monomials_below formula_value quadratic_scalars cubic_scalars rational rational_zero rational_add rational_mul rational_neg rational_inv gcd
tangent_moved_hess = refl

tangent_moved_matrix : matrix_by rational_scalars (all_tangent_steps (cubic_of rational_scalars ((rational (pos 1) 1) ∷ (rational (pos 2) 1) ∷ (rational (pos 3) 1) ∷ (rational (pos 1) 1) ∷ (rational (pos 2) 1) ∷ (rational (pos 4) 1) ∷ o ∷ (rational (pos 1) 1) ∷ o ∷ (rational (pos 2) 1) ∷ [])) (cubic_of rational_scalars (hessian3 rational_scalars ((rational (pos 1) 1) ∷ (rational (pos 2) 1) ∷ (rational (pos 3) 1) ∷ (rational (pos 1) 1) ∷ (rational (pos 2) 1) ∷ (rational (pos 4) 1) ∷ o ∷ (rational (pos 1) 1) ∷ o ∷ (rational (pos 2) 1) ∷ [])))) (cubic_of rational_scalars ((rational (pos 1) 1) ∷ (rational (pos 2) 1) ∷ (rational (pos 3) 1) ∷ (rational (pos 1) 1) ∷ (rational (pos 2) 1) ∷ (rational (pos 4) 1) ∷ o ∷ (rational (pos 1) 1) ∷ o ∷ (rational (pos 2) 1) ∷ [])) ≡ (((rational (negsuc 0) 1) ∷ o ∷ (rational (pos 1) 1) ∷ []) ∷ ((rational (pos 1) 1) ∷ (rational (pos 1) 1) ∷ (rational (negsuc 0) 1) ∷ []) ∷ ((rational (pos 1) 1) ∷ o ∷ o ∷ []) ∷ [])
unfolding root_of cubic_of hessian3 carry matrix_product form_of_row linear_move scalars cubic_shape axis_matrix plane_matrix node_step secant_step swap_step cusp_second cusp_third tangent_second tangent_third lifted lifted_matrix plane_section slant points gradients jet part monomials_of monomials_below formula_value quadratic_scalars cubic_scalars rational rational_zero rational_add rational_mul rational_neg rational_inv gcd
tangent_moved_matrix = refl

tangent_moved_inverse : matrix_product rational_scalars (((rational (negsuc 0) 1) ∷ o ∷ (rational (pos 1) 1) ∷ []) ∷ ((rational (pos 1) 1) ∷ (rational (pos 1) 1) ∷ (rational (negsuc 0) 1) ∷ []) ∷ ((rational (pos 1) 1) ∷ o ∷ o ∷ []) ∷ []) ((o ∷ o ∷ (rational (pos 1) 1) ∷ []) ∷ ((rational (pos 1) 1) ∷ (rational (pos 1) 1) ∷ o ∷ []) ∷ ((rational (pos 1) 1) ∷ o ∷ (rational (pos 1) 1) ∷ []) ∷ []) ≡ unit_matrix rational_scalars
unfolding root_of cubic_of hessian3 carry matrix_product form_of_row linear_move scalars cubic_shape axis_matrix plane_matrix node_step secant_step swap_step cusp_second cusp_third tangent_second tangent_third lifted lifted_matrix plane_section slant points gradients jet part monomials_of monomials_below formula_value quadratic_scalars cubic_scalars rational rational_zero rational_add rational_mul rational_neg rational_inv gcd
tangent_moved_inverse = refl

tangent_moved_end : terms (reached rational_scalars (all_tangent_steps (cubic_of rational_scalars ((rational (pos 1) 1) ∷ (rational (pos 2) 1) ∷ (rational (pos 3) 1) ∷ (rational (pos 1) 1) ∷ (rational (pos 2) 1) ∷ (rational (pos 4) 1) ∷ o ∷ (rational (pos 1) 1) ∷ o ∷ (rational (pos 2) 1) ∷ [])) (cubic_of rational_scalars (hessian3 rational_scalars ((rational (pos 1) 1) ∷ (rational (pos 2) 1) ∷ (rational (pos 3) 1) ∷ (rational (pos 1) 1) ∷ (rational (pos 2) 1) ∷ (rational (pos 4) 1) ∷ o ∷ (rational (pos 1) 1) ∷ o ∷ (rational (pos 2) 1) ∷ [])))) (cubic_of rational_scalars ((rational (pos 1) 1) ∷ (rational (pos 2) 1) ∷ (rational (pos 3) 1) ∷ (rational (pos 1) 1) ∷ (rational (pos 2) 1) ∷ (rational (pos 4) 1) ∷ o ∷ (rational (pos 1) 1) ∷ o ∷ (rational (pos 2) 1) ∷ []))) ≡ (((1 ∷ 0 ∷ 2 ∷ []), (rational (pos 2) 1)) ∷ ((0 ∷ 2 ∷ 1 ∷ []), (rational (pos 1) 1)) ∷ [])
unfolding root_of cubic_of hessian3 carry matrix_product form_of_row linear_move scalars cubic_shape axis_matrix plane_matrix node_step secant_step swap_step cusp_second cusp_third tangent_second tangent_third lifted lifted_matrix plane_section slant points gradients jet part monomials_of monomials_below formula_value quadratic_scalars cubic_scalars rational rational_zero rational_add rational_mul rational_neg rational_inv gcd
tangent_moved_end = refl
