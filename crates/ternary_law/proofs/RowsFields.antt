-- Worked ternary cubics, by computation: their Hessian determinants, kernels, moves and carried cubics.
-- The expected values come from a program in another language that was written from the same rules.
use Rattle.std.proofs.Common.{◌≡◌, ℕ, pos, negsuc, List, [], ◌∷◌, Some, map, get_or, refl}
use Rattle.ring_theory.specs.Gcd.{gcd}
use Rattle.ring_theory.specs.Height.{rational_scalars}
use Rattle.ring_theory.specs.Rational.{Rational, rational, rational_zero, rational_add, rational_mul, rational_neg, rational_inv}
use Rattle.ext_theory.specs.Extension.{Quadratic, Cubic}
use Rattle.ext_theory.specs.ExtensionScalars.{quadratic_scalars, cubic_scalars}
use Rattle.mono_exp.specs.Exponents.{monomials_of, monomials_below}
use Rattle.poly_law.specs.Polynomials.{Polynomial}
use Rattle.jet_law.specs.Canonical.{jet, part}
use Rattle.ring_formula.specs.Formulas.{formula_value}
use Rattle.coord_change.specs.Carries.{carry}
use Rattle.move_law.specs.Shapes.{cubic_shape}
use Rattle.ternary_law.specs.Matrices.{matrix_product, unit_matrix, form_of_row, linear_move, moved, lifted_matrix}
use Rattle.ext_algebra.specs.Algebra.{scalars}
use Rattle.move_law.specs.Algebras.{root_of, lifted}
use Rattle.ternary_law.specs.Pairs.{over_root}
use Rattle.ternary_law.specs.Hessian.{hessian3}
use Rattle.ternary_law.specs.Cubics.{cubic_of}
use Rattle.ternary_law.specs.Steps.{axis_matrix, plane_matrix, node_step, secant_step, swap_step, cusp_second, cusp_third, tangent_second, tangent_third}
use Rattle.ternary_law.specs.Triangle.{at_corner, cyclic, algebra_of, points, gradients, plane_section, slant}

abbrev o : Rational
o = rational (pos 0) 1

abbrev pair : Rational → Rational → Quadratic Rational
pair a b = record { c0 = a; c1 = b }

abbrev triple : {V : Type 0} → V → V → V → Cubic V
triple a b c = record { c0 = a; c1 = b; c2 = c }

-- a vector by its entries
abbrev at_list : List Rational → ℕ → Rational
at_list v i = get_or v i o

-- the terms of a cubic, by their exponents
abbrev terms : {V : Type 0} → Polynomial 3 V → List (List ℕ × V)
terms f = map (λ t. (t.0.entries, t.1)) f

triangle_cyclic_hess : hessian3 rational_scalars ((rational (pos 1) 1) ∷ o ∷ (rational (pos 6) 1) ∷ (rational (negsuc 2) 1) ∷ (rational (pos 3) 1) ∷ (rational (pos 9) 1) ∷ (rational (negsuc 0) 1) ∷ o ∷ (rational (pos 3) 1) ∷ (rational (pos 1) 1) ∷ []) ≡ ((rational (pos 162) 1) ∷ o ∷ (rational (pos 972) 1) ∷ (rational (negsuc 485) 1) ∷ (rational (pos 486) 1) ∷ (rational (pos 1458) 1) ∷ (rational (negsuc 161) 1) ∷ o ∷ (rational (pos 486) 1) ∷ (rational (pos 162) 1) ∷ [])
unfolding root_of cubic_of hessian3 carry matrix_product form_of_row linear_move scalars cubic_shape axis_matrix plane_matrix node_step secant_step swap_step cusp_second cusp_third tangent_second tangent_third lifted lifted_matrix plane_section slant points gradients jet part monomials_of monomials_below formula_value quadratic_scalars cubic_scalars rational rational_zero rational_add rational_mul rational_neg rational_inv gcd
triangle_cyclic_hess = refl

triangle_cyclic_slant : slant (cubic_of rational_scalars ((rational (pos 1) 1) ∷ o ∷ (rational (pos 6) 1) ∷ (rational (negsuc 2) 1) ∷ (rational (pos 3) 1) ∷ (rational (pos 9) 1) ∷ (rational (negsuc 0) 1) ∷ o ∷ (rational (pos 3) 1) ∷ (rational (pos 1) 1) ∷ [])) ≡ Some 0
unfolding root_of cubic_of hessian3 carry matrix_product form_of_row linear_move scalars cubic_shape axis_matrix plane_matrix node_step secant_step swap_step cusp_second cusp_third tangent_second tangent_third lifted lifted_matrix plane_section slant points gradients jet part monomials_of monomials_below formula_value quadratic_scalars cubic_scalars rational rational_zero rational_add rational_mul rational_neg rational_inv gcd
triangle_cyclic_slant = refl

triangle_cyclic_section : plane_section (cubic_of rational_scalars ((rational (pos 1) 1) ∷ o ∷ (rational (pos 6) 1) ∷ (rational (negsuc 2) 1) ∷ (rational (pos 3) 1) ∷ (rational (pos 9) 1) ∷ (rational (negsuc 0) 1) ∷ o ∷ (rational (pos 3) 1) ∷ (rational (pos 1) 1) ∷ [])) 0 ≡ ((rational (pos 1) 1) ∷ o ∷ (rational (negsuc 2) 1) ∷ (rational (negsuc 0) 1) ∷ [])
unfolding root_of cubic_of hessian3 carry matrix_product form_of_row linear_move scalars cubic_shape axis_matrix plane_matrix node_step secant_step swap_step cusp_second cusp_third tangent_second tangent_third lifted lifted_matrix plane_section slant points gradients jet part monomials_of monomials_below formula_value quadratic_scalars cubic_scalars rational rational_zero rational_add rational_mul rational_neg rational_inv gcd
triangle_cyclic_section = refl

triangle_cyclic_gradients : gradients (scalars (algebra_of ((rational (pos 1) 1) ∷ o ∷ (rational (negsuc 2) 1) ∷ (rational (negsuc 0) 1) ∷ []) (cyclic (rational (pos 9) 1)))) (lifted (algebra_of ((rational (pos 1) 1) ∷ o ∷ (rational (negsuc 2) 1) ∷ (rational (negsuc 0) 1) ∷ []) (cyclic (rational (pos 9) 1))) (cubic_of rational_scalars ((rational (pos 1) 1) ∷ o ∷ (rational (pos 6) 1) ∷ (rational (negsuc 2) 1) ∷ (rational (pos 3) 1) ∷ (rational (pos 9) 1) ∷ (rational (negsuc 0) 1) ∷ o ∷ (rational (pos 3) 1) ∷ (rational (pos 1) 1) ∷ []))) 0 (points ((rational (pos 1) 1) ∷ o ∷ (rational (negsuc 2) 1) ∷ (rational (negsuc 0) 1) ∷ []) (cyclic (rational (pos 9) 1))) ≡ (((triple (rational (negsuc 2) 1) o (rational (pos 3) 1)) ∷ (triple (rational (negsuc 2) 1) (rational (negsuc 5) 1) o) ∷ (triple o (rational (pos 3) 1) (rational (pos 6) 1)) ∷ []) ∷ ((triple (rational (pos 3) 1) (rational (negsuc 2) 1) o) ∷ (triple (rational (pos 9) 1) (rational (pos 6) 1) (rational (negsuc 5) 1)) ∷ (triple (rational (pos 6) 1) (rational (negsuc 8) 1) (rational (pos 3) 1)) ∷ []) ∷ ((triple (rational (pos 9) 1) (rational (pos 3) 1) (rational (negsuc 2) 1)) ∷ (triple (rational (negsuc 14) 1) o (rational (pos 6) 1)) ∷ (triple (rational (pos 30) 1) (rational (pos 6) 1) (rational (negsuc 8) 1)) ∷ []) ∷ [])
unfolding root_of cubic_of hessian3 carry matrix_product form_of_row linear_move scalars cubic_shape axis_matrix plane_matrix node_step secant_step swap_step cusp_second cusp_third tangent_second tangent_third lifted lifted_matrix plane_section slant points gradients jet part monomials_of monomials_below formula_value quadratic_scalars cubic_scalars rational rational_zero rational_add rational_mul rational_neg rational_inv gcd
triangle_cyclic_gradients = refl

triangle_cyclic_tmoved : terms (moved (scalars (algebra_of ((rational (pos 1) 1) ∷ o ∷ (rational (negsuc 2) 1) ∷ (rational (negsuc 0) 1) ∷ []) (cyclic (rational (pos 9) 1)))) (((triple (rational (negsuc 3) 9) (rational (negsuc 0) 27) (rational (pos 4) 27)) ∷ (triple (rational (negsuc 1) 27) (rational (negsuc 0) 9) (rational (negsuc 0) 27)) ∷ (triple (rational (pos 2) 27) (rational (pos 4) 27) (rational (negsuc 0) 9)) ∷ []) ∷ ((triple (rational (pos 1) 27) (rational (negsuc 0) 27) o) ∷ (triple (rational (pos 1) 9) (rational (pos 1) 27) (rational (negsuc 0) 27)) ∷ (triple (rational (negsuc 0) 27) o (rational (pos 1) 27)) ∷ []) ∷ ((triple (rational (pos 4) 27) o (rational (negsuc 0) 27)) ∷ (triple (rational (pos 2) 27) (rational (pos 1) 27) o) ∷ (triple o (rational (negsuc 0) 27) (rational (pos 1) 27)) ∷ []) ∷ []) (lifted (algebra_of ((rational (pos 1) 1) ∷ o ∷ (rational (negsuc 2) 1) ∷ (rational (negsuc 0) 1) ∷ []) (cyclic (rational (pos 9) 1))) (cubic_of rational_scalars ((rational (pos 1) 1) ∷ o ∷ (rational (pos 6) 1) ∷ (rational (negsuc 2) 1) ∷ (rational (pos 3) 1) ∷ (rational (pos 9) 1) ∷ (rational (negsuc 0) 1) ∷ o ∷ (rational (pos 3) 1) ∷ (rational (pos 1) 1) ∷ [])))) ≡ (((1 ∷ 1 ∷ 1 ∷ []), (triple (rational (negsuc 0) 81) o o)) ∷ [])
unfolding root_of cubic_of hessian3 carry matrix_product form_of_row linear_move scalars cubic_shape axis_matrix plane_matrix node_step secant_step swap_step cusp_second cusp_third tangent_second tangent_third lifted lifted_matrix plane_section slant points gradients jet part monomials_of monomials_below formula_value quadratic_scalars cubic_scalars rational rational_zero rational_add rational_mul rational_neg rational_inv gcd
triangle_cyclic_tmoved = refl

triangle_cyclic_inverse : matrix_product (scalars (algebra_of ((rational (pos 1) 1) ∷ o ∷ (rational (negsuc 2) 1) ∷ (rational (negsuc 0) 1) ∷ []) (cyclic (rational (pos 9) 1)))) (((triple (rational (negsuc 3) 9) (rational (negsuc 0) 27) (rational (pos 4) 27)) ∷ (triple (rational (negsuc 1) 27) (rational (negsuc 0) 9) (rational (negsuc 0) 27)) ∷ (triple (rational (pos 2) 27) (rational (pos 4) 27) (rational (negsuc 0) 9)) ∷ []) ∷ ((triple (rational (pos 1) 27) (rational (negsuc 0) 27) o) ∷ (triple (rational (pos 1) 9) (rational (pos 1) 27) (rational (negsuc 0) 27)) ∷ (triple (rational (negsuc 0) 27) o (rational (pos 1) 27)) ∷ []) ∷ ((triple (rational (pos 4) 27) o (rational (negsuc 0) 27)) ∷ (triple (rational (pos 2) 27) (rational (pos 1) 27) o) ∷ (triple o (rational (negsuc 0) 27) (rational (pos 1) 27)) ∷ []) ∷ []) (((triple (rational (negsuc 2) 1) o (rational (pos 3) 1)) ∷ (triple (rational (negsuc 2) 1) (rational (negsuc 5) 1) o) ∷ (triple o (rational (pos 3) 1) (rational (pos 6) 1)) ∷ []) ∷ ((triple (rational (pos 3) 1) (rational (negsuc 2) 1) o) ∷ (triple (rational (pos 9) 1) (rational (pos 6) 1) (rational (negsuc 5) 1)) ∷ (triple (rational (pos 6) 1) (rational (negsuc 8) 1) (rational (pos 3) 1)) ∷ []) ∷ ((triple (rational (pos 9) 1) (rational (pos 3) 1) (rational (negsuc 2) 1)) ∷ (triple (rational (negsuc 14) 1) o (rational (pos 6) 1)) ∷ (triple (rational (pos 30) 1) (rational (pos 6) 1) (rational (negsuc 8) 1)) ∷ []) ∷ []) ≡ unit_matrix (scalars (algebra_of ((rational (pos 1) 1) ∷ o ∷ (rational (negsuc 2) 1) ∷ (rational (negsuc 0) 1) ∷ []) (cyclic (rational (pos 9) 1))))
unfolding root_of cubic_of hessian3 carry matrix_product form_of_row linear_move scalars cubic_shape axis_matrix plane_matrix node_step secant_step swap_step cusp_second cusp_third tangent_second tangent_third lifted lifted_matrix plane_section slant points gradients jet part monomials_of monomials_below formula_value quadratic_scalars cubic_scalars rational rational_zero rational_add rational_mul rational_neg rational_inv gcd
triangle_cyclic_inverse = refl

triangle_cyclic_moved_hess : hessian3 rational_scalars ((rational (pos 17) 1) ∷ (rational (pos 54) 1) ∷ (rational (pos 45) 1) ∷ (rational (pos 39) 1) ∷ (rational (pos 108) 1) ∷ (rational (pos 36) 1) ∷ (rational (pos 1) 1) ∷ (rational (pos 54) 1) ∷ (rational (pos 45) 1) ∷ (rational (pos 9) 1) ∷ []) ≡ ((rational (pos 11016) 1) ∷ (rational (pos 34992) 1) ∷ (rational (pos 29160) 1) ∷ (rational (pos 25272) 1) ∷ (rational (pos 69984) 1) ∷ (rational (pos 23328) 1) ∷ (rational (pos 648) 1) ∷ (rational (pos 34992) 1) ∷ (rational (pos 29160) 1) ∷ (rational (pos 5832) 1) ∷ [])
unfolding root_of cubic_of hessian3 carry matrix_product form_of_row linear_move scalars cubic_shape axis_matrix plane_matrix node_step secant_step swap_step cusp_second cusp_third tangent_second tangent_third lifted lifted_matrix plane_section slant points gradients jet part monomials_of monomials_below formula_value quadratic_scalars cubic_scalars rational rational_zero rational_add rational_mul rational_neg rational_inv gcd
triangle_cyclic_moved_hess = refl

triangle_cyclic_moved_slant : slant (cubic_of rational_scalars ((rational (pos 17) 1) ∷ (rational (pos 54) 1) ∷ (rational (pos 45) 1) ∷ (rational (pos 39) 1) ∷ (rational (pos 108) 1) ∷ (rational (pos 36) 1) ∷ (rational (pos 1) 1) ∷ (rational (pos 54) 1) ∷ (rational (pos 45) 1) ∷ (rational (pos 9) 1) ∷ [])) ≡ Some 0
unfolding root_of cubic_of hessian3 carry matrix_product form_of_row linear_move scalars cubic_shape axis_matrix plane_matrix node_step secant_step swap_step cusp_second cusp_third tangent_second tangent_third lifted lifted_matrix plane_section slant points gradients jet part monomials_of monomials_below formula_value quadratic_scalars cubic_scalars rational rational_zero rational_add rational_mul rational_neg rational_inv gcd
triangle_cyclic_moved_slant = refl

triangle_cyclic_moved_section : plane_section (cubic_of rational_scalars ((rational (pos 17) 1) ∷ (rational (pos 54) 1) ∷ (rational (pos 45) 1) ∷ (rational (pos 39) 1) ∷ (rational (pos 108) 1) ∷ (rational (pos 36) 1) ∷ (rational (pos 1) 1) ∷ (rational (pos 54) 1) ∷ (rational (pos 45) 1) ∷ (rational (pos 9) 1) ∷ [])) 0 ≡ ((rational (pos 17) 1) ∷ (rational (pos 54) 1) ∷ (rational (pos 39) 1) ∷ (rational (pos 1) 1) ∷ [])
unfolding root_of cubic_of hessian3 carry matrix_product form_of_row linear_move scalars cubic_shape axis_matrix plane_matrix node_step secant_step swap_step cusp_second cusp_third tangent_second tangent_third lifted lifted_matrix plane_section slant points gradients jet part monomials_of monomials_below formula_value quadratic_scalars cubic_scalars rational rational_zero rational_add rational_mul rational_neg rational_inv gcd
triangle_cyclic_moved_section = refl

triangle_cyclic_moved_gradients : gradients (scalars (algebra_of ((rational (pos 17) 1) ∷ (rational (pos 54) 1) ∷ (rational (pos 39) 1) ∷ (rational (pos 1) 1) ∷ []) (cyclic (rational (pos 639) 289)))) (lifted (algebra_of ((rational (pos 17) 1) ∷ (rational (pos 54) 1) ∷ (rational (pos 39) 1) ∷ (rational (pos 1) 1) ∷ []) (cyclic (rational (pos 639) 289))) (cubic_of rational_scalars ((rational (pos 17) 1) ∷ (rational (pos 54) 1) ∷ (rational (pos 45) 1) ∷ (rational (pos 39) 1) ∷ (rational (pos 108) 1) ∷ (rational (pos 36) 1) ∷ (rational (pos 1) 1) ∷ (rational (pos 54) 1) ∷ (rational (pos 45) 1) ∷ (rational (pos 9) 1) ∷ []))) 0 (points ((rational (pos 17) 1) ∷ (rational (pos 54) 1) ∷ (rational (pos 39) 1) ∷ (rational (pos 1) 1) ∷ []) (cyclic (rational (pos 639) 289))) ≡ (((triple (rational (pos 39) 1) (rational (pos 108) 1) (rational (pos 51) 1)) ∷ (triple (rational (pos 3) 1) (rational (pos 78) 1) (rational (pos 54) 1)) ∷ (triple (rational (pos 54) 1) (rational (pos 108) 1) (rational (pos 45) 1)) ∷ []) ∷ ((triple (rational (negsuc 24524) 1207) (rational (negsuc 98030) 1207) (rational (negsuc 1838) 71)) ∷ (triple (rational (negsuc 490550) 20519) (rational (negsuc 3689009) 20519) (rational (negsuc 96755) 1207)) ∷ (triple (rational (negsuc 223415) 20519) (rational (negsuc 797840) 20519) (rational (negsuc 5336) 1207)) ∷ []) ∷ ((triple (rational (pos 43269) 1207) (rational (negsuc 32324) 1207) (rational (negsuc 1781) 71)) ∷ (triple (rational (pos 1625841) 20519) (rational (pos 2088528) 20519) (rational (pos 31578) 1207)) ∷ (triple (rational (pos 480294) 20519) (rational (negsuc 1418210) 20519) (rational (negsuc 48977) 1207)) ∷ []) ∷ [])
unfolding root_of cubic_of hessian3 carry matrix_product form_of_row linear_move scalars cubic_shape axis_matrix plane_matrix node_step secant_step swap_step cusp_second cusp_third tangent_second tangent_third lifted lifted_matrix plane_section slant points gradients jet part monomials_of monomials_below formula_value quadratic_scalars cubic_scalars rational rational_zero rational_add rational_mul rational_neg rational_inv gcd
triangle_cyclic_moved_gradients = refl

triangle_cyclic_moved_tmoved : terms (moved (scalars (algebra_of ((rational (pos 17) 1) ∷ (rational (pos 54) 1) ∷ (rational (pos 39) 1) ∷ (rational (pos 1) 1) ∷ []) (cyclic (rational (pos 639) 289)))) (((triple (rational (negsuc 487) 136107) (rational (pos 36559) 136107) (rational (pos 32759) 272214)) ∷ (triple (rational (negsuc 21388) 136107) (rational (negsuc 42504) 272214) (rational (negsuc 11202) 272214)) ∷ (triple (rational (negsuc 5599) 136107) (rational (negsuc 30612) 272214) (rational (negsuc 10777) 136107)) ∷ []) ∷ ((triple (rational (negsuc 772) 136107) (rational (negsuc 9400) 136107) (rational (negsuc 7224) 272214)) ∷ (triple (rational (pos 5158) 136107) (rational (pos 2471) 272214) (rational (negsuc 1410) 272214)) ∷ (triple (rational (pos 3283) 136107) (rational (pos 16331) 272214) (rational (pos 4318) 136107)) ∷ []) ∷ ((triple (rational (pos 44) 1917) (rational (negsuc 33) 213) (rational (negsuc 288) 3834)) ∷ (triple (rational (pos 1673) 15123) (rational (pos 32677) 272214) (rational (pos 10421) 272214)) ∷ (triple (rational (pos 3758) 136107) (rational (pos 10775) 272214) (rational (pos 187) 5041)) ∷ []) ∷ []) (lifted (algebra_of ((rational (pos 17) 1) ∷ (rational (pos 54) 1) ∷ (rational (pos 39) 1) ∷ (rational (pos 1) 1) ∷ []) (cyclic (rational (pos 639) 289))) (cubic_of rational_scalars ((rational (pos 17) 1) ∷ (rational (pos 54) 1) ∷ (rational (pos 45) 1) ∷ (rational (pos 39) 1) ∷ (rational (pos 108) 1) ∷ (rational (pos 36) 1) ∷ (rational (pos 1) 1) ∷ (rational (pos 54) 1) ∷ (rational (pos 45) 1) ∷ (rational (pos 9) 1) ∷ [])))) ≡ (((1 ∷ 1 ∷ 1 ∷ []), (triple (rational (negsuc 288) 408321) o o)) ∷ [])
unfolding root_of cubic_of hessian3 carry matrix_product form_of_row linear_move scalars cubic_shape axis_matrix plane_matrix node_step secant_step swap_step cusp_second cusp_third tangent_second tangent_third lifted lifted_matrix plane_section slant points gradients jet part monomials_of monomials_below formula_value quadratic_scalars cubic_scalars rational rational_zero rational_add rational_mul rational_neg rational_inv gcd
triangle_cyclic_moved_tmoved = refl

triangle_cyclic_moved_inverse : matrix_product (scalars (algebra_of ((rational (pos 17) 1) ∷ (rational (pos 54) 1) ∷ (rational (pos 39) 1) ∷ (rational (pos 1) 1) ∷ []) (cyclic (rational (pos 639) 289)))) (((triple (rational (negsuc 487) 136107) (rational (pos 36559) 136107) (rational (pos 32759) 272214)) ∷ (triple (rational (negsuc 21388) 136107) (rational (negsuc 42504) 272214) (rational (negsuc 11202) 272214)) ∷ (triple (rational (negsuc 5599) 136107) (rational (negsuc 30612) 272214) (rational (negsuc 10777) 136107)) ∷ []) ∷ ((triple (rational (negsuc 772) 136107) (rational (negsuc 9400) 136107) (rational (negsuc 7224) 272214)) ∷ (triple (rational (pos 5158) 136107) (rational (pos 2471) 272214) (rational (negsuc 1410) 272214)) ∷ (triple (rational (pos 3283) 136107) (rational (pos 16331) 272214) (rational (pos 4318) 136107)) ∷ []) ∷ ((triple (rational (pos 44) 1917) (rational (negsuc 33) 213) (rational (negsuc 288) 3834)) ∷ (triple (rational (pos 1673) 15123) (rational (pos 32677) 272214) (rational (pos 10421) 272214)) ∷ (triple (rational (pos 3758) 136107) (rational (pos 10775) 272214) (rational (pos 187) 5041)) ∷ []) ∷ []) (((triple (rational (pos 39) 1) (rational (pos 108) 1) (rational (pos 51) 1)) ∷ (triple (rational (pos 3) 1) (rational (pos 78) 1) (rational (pos 54) 1)) ∷ (triple (rational (pos 54) 1) (rational (pos 108) 1) (rational (pos 45) 1)) ∷ []) ∷ ((triple (rational (negsuc 24524) 1207) (rational (negsuc 98030) 1207) (rational (negsuc 1838) 71)) ∷ (triple (rational (negsuc 490550) 20519) (rational (negsuc 3689009) 20519) (rational (negsuc 96755) 1207)) ∷ (triple (rational (negsuc 223415) 20519) (rational (negsuc 797840) 20519) (rational (negsuc 5336) 1207)) ∷ []) ∷ ((triple (rational (pos 43269) 1207) (rational (negsuc 32324) 1207) (rational (negsuc 1781) 71)) ∷ (triple (rational (pos 1625841) 20519) (rational (pos 2088528) 20519) (rational (pos 31578) 1207)) ∷ (triple (rational (pos 480294) 20519) (rational (negsuc 1418210) 20519) (rational (negsuc 48977) 1207)) ∷ []) ∷ []) ≡ unit_matrix (scalars (algebra_of ((rational (pos 17) 1) ∷ (rational (pos 54) 1) ∷ (rational (pos 39) 1) ∷ (rational (pos 1) 1) ∷ []) (cyclic (rational (pos 639) 289))))
unfolding root_of cubic_of hessian3 carry matrix_product form_of_row linear_move scalars cubic_shape axis_matrix plane_matrix node_step secant_step swap_step cusp_second cusp_third tangent_second tangent_third lifted lifted_matrix plane_section slant points gradients jet part monomials_of monomials_below formula_value quadratic_scalars cubic_scalars rational rational_zero rational_add rational_mul rational_neg rational_inv gcd
triangle_cyclic_moved_inverse = refl

triangle_corner_hess : hessian3 rational_scalars (o ∷ (rational (pos 1) 1) ∷ o ∷ o ∷ o ∷ o ∷ o ∷ o ∷ (rational (negsuc 1) 1) ∷ o ∷ []) ≡ (o ∷ (rational (pos 16) 1) ∷ o ∷ o ∷ o ∷ o ∷ o ∷ o ∷ (rational (negsuc 31) 1) ∷ o ∷ [])
unfolding root_of cubic_of hessian3 carry matrix_product form_of_row linear_move scalars cubic_shape axis_matrix plane_matrix node_step secant_step swap_step cusp_second cusp_third tangent_second tangent_third lifted lifted_matrix plane_section slant points gradients jet part monomials_of monomials_below formula_value quadratic_scalars cubic_scalars rational rational_zero rational_add rational_mul rational_neg rational_inv gcd
triangle_corner_hess = refl

triangle_corner_slant : slant (cubic_of rational_scalars (o ∷ (rational (pos 1) 1) ∷ o ∷ o ∷ o ∷ o ∷ o ∷ o ∷ (rational (negsuc 1) 1) ∷ o ∷ [])) ≡ Some 1
unfolding root_of cubic_of hessian3 carry matrix_product form_of_row linear_move scalars cubic_shape axis_matrix plane_matrix node_step secant_step swap_step cusp_second cusp_third tangent_second tangent_third lifted lifted_matrix plane_section slant points gradients jet part monomials_of monomials_below formula_value quadratic_scalars cubic_scalars rational rational_zero rational_add rational_mul rational_neg rational_inv gcd
triangle_corner_slant = refl

triangle_corner_section : plane_section (cubic_of rational_scalars (o ∷ (rational (pos 1) 1) ∷ o ∷ o ∷ o ∷ o ∷ o ∷ o ∷ (rational (negsuc 1) 1) ∷ o ∷ [])) 1 ≡ (o ∷ (rational (negsuc 0) 1) ∷ (rational (negsuc 3) 1) ∷ (rational (negsuc 1) 1) ∷ [])
unfolding root_of cubic_of hessian3 carry matrix_product form_of_row linear_move scalars cubic_shape axis_matrix plane_matrix node_step secant_step swap_step cusp_second cusp_third tangent_second tangent_third lifted lifted_matrix plane_section slant points gradients jet part monomials_of monomials_below formula_value quadratic_scalars cubic_scalars rational rational_zero rational_add rational_mul rational_neg rational_inv gcd
triangle_corner_section = refl

triangle_corner_gradients : gradients (scalars (algebra_of (o ∷ (rational (negsuc 0) 1) ∷ (rational (negsuc 3) 1) ∷ (rational (negsuc 1) 1) ∷ []) (at_corner over_root))) (lifted (algebra_of (o ∷ (rational (negsuc 0) 1) ∷ (rational (negsuc 3) 1) ∷ (rational (negsuc 1) 1) ∷ []) (at_corner over_root)) (cubic_of rational_scalars (o ∷ (rational (pos 1) 1) ∷ o ∷ o ∷ o ∷ o ∷ o ∷ o ∷ (rational (negsuc 1) 1) ∷ o ∷ []))) 1 (points (o ∷ (rational (negsuc 0) 1) ∷ (rational (negsuc 3) 1) ∷ (rational (negsuc 1) 1) ∷ []) (at_corner over_root)) ≡ (((pair o o) ∷ (pair (rational (negsuc 0) 1) o) ∷ (pair o o) ∷ []) ∷ ((pair o (rational (pos 2) 1)) ∷ (pair o o) ∷ (pair (rational (negsuc 3) 1) (rational (negsuc 3) 1)) ∷ []) ∷ ((pair (rational (negsuc 7) 1) (rational (negsuc 1) 1)) ∷ (pair o o) ∷ (pair (rational (pos 12) 1) (rational (pos 4) 1)) ∷ []) ∷ [])
unfolding root_of cubic_of hessian3 carry matrix_product form_of_row linear_move scalars cubic_shape axis_matrix plane_matrix node_step secant_step swap_step cusp_second cusp_third tangent_second tangent_third lifted lifted_matrix plane_section slant points gradients jet part monomials_of monomials_below formula_value quadratic_scalars cubic_scalars rational rational_zero rational_add rational_mul rational_neg rational_inv gcd
triangle_corner_gradients = refl

triangle_corner_tmoved : terms (moved (scalars (algebra_of (o ∷ (rational (negsuc 0) 1) ∷ (rational (negsuc 3) 1) ∷ (rational (negsuc 1) 1) ∷ []) (at_corner over_root))) (((pair o o) ∷ (pair (rational (negsuc 0) 2) (rational (negsuc 0) 8)) ∷ (pair o (rational (pos 1) 8)) ∷ []) ∷ ((pair (rational (negsuc 0) 1) o) ∷ (pair o o) ∷ (pair o o) ∷ []) ∷ ((pair o o) ∷ (pair (rational (negsuc 2) 8) (rational (negsuc 0) 8)) ∷ (pair (rational (pos 1) 8) (rational (pos 1) 8)) ∷ []) ∷ []) (lifted (algebra_of (o ∷ (rational (negsuc 0) 1) ∷ (rational (negsuc 3) 1) ∷ (rational (negsuc 1) 1) ∷ []) (at_corner over_root)) (cubic_of rational_scalars (o ∷ (rational (pos 1) 1) ∷ o ∷ o ∷ o ∷ o ∷ o ∷ o ∷ (rational (negsuc 1) 1) ∷ o ∷ [])))) ≡ (((1 ∷ 1 ∷ 1 ∷ []), (pair (rational (negsuc 0) 8) o)) ∷ [])
unfolding root_of cubic_of hessian3 carry matrix_product form_of_row linear_move scalars cubic_shape axis_matrix plane_matrix node_step secant_step swap_step cusp_second cusp_third tangent_second tangent_third lifted lifted_matrix plane_section slant points gradients jet part monomials_of monomials_below formula_value quadratic_scalars cubic_scalars rational rational_zero rational_add rational_mul rational_neg rational_inv gcd
triangle_corner_tmoved = refl

triangle_corner_inverse : matrix_product (scalars (algebra_of (o ∷ (rational (negsuc 0) 1) ∷ (rational (negsuc 3) 1) ∷ (rational (negsuc 1) 1) ∷ []) (at_corner over_root))) (((pair o o) ∷ (pair (rational (negsuc 0) 2) (rational (negsuc 0) 8)) ∷ (pair o (rational (pos 1) 8)) ∷ []) ∷ ((pair (rational (negsuc 0) 1) o) ∷ (pair o o) ∷ (pair o o) ∷ []) ∷ ((pair o o) ∷ (pair (rational (negsuc 2) 8) (rational (negsuc 0) 8)) ∷ (pair (rational (pos 1) 8) (rational (pos 1) 8)) ∷ []) ∷ []) (((pair o o) ∷ (pair (rational (negsuc 0) 1) o) ∷ (pair o o) ∷ []) ∷ ((pair o (rational (pos 2) 1)) ∷ (pair o o) ∷ (pair (rational (negsuc 3) 1) (rational (negsuc 3) 1)) ∷ []) ∷ ((pair (rational (negsuc 7) 1) (rational (negsuc 1) 1)) ∷ (pair o o) ∷ (pair (rational (pos 12) 1) (rational (pos 4) 1)) ∷ []) ∷ []) ≡ unit_matrix (scalars (algebra_of (o ∷ (rational (negsuc 0) 1) ∷ (rational (negsuc 3) 1) ∷ (rational (negsuc 1) 1) ∷ []) (at_corner over_root)))
unfolding root_of cubic_of hessian3 carry matrix_product form_of_row linear_move scalars cubic_shape axis_matrix plane_matrix node_step secant_step swap_step cusp_second cusp_third tangent_second tangent_third lifted lifted_matrix plane_section slant points gradients jet part monomials_of monomials_below formula_value quadratic_scalars cubic_scalars rational rational_zero rational_add rational_mul rational_neg rational_inv gcd
triangle_corner_inverse = refl

triangle_corner_moved_hess : hessian3 rational_scalars (o ∷ (rational (negsuc 0) 1) ∷ (rational (pos 1) 1) ∷ (rational (pos 4) 1) ∷ (rational (negsuc 5) 1) ∷ (rational (pos 2) 1) ∷ (rational (pos 4) 1) ∷ o ∷ (rational (negsuc 4) 1) ∷ (rational (pos 1) 1) ∷ []) ≡ (o ∷ (rational (negsuc 63) 1) ∷ (rational (pos 64) 1) ∷ (rational (pos 256) 1) ∷ (rational (negsuc 383) 1) ∷ (rational (pos 128) 1) ∷ (rational (pos 256) 1) ∷ o ∷ (rational (negsuc 319) 1) ∷ (rational (pos 64) 1) ∷ [])
unfolding root_of cubic_of hessian3 carry matrix_product form_of_row linear_move scalars cubic_shape axis_matrix plane_matrix node_step secant_step swap_step cusp_second cusp_third tangent_second tangent_third lifted lifted_matrix plane_section slant points gradients jet part monomials_of monomials_below formula_value quadratic_scalars cubic_scalars rational rational_zero rational_add rational_mul rational_neg rational_inv gcd
triangle_corner_moved_hess = refl

triangle_corner_moved_slant : slant (cubic_of rational_scalars (o ∷ (rational (negsuc 0) 1) ∷ (rational (pos 1) 1) ∷ (rational (pos 4) 1) ∷ (rational (negsuc 5) 1) ∷ (rational (pos 2) 1) ∷ (rational (pos 4) 1) ∷ o ∷ (rational (negsuc 4) 1) ∷ (rational (pos 1) 1) ∷ [])) ≡ Some 0
unfolding root_of cubic_of hessian3 carry matrix_product form_of_row linear_move scalars cubic_shape axis_matrix plane_matrix node_step secant_step swap_step cusp_second cusp_third tangent_second tangent_third lifted lifted_matrix plane_section slant points gradients jet part monomials_of monomials_below formula_value quadratic_scalars cubic_scalars rational rational_zero rational_add rational_mul rational_neg rational_inv gcd
triangle_corner_moved_slant = refl

triangle_corner_moved_section : plane_section (cubic_of rational_scalars (o ∷ (rational (negsuc 0) 1) ∷ (rational (pos 1) 1) ∷ (rational (pos 4) 1) ∷ (rational (negsuc 5) 1) ∷ (rational (pos 2) 1) ∷ (rational (pos 4) 1) ∷ o ∷ (rational (negsuc 4) 1) ∷ (rational (pos 1) 1) ∷ [])) 0 ≡ (o ∷ (rational (negsuc 0) 1) ∷ (rational (pos 4) 1) ∷ (rational (pos 4) 1) ∷ [])
unfolding root_of cubic_of hessian3 carry matrix_product form_of_row linear_move scalars cubic_shape axis_matrix plane_matrix node_step secant_step swap_step cusp_second cusp_third tangent_second tangent_third lifted lifted_matrix plane_section slant points gradients jet part monomials_of monomials_below formula_value quadratic_scalars cubic_scalars rational rational_zero rational_add rational_mul rational_neg rational_inv gcd
triangle_corner_moved_section = refl

triangle_corner_moved_gradients : gradients (scalars (algebra_of (o ∷ (rational (negsuc 0) 1) ∷ (rational (pos 4) 1) ∷ (rational (pos 4) 1) ∷ []) (at_corner over_root))) (lifted (algebra_of (o ∷ (rational (negsuc 0) 1) ∷ (rational (pos 4) 1) ∷ (rational (pos 4) 1) ∷ []) (at_corner over_root)) (cubic_of rational_scalars (o ∷ (rational (negsuc 0) 1) ∷ (rational (pos 1) 1) ∷ (rational (pos 4) 1) ∷ (rational (negsuc 5) 1) ∷ (rational (pos 2) 1) ∷ (rational (pos 4) 1) ∷ o ∷ (rational (negsuc 4) 1) ∷ (rational (pos 1) 1) ∷ []))) 0 (points (o ∷ (rational (negsuc 0) 1) ∷ (rational (pos 4) 1) ∷ (rational (pos 4) 1) ∷ []) (at_corner over_root)) ≡ (((pair o o) ∷ (pair (rational (negsuc 0) 1) o) ∷ (pair (rational (pos 1) 1) o) ∷ []) ∷ ((pair (rational (pos 4) 1) (rational (negsuc 1) 1)) ∷ (pair (rational (pos 8) 1) (rational (pos 4) 1)) ∷ (pair (rational (pos 4) 1) (rational (negsuc 1) 1)) ∷ []) ∷ ((pair (rational (negsuc 3) 1) (rational (pos 2) 1)) ∷ (pair (rational (pos 24) 1) (rational (negsuc 3) 1)) ∷ (pair (rational (negsuc 3) 1) (rational (pos 2) 1)) ∷ []) ∷ [])
unfolding root_of cubic_of hessian3 carry matrix_product form_of_row linear_move scalars cubic_shape axis_matrix plane_matrix node_step secant_step swap_step cusp_second cusp_third tangent_second tangent_third lifted lifted_matrix plane_section slant points gradients jet part monomials_of monomials_below formula_value quadratic_scalars cubic_scalars rational rational_zero rational_add rational_mul rational_neg rational_inv gcd
triangle_corner_moved_gradients = refl

triangle_corner_moved_tmoved : terms (moved (scalars (algebra_of (o ∷ (rational (negsuc 0) 1) ∷ (rational (pos 4) 1) ∷ (rational (pos 4) 1) ∷ []) (at_corner over_root))) (((pair (rational (negsuc 0) 1) o) ∷ (pair (rational (pos 3) 32) (rational (negsuc 0) 32)) ∷ (pair (rational (negsuc 0) 32) (rational (pos 1) 32)) ∷ []) ∷ ((pair o o) ∷ (pair (rational (pos 1) 32) o) ∷ (pair (rational (pos 1) 32) o) ∷ []) ∷ ((pair (rational (pos 1) 1) o) ∷ (pair (rational (pos 1) 32) o) ∷ (pair (rational (pos 1) 32) o) ∷ []) ∷ []) (lifted (algebra_of (o ∷ (rational (negsuc 0) 1) ∷ (rational (pos 4) 1) ∷ (rational (pos 4) 1) ∷ []) (at_corner over_root)) (cubic_of rational_scalars (o ∷ (rational (negsuc 0) 1) ∷ (rational (pos 1) 1) ∷ (rational (pos 4) 1) ∷ (rational (negsuc 5) 1) ∷ (rational (pos 2) 1) ∷ (rational (pos 4) 1) ∷ o ∷ (rational (negsuc 4) 1) ∷ (rational (pos 1) 1) ∷ [])))) ≡ (((1 ∷ 1 ∷ 1 ∷ []), (pair (rational (negsuc 0) 32) o)) ∷ [])
unfolding root_of cubic_of hessian3 carry matrix_product form_of_row linear_move scalars cubic_shape axis_matrix plane_matrix node_step secant_step swap_step cusp_second cusp_third tangent_second tangent_third lifted lifted_matrix plane_section slant points gradients jet part monomials_of monomials_below formula_value quadratic_scalars cubic_scalars rational rational_zero rational_add rational_mul rational_neg rational_inv gcd
triangle_corner_moved_tmoved = refl

triangle_corner_moved_inverse : matrix_product (scalars (algebra_of (o ∷ (rational (negsuc 0) 1) ∷ (rational (pos 4) 1) ∷ (rational (pos 4) 1) ∷ []) (at_corner over_root))) (((pair (rational (negsuc 0) 1) o) ∷ (pair (rational (pos 3) 32) (rational (negsuc 0) 32)) ∷ (pair (rational (negsuc 0) 32) (rational (pos 1) 32)) ∷ []) ∷ ((pair o o) ∷ (pair (rational (pos 1) 32) o) ∷ (pair (rational (pos 1) 32) o) ∷ []) ∷ ((pair (rational (pos 1) 1) o) ∷ (pair (rational (pos 1) 32) o) ∷ (pair (rational (pos 1) 32) o) ∷ []) ∷ []) (((pair o o) ∷ (pair (rational (negsuc 0) 1) o) ∷ (pair (rational (pos 1) 1) o) ∷ []) ∷ ((pair (rational (pos 4) 1) (rational (negsuc 1) 1)) ∷ (pair (rational (pos 8) 1) (rational (pos 4) 1)) ∷ (pair (rational (pos 4) 1) (rational (negsuc 1) 1)) ∷ []) ∷ ((pair (rational (negsuc 3) 1) (rational (pos 2) 1)) ∷ (pair (rational (pos 24) 1) (rational (negsuc 3) 1)) ∷ (pair (rational (negsuc 3) 1) (rational (pos 2) 1)) ∷ []) ∷ []) ≡ unit_matrix (scalars (algebra_of (o ∷ (rational (negsuc 0) 1) ∷ (rational (pos 4) 1) ∷ (rational (pos 4) 1) ∷ []) (at_corner over_root)))
unfolding root_of cubic_of hessian3 carry matrix_product form_of_row linear_move scalars cubic_shape axis_matrix plane_matrix node_step secant_step swap_step cusp_second cusp_third tangent_second tangent_third lifted lifted_matrix plane_section slant points gradients jet part monomials_of monomials_below formula_value quadratic_scalars cubic_scalars rational rational_zero rational_add rational_mul rational_neg rational_inv gcd
triangle_corner_moved_inverse = refl
