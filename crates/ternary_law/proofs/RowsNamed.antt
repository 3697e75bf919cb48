-- Worked germs in three variables from their linear move to their name or pattern, by computation: the base kills, the finish and the tests of patterns.
-- The expected values come from a program in another language that was written from the same rules.
use Rattle.std.proofs.Common.{◌≡◌, ℕ, pos, negsuc, List, [], ◌∷◌, Some, map, refl}
use Rattle.ring_theory.specs.Gcd.{gcd}
use Rattle.ring_theory.specs.Height.{most}
use Rattle.ring_theory.specs.Rational.{Rational, rational, rational_zero, rational_add, rational_mul, rational_neg, rational_inv}
use Rattle.ext_theory.specs.Extension.{Quadratic, Cubic}
use Rattle.ext_theory.specs.ExtensionScalars.{quadratic_scalars, cubic_scalars}
use Rattle.mono_exp.specs.Exponents.{monomials_of, monomials_below}
use Rattle.poly_law.specs.Polynomials.{Polynomial}
use Rattle.jet_law.specs.Canonical.{monomial_in, jet, part}
use Rattle.normal_forms.specs.declared.family.Family.TheVariants as families
use Rattle.kill_law.specs.declared.part.Part.{Part}
use Rattle.kill_law.specs.declared.part.Part.TheVariants as parts
use Rattle.kill_law.specs.Table.{row}
use Rattle.kill_law.specs.Kill.{letters_of}
use Rattle.kill_law.specs.Taken.{kill_move}
use Rattle.ring_formula.specs.Formulas.{formula_value}
use Rattle.coord_change.specs.Carries.{carry}
use Rattle.coord_change.specs.Moves.{move_of}
use Rattle.move_law.specs.Finish.{begin_finish, finish_part, choices}
use Rattle.move_law.specs.Patterns.{pattern_of, test_of}
use Rattle.ternary_law.specs.Matrices.{Matrix, form_of_row, linear_move}
use Rattle.ext_algebra.specs.declared.algebra.Algebra.{Algebra}
use Rattle.move_law.specs.Algebras.{rationals, quadratic_algebra, root_of, lifted}
use Rattle.ext_algebra.specs.Algebra.{Value, scalars}

abbrev o : Rational
o = rational (pos 0) 1

abbrev pair : Rational → Rational → Quadratic Rational
pair a b = record { c0 = a; c1 = b }

abbrev triple : {V : Type 0} → V → V → V → Cubic V
triple a b c = record { c0 = a; c1 = b; c2 = c }

-- the terms of a polynomial, by their exponents
abbrev terms : {V : Type 0} → Polynomial 3 V → List (List ℕ × V)
terms f = map (λ t. (t.0.entries, t.1)) f

-- the jet of order k of a germ, carried by a linear move over an algebra
abbrev begun : (a : Algebra) → ℕ → Matrix (Value a) → List (List ℕ × Rational) → Polynomial 3 (Value a)
begun a k m germ = carry 3 (scalars a) k (linear_move 3 (scalars a) m) (lifted a (map (λ t. (monomial_in 3 t.0, t.1)) germ))

-- then by the base kill of a degree
abbrev killed : (a : Algebra) → Part → (k degree : ℕ) → Polynomial 3 (Value a) → Polynomial 3 (Value a)
killed a p k degree f = carry 3 (scalars a) k (kill_move 3 (scalars a) (letters_of 3 (scalars a) p f) p degree f) f

row_node_form : terms (finish_part 3 (scalars rationals) 4 parts.T (begin_finish 3 (scalars rationals) 4 (killed rationals parts.T 4 4 (begun rationals 4 (((rational (pos 1) 1) ∷ o ∷ o ∷ []) ∷ (o ∷ (rational (pos 1) 1) ∷ o ∷ []) ∷ (o ∷ o ∷ (rational (pos 1) 1) ∷ []) ∷ []) (((3 ∷ 0 ∷ 0 ∷ []), (rational (pos 1) 1)) ∷ ((1 ∷ 1 ∷ 1 ∷ []), (rational (pos 1) 1)) ∷ ((0 ∷ 3 ∷ 0 ∷ []), (rational (pos 1) 1)) ∷ ((0 ∷ 0 ∷ 4 ∷ []), (rational (pos 1) 1)) ∷ []))))).0.form ≡ (((3 ∷ 0 ∷ 0 ∷ []), (rational (pos 1) 1)) ∷ ((1 ∷ 1 ∷ 1 ∷ []), (rational (pos 1) 1)) ∷ ((0 ∷ 3 ∷ 0 ∷ []), (rational (pos 1) 1)) ∷ ((0 ∷ 0 ∷ 4 ∷ []), (rational (pos 1) 1)) ∷ [])
unfolding formula_value root_of carry form_of_row linear_move scalars lifted kill_move letters_of row move_of most choices finish_part pattern_of test_of jet part monomials_of monomials_below quadratic_scalars cubic_scalars rational rational_zero rational_add rational_mul rational_neg rational_inv gcd
row_node_form = refl

row_node_family : (finish_part 3 (scalars rationals) 4 parts.T (begin_finish 3 (scalars rationals) 4 (killed rationals parts.T 4 4 (begun rationals 4 (((rational (pos 1) 1) ∷ o ∷ o ∷ []) ∷ (o ∷ (rational (pos 1) 1) ∷ o ∷ []) ∷ (o ∷ o ∷ (rational (pos 1) 1) ∷ []) ∷ []) (((3 ∷ 0 ∷ 0 ∷ []), (rational (pos 1) 1)) ∷ ((1 ∷ 1 ∷ 1 ∷ []), (rational (pos 1) 1)) ∷ ((0 ∷ 3 ∷ 0 ∷ []), (rational (pos 1) 1)) ∷ ((0 ∷ 0 ∷ 4 ∷ []), (rational (pos 1) 1)) ∷ []))))).1 ≡ Some (families.T 3 3 4)
unfolding formula_value root_of carry form_of_row linear_move scalars lifted kill_move letters_of row move_of most choices finish_part pattern_of test_of jet part monomials_of monomials_below quadratic_scalars cubic_scalars rational rational_zero rational_add rational_mul rational_neg rational_inv gcd
row_node_family = refl

row_secant_form : terms (finish_part 3 (scalars (quadratic_algebra (pair (rational (pos 1) 1) o))) 4 parts.T (begin_finish 3 (scalars (quadratic_algebra (pair (rational (pos 1) 1) o))) 4 (killed (quadratic_algebra (pair (rational (pos 1) 1) o)) parts.T 4 4 (begun (quadratic_algebra (pair (rational (pos 1) 1) o)) 4 (((pair (rational (pos 1) 1) o) ∷ (pair o o) ∷ (pair o o) ∷ []) ∷ ((pair o o) ∷ (pair o (rational (negsuc 0) 1)) ∷ (pair o (rational (negsuc 0) 1)) ∷ []) ∷ ((pair o o) ∷ (pair (rational (pos 1) 1) o) ∷ (pair (rational (negsuc 0) 1) o) ∷ []) ∷ []) (((3 ∷ 0 ∷ 0 ∷ []), (rational (pos 1) 1)) ∷ ((1 ∷ 2 ∷ 0 ∷ []), (rational (pos 1) 1)) ∷ ((1 ∷ 0 ∷ 2 ∷ []), (rational (pos 1) 1)) ∷ ((0 ∷ 4 ∷ 0 ∷ []), (rational (pos 1) 1)) ∷ []))))).0.form ≡ (((3 ∷ 0 ∷ 0 ∷ []), (pair (rational (pos 1) 1) o)) ∷ ((1 ∷ 1 ∷ 1 ∷ []), (pair (rational (negsuc 3) 1) o)) ∷ ((0 ∷ 4 ∷ 0 ∷ []), (pair (rational (pos 1) 1) o)) ∷ ((0 ∷ 0 ∷ 4 ∷ []), (pair (rational (pos 1) 1) o)) ∷ [])
unfolding formula_value root_of carry form_of_row linear_move scalars lifted kill_move letters_of row move_of most choices finish_part pattern_of test_of jet part monomials_of monomials_below quadratic_scalars cubic_scalars rational rational_zero rational_add rational_mul rational_neg rational_inv gcd
row_secant_form = refl

row_secant_family : (finish_part 3 (scalars (quadratic_algebra (pair (rational (pos 1) 1) o))) 4 parts.T (begin_finish 3 (scalars (quadratic_algebra (pair (rational (pos 1) 1) o))) 4 (killed (quadratic_algebra (pair (rational (pos 1) 1) o)) parts.T 4 4 (begun (quadratic_algebra (pair (rational (pos 1) 1) o)) 4 (((pair (rational (pos 1) 1) o) ∷ (pair o o) ∷ (pair o o) ∷ []) ∷ ((pair o o) ∷ (pair o (rational (negsuc 0) 1)) ∷ (pair o (rational (negsuc 0) 1)) ∷ []) ∷ ((pair o o) ∷ (pair (rational (pos 1) 1) o) ∷ (pair (rational (negsuc 0) 1) o) ∷ []) ∷ []) (((3 ∷ 0 ∷ 0 ∷ []), (rational (pos 1) 1)) ∷ ((1 ∷ 2 ∷ 0 ∷ []), (rational (pos 1) 1)) ∷ ((1 ∷ 0 ∷ 2 ∷ []), (rational (pos 1) 1)) ∷ ((0 ∷ 4 ∷ 0 ∷ []), (rational (pos 1) 1)) ∷ []))))).1 ≡ Some (families.T 3 4 4)
unfolding formula_value root_of carry form_of_row linear_move scalars lifted kill_move letters_of row move_of most choices finish_part pattern_of test_of jet part monomials_of monomials_below quadratic_scalars cubic_scalars rational rational_zero rational_add rational_mul rational_neg rational_inv gcd
row_secant_family = refl

row_concurrent_form : terms (finish_part 3 (scalars (quadratic_algebra (pair (rational (pos 1) 1) o))) 4 parts.U (begin_finish 3 (scalars (quadratic_algebra (pair (rational (pos 1) 1) o))) 4 (killed (quadratic_algebra (pair (rational (pos 1) 1) o)) parts.U 4 4 (begun (quadratic_algebra (pair (rational (pos 1) 1) o)) 4 (((pair o (rational (negsuc 0) 1)) ∷ (pair o (rational (negsuc 0) 1)) ∷ (pair o o) ∷ []) ∷ ((pair (rational (pos 1) 1) o) ∷ (pair (rational (negsuc 0) 1) o) ∷ (pair o o) ∷ []) ∷ ((pair o o) ∷ (pair o o) ∷ (pair (rational (pos 1) 1) o) ∷ []) ∷ []) (((3 ∷ 0 ∷ 0 ∷ []), (rational (pos 1) 1)) ∷ ((1 ∷ 2 ∷ 0 ∷ []), (rational (negsuc 2) 1)) ∷ ((0 ∷ 0 ∷ 4 ∷ []), (rational (pos 1) 1)) ∷ []))))).0.form ≡ (((3 ∷ 0 ∷ 0 ∷ []), (pair o (rational (pos 4) 1))) ∷ ((0 ∷ 3 ∷ 0 ∷ []), (pair o (rational (pos 4) 1))) ∷ ((0 ∷ 0 ∷ 4 ∷ []), (pair (rational (pos 1) 1) o)) ∷ [])
unfolding formula_value root_of carry form_of_row linear_move scalars lifted kill_move letters_of row move_of most choices finish_part pattern_of test_of jet part monomials_of monomials_below quadratic_scalars cubic_scalars rational rational_zero rational_add rational_mul rational_neg rational_inv gcd
row_concurrent_form = refl

row_concurrent_family : (finish_part 3 (scalars (quadratic_algebra (pair (rational (pos 1) 1) o))) 4 parts.U (begin_finish 3 (scalars (quadratic_algebra (pair (rational (pos 1) 1) o))) 4 (killed (quadratic_algebra (pair (rational (pos 1) 1) o)) parts.U 4 4 (begun (quadratic_algebra (pair (rational (pos 1) 1) o)) 4 (((pair o (rational (negsuc 0) 1)) ∷ (pair o (rational (negsuc 0) 1)) ∷ (pair o o) ∷ []) ∷ ((pair (rational (pos 1) 1) o) ∷ (pair (rational (negsuc 0) 1) o) ∷ (pair o o) ∷ []) ∷ ((pair o o) ∷ (pair o o) ∷ (pair (rational (pos 1) 1) o) ∷ []) ∷ []) (((3 ∷ 0 ∷ 0 ∷ []), (rational (pos 1) 1)) ∷ ((1 ∷ 2 ∷ 0 ∷ []), (rational (negsuc 2) 1)) ∷ ((0 ∷ 0 ∷ 4 ∷ []), (rational (pos 1) 1)) ∷ []))))).1 ≡ Some (families.U12)
unfolding formula_value root_of carry form_of_row linear_move scalars lifted kill_move letters_of row move_of most choices finish_part pattern_of test_of jet part monomials_of monomials_below quadratic_scalars cubic_scalars rational rational_zero rational_add rational_mul rational_neg rational_inv gcd
row_concurrent_family = refl

row_cusp_form : terms (finish_part 3 (scalars rationals) 4 parts.Q (begin_finish 3 (scalars rationals) 4 (killed rationals parts.Q 4 4 (begun rationals 4 (((rational (pos 1) 1) ∷ o ∷ o ∷ []) ∷ (o ∷ (rational (pos 1) 1) ∷ o ∷ []) ∷ (o ∷ o ∷ (rational (pos 1) 1) ∷ []) ∷ []) (((3 ∷ 0 ∷ 0 ∷ []), (rational (pos 1) 1)) ∷ ((0 ∷ 1 ∷ 2 ∷ []), (rational (pos 1) 1)) ∷ ((0 ∷ 4 ∷ 0 ∷ []), (rational (pos 1) 1)) ∷ []))))).0.form ≡ (((3 ∷ 0 ∷ 0 ∷ []), (rational (pos 1) 1)) ∷ ((0 ∷ 1 ∷ 2 ∷ []), (rational (pos 1) 1)) ∷ ((0 ∷ 4 ∷ 0 ∷ []), (rational (pos 1) 1)) ∷ [])
unfolding formula_value root_of carry form_of_row linear_move scalars lifted kill_move letters_of row move_of most choices finish_part pattern_of test_of jet part monomials_of monomials_below quadratic_scalars cubic_scalars rational rational_zero rational_add rational_mul rational_neg rational_inv gcd
row_cusp_form = refl

row_cusp_family : (finish_part 3 (scalars rationals) 4 parts.Q (begin_finish 3 (scalars rationals) 4 (killed rationals parts.Q 4 4 (begun rationals 4 (((rational (pos 1) 1) ∷ o ∷ o ∷ []) ∷ (o ∷ (rational (pos 1) 1) ∷ o ∷ []) ∷ (o ∷ o ∷ (rational (pos 1) 1) ∷ []) ∷ []) (((3 ∷ 0 ∷ 0 ∷ []), (rational (pos 1) 1)) ∷ ((0 ∷ 1 ∷ 2 ∷ []), (rational (pos 1) 1)) ∷ ((0 ∷ 4 ∷ 0 ∷ []), (rational (pos 1) 1)) ∷ []))))).1 ≡ Some (families.Q10)
unfolding formula_value root_of carry form_of_row linear_move scalars lifted kill_move letters_of row move_of most choices finish_part pattern_of test_of jet part monomials_of monomials_below quadratic_scalars cubic_scalars rational rational_zero rational_add rational_mul rational_neg rational_inv gcd
row_cusp_family = refl

row_tangent_form : terms (finish_part 3 (scalars rationals) 4 parts.S (begin_finish 3 (scalars rationals) 4 (killed rationals parts.S 4 4 (begun rationals 4 (((rational (pos 1) 1) ∷ o ∷ o ∷ []) ∷ (o ∷ (rational (pos 1) 1) ∷ o ∷ []) ∷ (o ∷ o ∷ (rational (pos 1) 1) ∷ []) ∷ []) (((1 ∷ 0 ∷ 2 ∷ []), (rational (pos 1) 1)) ∷ ((0 ∷ 2 ∷ 1 ∷ []), (rational (pos 1) 1)) ∷ ((4 ∷ 0 ∷ 0 ∷ []), (rational (pos 1) 1)) ∷ []))))).0.form ≡ (((1 ∷ 0 ∷ 2 ∷ []), (rational (pos 1) 1)) ∷ ((0 ∷ 2 ∷ 1 ∷ []), (rational (pos 1) 1)) ∷ ((4 ∷ 0 ∷ 0 ∷ []), (rational (pos 1) 1)) ∷ [])
unfolding formula_value root_of carry form_of_row linear_move scalars lifted kill_move letters_of row move_of most choices finish_part pattern_of test_of jet part monomials_of monomials_below quadratic_scalars cubic_scalars rational rational_zero rational_add rational_mul rational_neg rational_inv gcd
row_tangent_form = refl

row_tangent_family : (finish_part 3 (scalars rationals) 4 parts.S (begin_finish 3 (scalars rationals) 4 (killed rationals parts.S 4 4 (begun rationals 4 (((rational (pos 1) 1) ∷ o ∷ o ∷ []) ∷ (o ∷ (rational (pos 1) 1) ∷ o ∷ []) ∷ (o ∷ o ∷ (rational (pos 1) 1) ∷ []) ∷ []) (((1 ∷ 0 ∷ 2 ∷ []), (rational (pos 1) 1)) ∷ ((0 ∷ 2 ∷ 1 ∷ []), (rational (pos 1) 1)) ∷ ((4 ∷ 0 ∷ 0 ∷ []), (rational (pos 1) 1)) ∷ []))))).1 ≡ Some (families.S11)
unfolding formula_value root_of carry form_of_row linear_move scalars lifted kill_move letters_of row move_of most choices finish_part pattern_of test_of jet part monomials_of monomials_below quadratic_scalars cubic_scalars rational rational_zero rational_add rational_mul rational_neg rational_inv gcd
row_tangent_family = refl
