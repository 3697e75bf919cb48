-- Worked germs in three variables from their linear move to their name or pattern, by computation: the base kills, the finish and the tests of patterns.
-- The expected values come from a program in another language that was written from the same rules.
use Rattle.std.proofs.Common.{◌≡◌, ℕ, pos, negsuc, List, [], ◌∷◌, Some, map, refl}
use Rattle.ring_theory.specs.Gcd.{gcd}
use Rattle.ring_theory.specs.Height.{most}
use Rattle.ring_theory.specs.Rational.{Rational, rational, rational_zero, rational_add, rational_mul, rational_neg, rational_inv}
use Rattle.ext_theory.specs.Extension.{Quadratic, Cubic}
use Rattle.ext_theory.specs.ExtensionScalars.{quadratic_scalars, cubic_scalars}
use Rattle.mono_exp.specs.Exponents.{monomials_of, monomials_below}
use Rattle.poly_law.specs.Polynomials.{Polynomial}
use Rattle.jet_law.specs.Canonical.{monomial_in, jet, part}
use Rattle.normal_forms.specs.declared.family.Family.TheVariants as families
use Rattle.kill_law.specs.declared.part.Part.{Part}
use Rattle.kill_law.specs.declared.part.Part.TheVariants as parts
use Rattle.kill_law.specs.Table.{row}
use Rattle.kill_law.specs.Kill.{letters_of}
use Rattle.kill_law.specs.Taken.{kill_move}
use Rattle.ring_formula.specs.Formulas.{formula_value}
use Rattle.coord_change.specs.Carries.{carry}
use Rattle.coord_change.specs.Moves.{move_of}
use Rattle.move_law.specs.Finish.{begin_finish, finish_part, choices}
use Rattle.move_law.specs.Patterns.{pattern_of, test_of}
use Rattle.ternary_law.specs.Matrices.{Matrix, form_of_row, linear_move}
use Rattle.ext_algebra.specs.declared.algebra.Algebra.{Algebra}
use Rattle.move_law.specs.Algebras.{rationals, root_of, lifted}
use Rattle.ext_algebra.specs.Algebra.{Value, scalars}

abbrev o : Rational
o = rational (pos 0) 1

abbrev pair : Rational → Rational → Quadratic Rational
pair a b = record { c0 = a; c1 = b }

abbrev triple : {V : Type 0} → V → V → V → Cubic V
triple a b c = record { c0 = a; c1 = b; c2 = c }

-- the terms of a polynomial, by their exponents
abbrev terms : {V : Type 0} → Polynomial 3 V → List (List ℕ × V)
terms f = map (λ t. (t.0.entries, t.1)) f

-- the jet of order k of a germ, carried by a linear move over an algebra
abbrev begun : (a : Algebra) → ℕ → Matrix (Value a) → List (List ℕ × Rational) → Polynomial 3 (Value a)
begun a k m germ = carry 3 (scalars a) k (linear_move 3 (scalars a) m) (lifted a (map (λ t. (monomial_in 3 t.0, t.1)) germ))

-- then by the base kill of a degree
abbrev killed : (a : Algebra) → Part → (k degree : ℕ) → Polynomial 3 (Value a) → Polynomial 3 (Value a)
killed a p k degree f = carry 3 (scalars a) k (kill_move 3 (scalars a) (letters_of 3 (scalars a) p f) p degree f) f

-- the polynomial with these terms
abbrev read : (a : Algebra) → List (List ℕ × Value a) → Polynomial 3 (Value a)
read a ts = map (λ t. (monomial_in 3 t.0, t.1)) ts

row_triangle_begun : terms (begun rationals 5 ((o ∷ o ∷ (rational (pos 1) 1) ∷ []) ∷ ((rational (pos 1) 1) ∷ o ∷ o ∷ []) ∷ (o ∷ (rational (negsuc 0) 1) ∷ o ∷ []) ∷ []) (((1 ∷ 1 ∷ 1 ∷ []), (rational (pos 1) 1)) ∷ ((4 ∷ 0 ∷ 0 ∷ []), (rational (pos 1) 1)) ∷ ((0 ∷ 5 ∷ 0 ∷ []), (rational (pos 1) 1)) ∷ ((0 ∷ 0 ∷ 5 ∷ []), (rational (pos 1) 1)) ∷ [])) ≡ (((1 ∷ 1 ∷ 1 ∷ []), (rational (negsuc 0) 1)) ∷ ((0 ∷ 0 ∷ 4 ∷ []), (rational (pos 1) 1)) ∷ ((5 ∷ 0 ∷ 0 ∷ []), (rational (pos 1) 1)) ∷ ((0 ∷ 5 ∷ 0 ∷ []), (rational (negsuc 0) 1)) ∷ [])
unfolding formula_value root_of carry form_of_row linear_move scalars lifted kill_move letters_of row move_of most choices finish_part pattern_of test_of jet part monomials_of monomials_below quadratic_scalars cubic_scalars rational rational_zero rational_add rational_mul rational_neg rational_inv gcd
row_triangle_begun = refl

row_triangle_killed4 : terms (killed rationals parts.T 5 4 (read rationals (((1 ∷ 1 ∷ 1 ∷ []), (rational (negsuc 0) 1)) ∷ ((0 ∷ 0 ∷ 4 ∷ []), (rational (pos 1) 1)) ∷ ((5 ∷ 0 ∷ 0 ∷ []), (rational (pos 1) 1)) ∷ ((0 ∷ 5 ∷ 0 ∷ []), (rational (negsuc 0) 1)) ∷ []))) ≡ (((1 ∷ 1 ∷ 1 ∷ []), (rational (negsuc 0) 1)) ∷ ((0 ∷ 0 ∷ 4 ∷ []), (rational (pos 1) 1)) ∷ ((5 ∷ 0 ∷ 0 ∷ []), (rational (pos 1) 1)) ∷ ((0 ∷ 5 ∷ 0 ∷ []), (rational (negsuc 0) 1)) ∷ [])
unfolding formula_value root_of carry form_of_row linear_move scalars lifted kill_move letters_of row move_of most choices finish_part pattern_of test_of jet part monomials_of monomials_below quadratic_scalars cubic_scalars rational rational_zero rational_add rational_mul rational_neg rational_inv gcd
row_triangle_killed4 = refl

row_triangle_killed5 : terms (killed rationals parts.T 5 5 (read rationals (((1 ∷ 1 ∷ 1 ∷ []), (rational (negsuc 0) 1)) ∷ ((0 ∷ 0 ∷ 4 ∷ []), (rational (pos 1) 1)) ∷ ((5 ∷ 0 ∷ 0 ∷ []), (rational (pos 1) 1)) ∷ ((0 ∷ 5 ∷ 0 ∷ []), (rational (negsuc 0) 1)) ∷ []))) ≡ (((1 ∷ 1 ∷ 1 ∷ []), (rational (negsuc 0) 1)) ∷ ((0 ∷ 0 ∷ 4 ∷ []), (rational (pos 1) 1)) ∷ ((5 ∷ 0 ∷ 0 ∷ []), (rational (pos 1) 1)) ∷ ((0 ∷ 5 ∷ 0 ∷ []), (rational (negsuc 0) 1)) ∷ [])
unfolding formula_value root_of carry form_of_row linear_move scalars lifted kill_move letters_of row move_of most choices finish_part pattern_of test_of jet part monomials_of monomials_below quadratic_scalars cubic_scalars rational rational_zero rational_add rational_mul rational_neg rational_inv gcd
row_triangle_killed5 = refl

row_triangle_form : terms (finish_part 3 (scalars rationals) 5 parts.T (begin_finish 3 (scalars rationals) 5 (read rationals (((1 ∷ 1 ∷ 1 ∷ []), (rational (negsuc 0) 1)) ∷ ((0 ∷ 0 ∷ 4 ∷ []), (rational (pos 1) 1)) ∷ ((5 ∷ 0 ∷ 0 ∷ []), (rational (pos 1) 1)) ∷ ((0 ∷ 5 ∷ 0 ∷ []), (rational (negsuc 0) 1)) ∷ [])))).0.form ≡ (((1 ∷ 1 ∷ 1 ∷ []), (rational (negsuc 0) 1)) ∷ ((4 ∷ 0 ∷ 0 ∷ []), (rational (pos 1) 1)) ∷ ((0 ∷ 5 ∷ 0 ∷ []), (rational (pos 1) 1)) ∷ ((0 ∷ 0 ∷ 5 ∷ []), (rational (negsuc 0) 1)) ∷ [])
unfolding formula_value root_of carry form_of_row linear_move scalars lifted kill_move letters_of row move_of most choices finish_part pattern_of test_of jet part monomials_of monomials_below quadratic_scalars cubic_scalars rational rational_zero rational_add rational_mul rational_neg rational_inv gcd
row_triangle_form = refl

row_triangle_family : (finish_part 3 (scalars rationals) 5 parts.T (begin_finish 3 (scalars rationals) 5 (read rationals (((1 ∷ 1 ∷ 1 ∷ []), (rational (negsuc 0) 1)) ∷ ((0 ∷ 0 ∷ 4 ∷ []), (rational (pos 1) 1)) ∷ ((5 ∷ 0 ∷ 0 ∷ []), (rational (pos 1) 1)) ∷ ((0 ∷ 5 ∷ 0 ∷ []), (rational (negsuc 0) 1)) ∷ [])))).1 ≡ Some (families.T 4 5 5)
unfolding formula_value root_of carry form_of_row linear_move scalars lifted kill_move letters_of row move_of most choices finish_part pattern_of test_of jet part monomials_of monomials_below quadratic_scalars cubic_scalars rational rational_zero rational_add rational_mul rational_neg rational_inv gcd
row_triangle_family = refl
