-- Worked germs in three variables from their linear move to their name or pattern, by computation: the base kills, the finish and the tests of patterns.
-- The expected values come from a program in another language that was written from the same rules.
use Rattle.std.proofs.Common.{◌≡◌, ℕ, pos, negsuc, List, [], ◌∷◌, Some, map, refl}
use Rattle.ring_theory.specs.Gcd.{gcd}
use Rattle.ring_theory.specs.Height.{most}
use Rattle.ring_theory.specs.Rational.{Rational, rational, rational_zero, rational_add, rational_mul, rational_neg, rational_inv}
use Rattle.ext_theory.specs.Extension.{Quadratic, Cubic}
use Rattle.ext_theory.specs.ExtensionScalars.{quadratic_scalars, cubic_scalars}
use Rattle.mono_exp.specs.Exponents.{monomials_of, monomials_below}
use Rattle.poly_law.specs.Polynomials.{Polynomial}
use Rattle.jet_law.specs.Canonical.{monomial_in, jet, part}
use Rattle.normal_forms.specs.declared.family.Family.TheVariants as families
use Rattle.kill_law.specs.declared.part.Part.{Part}
use Rattle.kill_law.specs.declared.part.Part.TheVariants as parts
use Rattle.kill_law.specs.Table.{row}
use Rattle.kill_law.specs.Kill.{letters_of}
use Rattle.kill_law.specs.Taken.{kill_move}
use Rattle.ring_formula.specs.Formulas.{formula_value}
use Rattle.coord_change.specs.Carries.{carry}
use Rattle.coord_change.specs.Moves.{move_of}
use Rattle.move_law.specs.Finish.{begin_finish, finish_part, choices}
use Rattle.move_law.specs.Patterns.{pattern_of, test_of}
use Rattle.ternary_law.specs.Matrices.{Matrix, form_of_row, linear_move}
use Rattle.ext_algebra.specs.declared.algebra.Algebra.{Algebra}
use Rattle.move_law.specs.Algebras.{tower_algebra, root_of, lifted}
use Rattle.ext_algebra.specs.Algebra.{Value, scalars}

abbrev o : Rational
o = rational (pos 0) 1

abbrev pair : Rational → Rational → Quadratic Rational
pair a b = record { c0 = a; c1 = b }

abbrev triple : {V : Type 0} → V → V → V → Cubic V
triple a b c = record { c0 = a; c1 = b; c2 = c }

-- the terms of a polynomial, by their exponents
abbrev terms : {V : Type 0} → Polynomial 3 V → List (List ℕ × V)
terms f = map (λ t. (t.0.entries, t.1)) f

-- the jet of order k of a germ, carried by a linear move over an algebra
abbrev begun : (a : Algebra) → ℕ → Matrix (Value a) → List (List ℕ × Rational) → Polynomial 3 (Value a)
begun a k m germ = carry 3 (scalars a) k (linear_move 3 (scalars a) m) (lifted a (map (λ t. (monomial_in 3 t.0, t.1)) germ))

-- then by the base kill of a degree
abbrev killed : (a : Algebra) → Part → (k degree : ℕ) → Polynomial 3 (Value a) → Polynomial 3 (Value a)
killed a p k degree f = carry 3 (scalars a) k (kill_move 3 (scalars a) (letters_of 3 (scalars a) p f) p degree f) f

-- the polynomial with these terms
abbrev read : (a : Algebra) → List (List ℕ × Value a) → Polynomial 3 (Value a)
read a ts = map (λ t. (monomial_in 3 t.0, t.1)) ts

row_tower_begun : terms (begun (tower_algebra (triple (rational (pos 2) 1) o o) (rational (negsuc 107) 1)) 4 (((triple (pair o o) (pair (rational (negsuc 0) 18) o) (pair o o)) ∷ (triple (pair o o) (pair (rational (pos 1) 36) (rational (pos 1) 216)) (pair o o)) ∷ (triple (pair o o) (pair (rational (pos 1) 36) (rational (negsuc 0) 216)) (pair o o)) ∷ []) ∷ ((triple (pair (rational (pos 1) 18) o) (pair o o) (pair o o)) ∷ (triple (pair (rational (pos 1) 18) o) (pair o o) (pair o o)) ∷ (triple (pair (rational (pos 1) 18) o) (pair o o) (pair o o)) ∷ []) ∷ ((triple (pair o o) (pair o o) (pair (rational (pos 1) 36) o)) ∷ (triple (pair o o) (pair o o) (pair (rational (negsuc 0) 72) (rational (pos 1) 432))) ∷ (triple (pair o o) (pair o o) (pair (rational (negsuc 0) 72) (rational (negsuc 0) 432))) ∷ []) ∷ []) (((3 ∷ 0 ∷ 0 ∷ []), (rational (pos 1) 1)) ∷ ((1 ∷ 1 ∷ 1 ∷ []), (rational (negsuc 5) 1)) ∷ ((0 ∷ 3 ∷ 0 ∷ []), (rational (pos 2) 1)) ∷ ((0 ∷ 0 ∷ 3 ∷ []), (rational (pos 4) 1)) ∷ ((4 ∷ 0 ∷ 0 ∷ []), (rational (pos 1) 1)) ∷ [])) ≡ (((1 ∷ 1 ∷ 1 ∷ []), (triple (pair (rational (pos 1) 108) o) (pair o o) (pair o o))) ∷ ((4 ∷ 0 ∷ 0 ∷ []), (triple (pair o o) (pair (rational (negsuc 0) 52488) o) (pair o o))) ∷ ((3 ∷ 1 ∷ 0 ∷ []), (triple (pair o o) (pair (rational (pos 1) 26244) (rational (pos 1) 157464)) (pair o o))) ∷ ((3 ∷ 0 ∷ 1 ∷ []), (triple (pair o o) (pair (rational (pos 1) 26244) (rational (negsuc 0) 157464)) (pair o o))) ∷ ((2 ∷ 2 ∷ 0 ∷ []), (triple (pair o o) (pair (rational (pos 1) 17496) (rational (negsuc 0) 104976)) (pair o o))) ∷ ((2 ∷ 1 ∷ 1 ∷ []), (triple (pair o o) (pair (rational (negsuc 0) 4374) o) (pair o o))) ∷ ((2 ∷ 0 ∷ 2 ∷ []), (triple (pair o o) (pair (rational (pos 1) 17496) (rational (pos 1) 104976)) (pair o o))) ∷ ((1 ∷ 3 ∷ 0 ∷ []), (triple (pair o o) (pair (rational (negsuc 0) 13122) o) (pair o o))) ∷ ((1 ∷ 2 ∷ 1 ∷ []), (triple (pair o o) (pair (rational (pos 1) 8748) (rational (pos 1) 52488)) (pair o o))) ∷ ((1 ∷ 1 ∷ 2 ∷ []), (triple (pair o o) (pair (rational (pos 1) 8748) (rational (negsuc 0) 52488)) (pair o o))) ∷ ((1 ∷ 0 ∷ 3 ∷ []), (triple (pair o o) (pair (rational (negsuc 0) 13122) o) (pair o o))) ∷ ((0 ∷ 4 ∷ 0 ∷ []), (triple (pair o o) (pair (rational (pos 1) 104976) (rational (pos 1) 629856)) (pair o o))) ∷ ((0 ∷ 3 ∷ 1 ∷ []), (triple (pair o o) (pair (rational (pos 1) 26244) (rational (negsuc 0) 157464)) (pair o o))) ∷ ((0 ∷ 2 ∷ 2 ∷ []), (triple (pair o o) (pair (rational (negsuc 0) 8748) o) (pair o o))) ∷ ((0 ∷ 1 ∷ 3 ∷ []), (triple (pair o o) (pair (rational (pos 1) 26244) (rational (pos 1) 157464)) (pair o o))) ∷ ((0 ∷ 0 ∷ 4 ∷ []), (triple (pair o o) (pair (rational (pos 1) 104976) (rational (negsuc 0) 629856)) (pair o o))) ∷ [])
unfolding formula_value root_of carry form_of_row linear_move scalars lifted kill_move letters_of row move_of most choices finish_part pattern_of test_of jet part monomials_of monomials_below quadratic_scalars cubic_scalars rational rational_zero rational_add rational_mul rational_neg rational_inv gcd
row_tower_begun = refl

row_tower_killed4 : terms (killed (tower_algebra (triple (rational (pos 2) 1) o o) (rational (negsuc 107) 1)) parts.T 4 4 (read (tower_algebra (triple (rational (pos 2) 1) o o) (rational (negsuc 107) 1)) (((1 ∷ 1 ∷ 1 ∷ []), (triple (pair (rational (pos 1) 108) o) (pair o o) (pair o o))) ∷ ((4 ∷ 0 ∷ 0 ∷ []), (triple (pair o o) (pair (rational (negsuc 0) 52488) o) (pair o o))) ∷ ((3 ∷ 1 ∷ 0 ∷ []), (triple (pair o o) (pair (rational (pos 1) 26244) (rational (pos 1) 157464)) (pair o o))) ∷ ((3 ∷ 0 ∷ 1 ∷ []), (triple (pair o o) (pair (rational (pos 1) 26244) (rational (negsuc 0) 157464)) (pair o o))) ∷ ((2 ∷ 2 ∷ 0 ∷ []), (triple (pair o o) (pair (rational (pos 1) 17496) (rational (negsuc 0) 104976)) (pair o o))) ∷ ((2 ∷ 1 ∷ 1 ∷ []), (triple (pair o o) (pair (rational (negsuc 0) 4374) o) (pair o o))) ∷ ((2 ∷ 0 ∷ 2 ∷ []), (triple (pair o o) (pair (rational (pos 1) 17496) (rational (pos 1) 104976)) (pair o o))) ∷ ((1 ∷ 3 ∷ 0 ∷ []), (triple (pair o o) (pair (rational (negsuc 0) 13122) o) (pair o o))) ∷ ((1 ∷ 2 ∷ 1 ∷ []), (triple (pair o o) (pair (rational (pos 1) 8748) (rational (pos 1) 52488)) (pair o o))) ∷ ((1 ∷ 1 ∷ 2 ∷ []), (triple (pair o o) (pair (rational (pos 1) 8748) (rational (negsuc 0) 52488)) (pair o o))) ∷ ((1 ∷ 0 ∷ 3 ∷ []), (triple (pair o o) (pair (rational (negsuc 0) 13122) o) (pair o o))) ∷ ((0 ∷ 4 ∷ 0 ∷ []), (triple (pair o o) (pair (rational (pos 1) 104976) (rational (pos 1) 629856)) (pair o o))) ∷ ((0 ∷ 3 ∷ 1 ∷ []), (triple (pair o o) (pair (rational (pos 1) 26244) (rational (negsuc 0) 157464)) (pair o o))) ∷ ((0 ∷ 2 ∷ 2 ∷ []), (triple (pair o o) (pair (rational (negsuc 0) 8748) o) (pair o o))) ∷ ((0 ∷ 1 ∷ 3 ∷ []), (triple (pair o o) (pair (rational (pos 1) 26244) (rational (pos 1) 157464)) (pair o o))) ∷ ((0 ∷ 0 ∷ 4 ∷ []), (triple (pair o o) (pair (rational (pos 1) 104976) (rational (negsuc 0) 629856)) (pair o o))) ∷ []))) ≡ (((1 ∷ 1 ∷ 1 ∷ []), (triple (pair (rational (pos 1) 108) o) (pair o o) (pair o o))) ∷ ((4 ∷ 0 ∷ 0 ∷ []), (triple (pair o o) (pair (rational (negsuc 0) 52488) o) (pair o o))) ∷ ((0 ∷ 4 ∷ 0 ∷ []), (triple (pair o o) (pair (rational (pos 1) 104976) (rational (pos 1) 629856)) (pair o o))) ∷ ((0 ∷ 0 ∷ 4 ∷ []), (triple (pair o o) (pair (rational (pos 1) 104976) (rational (negsuc 0) 629856)) (pair o o))) ∷ [])
unfolding formula_value root_of carry form_of_row linear_move scalars lifted kill_move letters_of row move_of most choices finish_part pattern_of test_of jet part monomials_of monomials_below quadratic_scalars cubic_scalars rational rational_zero rational_add rational_mul rational_neg rational_inv gcd
row_tower_killed4 = refl

row_tower_form : terms (finish_part 3 (scalars (tower_algebra (triple (rational (pos 2) 1) o o) (rational (negsuc 107) 1))) 4 parts.T (begin_finish 3 (scalars (tower_algebra (triple (rational (pos 2) 1) o o) (rational (negsuc 107) 1))) 4 (read (tower_algebra (triple (rational (pos 2) 1) o o) (rational (negsuc 107) 1)) (((1 ∷ 1 ∷ 1 ∷ []), (triple (pair (rational (pos 1) 108) o) (pair o o) (pair o o))) ∷ ((4 ∷ 0 ∷ 0 ∷ []), (triple (pair o o) (pair (rational (negsuc 0) 52488) o) (pair o o))) ∷ ((0 ∷ 4 ∷ 0 ∷ []), (triple (pair o o) (pair (rational (pos 1) 104976) (rational (pos 1) 629856)) (pair o o))) ∷ ((0 ∷ 0 ∷ 4 ∷ []), (triple (pair o o) (pair (rational (pos 1) 104976) (rational (negsuc 0) 629856)) (pair o o))) ∷ [])))).0.form ≡ (((1 ∷ 1 ∷ 1 ∷ []), (triple (pair (rational (pos 1) 108) o) (pair o o) (pair o o))) ∷ ((4 ∷ 0 ∷ 0 ∷ []), (triple (pair o o) (pair (rational (negsuc 0) 52488) o) (pair o o))) ∷ ((0 ∷ 4 ∷ 0 ∷ []), (triple (pair o o) (pair (rational (pos 1) 104976) (rational (pos 1) 629856)) (pair o o))) ∷ ((0 ∷ 0 ∷ 4 ∷ []), (triple (pair o o) (pair (rational (pos 1) 104976) (rational (negsuc 0) 629856)) (pair o o))) ∷ [])
unfolding formula_value root_of carry form_of_row linear_move scalars lifted kill_move letters_of row move_of most choices finish_part pattern_of test_of jet part monomials_of monomials_below quadratic_scalars cubic_scalars rational rational_zero rational_add rational_mul rational_neg rational_inv gcd
row_tower_form = refl

row_tower_family : (finish_part 3 (scalars (tower_algebra (triple (rational (pos 2) 1) o o) (rational (negsuc 107) 1))) 4 parts.T (begin_finish 3 (scalars (tower_algebra (triple (rational (pos 2) 1) o o) (rational (negsuc 107) 1))) 4 (read (tower_algebra (triple (rational (pos 2) 1) o o) (rational (negsuc 107) 1)) (((1 ∷ 1 ∷ 1 ∷ []), (triple (pair (rational (pos 1) 108) o) (pair o o) (pair o o))) ∷ ((4 ∷ 0 ∷ 0 ∷ []), (triple (pair o o) (pair (rational (negsuc 0) 52488) o) (pair o o))) ∷ ((0 ∷ 4 ∷ 0 ∷ []), (triple (pair o o) (pair (rational (pos 1) 104976) (rational (pos 1) 629856)) (pair o o))) ∷ ((0 ∷ 0 ∷ 4 ∷ []), (triple (pair o o) (pair (rational (pos 1) 104976) (rational (negsuc 0) 629856)) (pair o o))) ∷ [])))).1 ≡ Some (families.T 4 4 4)
unfolding formula_value root_of carry form_of_row linear_move scalars lifted kill_move letters_of row move_of most choices finish_part pattern_of test_of jet part monomials_of monomials_below quadratic_scalars cubic_scalars rational rational_zero rational_add rational_mul rational_neg rational_inv gcd
row_tower_family = refl
