-- Worked germs in three variables from their linear move to their name or pattern, by computation: the base kills, the finish and the tests of patterns.
-- The expected values come from a program in another language that was written from the same rules.
use Rattle.std.proofs.Common.{◌≡◌, ℕ, pos, List, [], ◌∷◌, Some, map, refl}
use Rattle.ring_theory.specs.Gcd.{gcd}
use Rattle.ring_theory.specs.Height.{most}
use Rattle.ring_theory.specs.Rational.{Rational, rational, rational_zero, rational_add, rational_mul, rational_neg, rational_inv}
use Rattle.ext_theory.specs.Extension.{Quadratic, Cubic}
use Rattle.ext_theory.specs.ExtensionScalars.{quadratic_scalars, cubic_scalars}
use Rattle.mono_exp.specs.Exponents.{monomials_of, monomials_below}
use Rattle.poly_law.specs.Polynomials.{Polynomial}
use Rattle.jet_law.specs.Canonical.{monomial_in, jet, part}
use Rattle.normal_forms.specs.declared.pattern.Pattern.TheVariants as patterns
use Rattle.kill_law.specs.declared.part.Part.{Part}
use Rattle.kill_law.specs.declared.part.Part.TheVariants as parts
use Rattle.kill_law.specs.Table.{row}
use Rattle.kill_law.specs.Kill.{letters_of}
use Rattle.kill_law.specs.Taken.{kill_move}
use Rattle.ring_formula.specs.Formulas.{formula_value}
use Rattle.coord_change.specs.Carries.{carry}
use Rattle.coord_change.specs.Moves.{move_of}
use Rattle.move_law.specs.Finish.{finish_part, choices}
use Rattle.move_law.specs.Patterns.{pattern_of, test_of}
use Rattle.ternary_law.specs.Matrices.{Matrix, form_of_row, linear_move}
use Rattle.ext_algebra.specs.declared.algebra.Algebra.{Algebra}
use Rattle.move_law.specs.Algebras.{rationals, root_of, lifted}
use Rattle.ext_algebra.specs.Algebra.{Value, scalars}

abbrev o : Rational
o = rational (pos 0) 1

abbrev pair : Rational → Rational → Quadratic Rational
pair a b = record { c0 = a; c1 = b }

abbrev triple : {V : Type 0} → V → V → V → Cubic V
triple a b c = record { c0 = a; c1 = b; c2 = c }

-- the terms of a polynomial, by their exponents
abbrev terms : {V : Type 0} → Polynomial 3 V → List (List ℕ × V)
terms f = map (λ t. (t.0.entries, t.1)) f

-- the jet of order k of a germ, carried by a linear move over an algebra
abbrev begun : (a : Algebra) → ℕ → Matrix (Value a) → List (List ℕ × Rational) → Polynomial 3 (Value a)
begun a k m germ = carry 3 (scalars a) k (linear_move 3 (scalars a) m) (lifted a (map (λ t. (monomial_in 3 t.0, t.1)) germ))

-- then by the base kill of a degree
abbrev killed : (a : Algebra) → Part → (k degree : ℕ) → Polynomial 3 (Value a) → Polynomial 3 (Value a)
killed a p k degree f = carry 3 (scalars a) k (kill_move 3 (scalars a) (letters_of 3 (scalars a) p f) p degree f) f

row_Q2_jet : terms (killed rationals parts.Q 5 5 (killed rationals parts.Q 5 4 (begun rationals 5 (((rational (pos 1) 1) ∷ o ∷ o ∷ []) ∷ (o ∷ (rational (pos 1) 1) ∷ o ∷ []) ∷ (o ∷ o ∷ (rational (pos 1) 1) ∷ []) ∷ []) (((3 ∷ 0 ∷ 0 ∷ []), (rational (pos 1) 1)) ∷ ((0 ∷ 1 ∷ 2 ∷ []), (rational (pos 1) 1)) ∷ [])))) ≡ (((3 ∷ 0 ∷ 0 ∷ []), (rational (pos 1) 1)) ∷ ((0 ∷ 1 ∷ 2 ∷ []), (rational (pos 1) 1)) ∷ [])
unfolding formula_value root_of carry form_of_row linear_move scalars lifted kill_move letters_of row move_of most choices finish_part pattern_of test_of jet part monomials_of monomials_below quadratic_scalars cubic_scalars rational rational_zero rational_add rational_mul rational_neg rational_inv gcd
row_Q2_jet = refl

row_Q2_pattern : pattern_of 3 (scalars rationals) parts.Q 5 (killed rationals parts.Q 5 5 (killed rationals parts.Q 5 4 (begun rationals 5 (((rational (pos 1) 1) ∷ o ∷ o ∷ []) ∷ (o ∷ (rational (pos 1) 1) ∷ o ∷ []) ∷ (o ∷ o ∷ (rational (pos 1) 1) ∷ []) ∷ []) (((3 ∷ 0 ∷ 0 ∷ []), (rational (pos 1) 1)) ∷ ((0 ∷ 1 ∷ 2 ∷ []), (rational (pos 1) 1)) ∷ [])))) ≡ Some patterns.Q2
unfolding formula_value root_of carry form_of_row linear_move scalars lifted kill_move letters_of row move_of most choices finish_part pattern_of test_of jet part monomials_of monomials_below quadratic_scalars cubic_scalars rational rational_zero rational_add rational_mul rational_neg rational_inv gcd
row_Q2_pattern = refl

row_U1_jet : terms (killed rationals parts.U 4 4 (begun rationals 4 (((rational (pos 1) 1) ∷ o ∷ o ∷ []) ∷ (o ∷ (rational (pos 1) 1) ∷ o ∷ []) ∷ (o ∷ o ∷ (rational (pos 1) 1) ∷ []) ∷ []) (((3 ∷ 0 ∷ 0 ∷ []), (rational (pos 1) 1)) ∷ ((0 ∷ 3 ∷ 0 ∷ []), (rational (pos 1) 1)) ∷ []))) ≡ (((3 ∷ 0 ∷ 0 ∷ []), (rational (pos 1) 1)) ∷ ((0 ∷ 3 ∷ 0 ∷ []), (rational (pos 1) 1)) ∷ [])
unfolding formula_value root_of carry form_of_row linear_move scalars lifted kill_move letters_of row move_of most choices finish_part pattern_of test_of jet part monomials_of monomials_below quadratic_scalars cubic_scalars rational rational_zero rational_add rational_mul rational_neg rational_inv gcd
row_U1_jet = refl

row_U1_pattern : pattern_of 3 (scalars rationals) parts.U 4 (killed rationals parts.U 4 4 (begun rationals 4 (((rational (pos 1) 1) ∷ o ∷ o ∷ []) ∷ (o ∷ (rational (pos 1) 1) ∷ o ∷ []) ∷ (o ∷ o ∷ (rational (pos 1) 1) ∷ []) ∷ []) (((3 ∷ 0 ∷ 0 ∷ []), (rational (pos 1) 1)) ∷ ((0 ∷ 3 ∷ 0 ∷ []), (rational (pos 1) 1)) ∷ []))) ≡ Some patterns.U1
unfolding formula_value root_of carry form_of_row linear_move scalars lifted kill_move letters_of row move_of most choices finish_part pattern_of test_of jet part monomials_of monomials_below quadratic_scalars cubic_scalars rational rational_zero rational_add rational_mul rational_neg rational_inv gcd
row_U1_pattern = refl

row_V_jet : terms (begun rationals 3 (((rational (pos 1) 1) ∷ o ∷ o ∷ []) ∷ (o ∷ (rational (pos 1) 1) ∷ o ∷ []) ∷ (o ∷ o ∷ (rational (pos 1) 1) ∷ []) ∷ []) (((2 ∷ 1 ∷ 0 ∷ []), (rational (pos 1) 1)) ∷ [])) ≡ (((2 ∷ 1 ∷ 0 ∷ []), (rational (pos 1) 1)) ∷ [])
unfolding formula_value root_of carry form_of_row linear_move scalars lifted kill_move letters_of row move_of most choices finish_part pattern_of test_of jet part monomials_of monomials_below quadratic_scalars cubic_scalars rational rational_zero rational_add rational_mul rational_neg rational_inv gcd
row_V_jet = refl
