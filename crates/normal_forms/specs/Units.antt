-- What must be a unit in a form, by its coefficients, and the modulus.
-- I and J are the invariants of a binary quartic: P. J. Olver, Classical Invariant Theory, chapter 2.
use Rattle.std.specs.Prelude.{◌≡◌, ◌≢◌, ℕ, pos, ◌-◌, List, [], ◌∷◌, ◌++◌, length, take, get_or}
use Rattle.std.specs.List.{All}
use Rattle.ring_theory.specs.Ring.{RingOps}
use Rattle.ring_theory.specs.Scalars.{Scalars}
use Rattle.ring_theory.specs.Rational.{Rational, rational, rational_inv}
use Rattle.ring_theory.specs.Height.{rational_scalars}
use Rattle.ring_law.specs.Fraction.{IsFrac, frac_value}
use Rattle.ring_law.specs.declared.fraction.Frac.{Frac}
use Rattle.poly_law.specs.Sums.{power}
use Rattle.ext_algebra.specs.declared.algebra.Algebra.{Algebra}
use Rattle.ext_algebra.specs.declared.algebra.Algebra.TheVariants as algebra
use Rattle.ext_algebra.specs.declared.algebra.Ext.{Ext}
use Rattle.ext_algebra.specs.Algebra.{Value, scalars, value_in, IsElement}
use Rattle.ring_formula.specs.declared.Summand.{Summand}
use Rattle.ring_formula.specs.Formulas.{formula_value, formula_heights}
use Rattle.normal_forms.specs.declared.invariant.TheConstants.{QUARTIC_I, QUARTIC_J, QUARTIC_DISCRIMINANT, QUARTIC_NUMERATOR, TRIPLE_DISCRIMINANT, TRIPLE_NUMERATOR}
use Rattle.normal_forms.specs.declared.kind.Kind.{Kind}
use Rattle.normal_forms.specs.declared.kind.Kind.TheVariants as kinds
use Rattle.normal_forms.specs.declared.modulus_line.ModulusLine.{ModulusLine}
use Rattle.normal_forms.specs.declared.modulus_line.ModulusLine.TheVariants as moduli

module _ {V : Type 0} (s : Scalars V) where
  abbrev r : RingOps V
  r = s.ops

  -- v - w
  abbrev pub minus : V → V → V
  minus v w = r.add v (r.neg w)

  -- n v
  abbrev pub times_number : ℕ → V → V
  times_number n v = r.mul (s.rational (rational (pos n) 1)) v

  -- v / n
  abbrev pub over_number : ℕ → V → V
  over_number n v = r.mul (s.rational (rational (pos 1) n)) v

  abbrev pub cube : V → V
  cube v = power r v 3

  abbrev pub square : V → V
  square v = power r v 2

  -- coefficient i of a list, counted from 0; 0 past the last one
  abbrev pub at : List V → ℕ → V
  at coefs i = get_or coefs i r.zero

  -- I = a e - 4 b d + 3 c^2 of the quartic a x^4 + 4 b x^3 y + 6 c x^2 y^2 + 4 d x y^3 + e y^4, by its plain coefficients
  abbrev pub quartic_i : List V → V
  quartic_i q =
      let b = over_number 4 (at q 1) in
      let c = over_number 6 (at q 2) in
      let d = over_number 4 (at q 3) in
      r.add (minus (r.mul (at q 0) (at q 4)) (times_number 4 (r.mul b d))) (times_number 3 (square c))

  -- J = a c e + 2 b c d - a d^2 - b^2 e - c^3 of the same
  abbrev pub quartic_j : List V → V
  quartic_j q =
      let b = over_number 4 (at q 1) in
      let c = over_number 6 (at q 2) in
      let d = over_number 4 (at q 3) in
      minus (minus (minus (r.add (r.mul (r.mul (at q 0) c) (at q 4)) (times_number 2 (r.mul (r.mul b c) d)))
      (r.mul (at q 0) (square d))) (r.mul (square b) (at q 4))) (cube c)

  -- I^3 - 27 J^2
  abbrev pub quartic_discriminant : List V → V
  quartic_discriminant q = minus (cube (quartic_i q)) (times_number 27 (square (quartic_j q)))

  -- 4 c2^3 + 27 c1 c3^2 of c1 x^3 + c2 x y^4 + c3 y^6
  abbrev pub triple_discriminant : List V → V
  triple_discriminant c = r.add (times_number 4 (cube (at c 1))) (times_number 27 (r.mul (at c 0) (square (at c 2))))

  -- ---- the heights of these formulas, each a table of summands in some letters

  -- a, b, c, d and e
  abbrev pub quartic_letters : List V → List V
  quartic_letters q = at q 0 ∷ over_number 4 (at q 1) ∷ over_number 6 (at q 2) ∷ over_number 4 (at q 3) ∷ at q 4 ∷ []

  -- of v / n
  abbrev pub over_height : ℕ → V → ℕ
  over_height n v = s.product_height (s.rational (rational (pos 1) n)) v

  -- of b, c, d, I and J
  abbrev pub invariants_heights : List V → List ℕ
  invariants_heights q =
      (over_height 4 (at q 1) ∷ over_height 6 (at q 2) ∷ over_height 4 (at q 3) ∷ [])
      ++ (formula_heights s (quartic_letters q) QUARTIC_I ++ formula_heights s (quartic_letters q) QUARTIC_J)

  -- of these and I^3 - 27 J^2
  abbrev pub quartic_heights : List V → List ℕ
  quartic_heights q = invariants_heights q ++ formula_heights s (quartic_i q ∷ quartic_j q ∷ []) QUARTIC_DISCRIMINANT

  -- of 4 c2^3 + 27 c1 c3^2
  abbrev pub triple_heights : List V → List ℕ
  triple_heights c = formula_heights s (at c 0 ∷ at c 1 ∷ at c 2 ∷ []) TRIPLE_DISCRIMINANT

  -- the values that must be units, by the coefficients of the sum, which has one coefficient for each of its monomials
  abbrev pub unit_values : Kind → List V → List V
  unit_values kinds.Simple coefs = coefs
  unit_values kinds.Hyperbolic coefs = coefs
  unit_values kinds.CubicForm coefs = []
  unit_values kinds.QuarticForm coefs = quartic_discriminant coefs ∷ []
  unit_values kinds.Triple coefs = at coefs 0 ∷ triple_discriminant coefs ∷ []
  unit_values kinds.Exceptional coefs = take (length coefs - 1) coefs

  -- the heights of the numbers that they form
  abbrev pub unit_heights : Kind → List V → List ℕ
  unit_heights kinds.Simple coefs = []
  unit_heights kinds.Hyperbolic coefs = []
  unit_heights kinds.CubicForm coefs = []
  unit_heights kinds.QuarticForm coefs = quartic_heights coefs
  unit_heights kinds.Triple coefs = triple_heights coefs
  unit_heights kinds.Exceptional coefs = []

-- ---- the j invariant of X9 and J10, over the rational numbers

-- the coefficients are rational numbers, where the family has a j invariant
abbrev pub AreRational : Kind → List (Ext Frac) → Type 0
AreRational kinds.QuarticForm coefs = All (IsElement algebra.Rational) coefs
AreRational kinds.Triple coefs = All (IsElement algebra.Rational) coefs
AreRational kinds.Simple coefs = Unit {0}
AreRational kinds.Hyperbolic coefs = Unit {0}
AreRational kinds.CubicForm coefs = Unit {0}
AreRational kinds.Exceptional coefs = Unit {0}

-- the discriminant is not 0, where the family has a j invariant
abbrev pub IsNondegenerate : Kind → List Rational → Type 0
IsNondegenerate kinds.QuarticForm coefs = quartic_discriminant rational_scalars coefs ≢ rational (pos 0) 1
IsNondegenerate kinds.Triple coefs = triple_discriminant rational_scalars coefs ≢ rational (pos 0) 1
IsNondegenerate kinds.Simple coefs = Unit {0}
IsNondegenerate kinds.Hyperbolic coefs = Unit {0}
IsNondegenerate kinds.CubicForm coefs = Unit {0}
IsNondegenerate kinds.Exceptional coefs = Unit {0}

-- the heights of the numerator, by its one letter, and of its quotient by the discriminant d
abbrev pub quotient_heights : List Summand → Rational → Rational → List ℕ
quotient_heights numerator letter d =
    formula_heights rational_scalars (letter ∷ []) numerator
    ++ rational_scalars.product_height (formula_value rational_scalars (letter ∷ []) numerator) (rational_inv d) ∷ []

-- the heights of the numbers that the modulus line forms
abbrev pub modulus_heights : Kind → List Rational → List ℕ
modulus_heights kinds.QuarticForm coefs =
    quartic_heights rational_scalars coefs ++ quotient_heights QUARTIC_NUMERATOR (quartic_i rational_scalars coefs) (quartic_discriminant rational_scalars coefs)
modulus_heights kinds.Triple coefs =
    triple_heights rational_scalars coefs ++ quotient_heights TRIPLE_NUMERATOR (at rational_scalars coefs 1) (triple_discriminant rational_scalars coefs)
modulus_heights kinds.Simple coefs = []
modulus_heights kinds.Hyperbolic coefs = []
modulus_heights kinds.CubicForm coefs = []
modulus_heights kinds.Exceptional coefs = []

-- a modulus line is true of a form with these coefficients: none; a form; the coefficient of the modulus monomial;
-- q with q (I^3 - 27 J^2) = 1728 I^3, or q Δ = 6912 c2^3 for Δ = 4 c2^3 + 27 c1 c3^2
abbrev pub IsModulus : (a : Algebra) → Kind → List (Value a) → ModulusLine → Type 0
IsModulus a kinds.Simple coefs moduli.None = Unit {0}
IsModulus a kinds.Hyperbolic coefs moduli.Form = Unit {0}
IsModulus a kinds.CubicForm coefs moduli.Form = Unit {0}
IsModulus a kinds.QuarticForm coefs (moduli.J q) =
    let s = scalars a in
    s.ops.mul (s.rational (frac_value q)) (quartic_discriminant s coefs) ≡ times_number s 1728 (cube s (quartic_i s coefs))
IsModulus a kinds.Triple coefs (moduli.J q) =
    let s = scalars a in
    s.ops.mul (s.rational (frac_value q)) (triple_discriminant s coefs) ≡ times_number s 6912 (cube s (at s coefs 1))
IsModulus a kinds.Exceptional coefs (moduli.Value e) = value_in a e ≡ at (scalars a) coefs (length coefs - 1)
IsModulus a kinds.Simple coefs _ = ⊥
IsModulus a kinds.Hyperbolic coefs _ = ⊥
IsModulus a kinds.CubicForm coefs _ = ⊥
IsModulus a kinds.QuarticForm coefs _ = ⊥
IsModulus a kinds.Triple coefs _ = ⊥
IsModulus a kinds.Exceptional coefs _ = ⊥

-- a modulus line is valid over an algebra: its coefficient is a valid element, or its j invariant a valid fraction
abbrev pub IsValidModulus : Algebra → ModulusLine → Type 0
IsValidModulus a moduli.None = Unit {0}
IsValidModulus a moduli.Form = Unit {0}
IsValidModulus a (moduli.Value e) = IsElement a e
IsValidModulus a (moduli.J q) = IsFrac q
