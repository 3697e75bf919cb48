-- The heights of the items Units and Modulus of a named report: of the numbers that their definitions form.
use Rattle.std.specs.Prelude.{ℕ, List, [], ◌∷◌, ◌++◌, map}
use Rattle.ring_theory.specs.Scalars.{Scalars}
use Rattle.ring_law.specs.Fraction.{frac_value}
use Rattle.ext_algebra.specs.Algebra.{scalars, value_in}
use Rattle.jet_law.specs.Heights.{IsHigh}
use Rattle.ring_formula.specs.declared.Summand.{Summand}
use Rattle.ring_formula.specs.Formulas.{formula_heights}
use Rattle.normal_forms.specs.declared.invariant.TheConstants.{QUARTIC_NUMERATOR, TRIPLE_NUMERATOR}
use Rattle.normal_forms.specs.declared.kind.Kind.{Kind}
use Rattle.normal_forms.specs.declared.kind.Kind.TheVariants as kinds
use Rattle.normal_forms.specs.declared.modulus_line.ModulusLine.{ModulusLine}
use Rattle.normal_forms.specs.declared.modulus_line.ModulusLine.TheVariants as moduli
use Rattle.normal_forms.specs.Families.{kind_of}
use Rattle.normal_forms.specs.Units.{at, quartic_i, quartic_discriminant, triple_discriminant, quartic_heights, triple_heights, unit_heights}
use Rattle.cert_text.specs.declared.report.Named as named_type
use Rattle.report_law.specs.Items.{coefficients_of}

module _ {V : Type 0} (s : Scalars V) where
  -- the heights of the products of pairs of numbers
  abbrev pub pair_heights : {E : Type 0} → (E → V) → List (E × E) → List ℕ
  pair_heights value pairs = map (λ p. s.product_height (value p.0) (value p.1)) pairs

  -- the heights of the numerator of a quotient, by its one letter, and of the quotient q times its divisor d
  abbrev pub times_divisor_heights : List Summand → (letter q d : V) → List ℕ
  times_divisor_heights numerator letter q d = formula_heights s (letter ∷ []) numerator ++ s.product_height q d ∷ []

  -- of I^3 - 27 J^2, q (I^3 - 27 J^2) and 1728 I^3
  abbrev pub quartic_line_heights : V → List V → List ℕ
  quartic_line_heights q coefs = quartic_heights s coefs ++ times_divisor_heights QUARTIC_NUMERATOR (quartic_i s coefs) q (quartic_discriminant s coefs)

  -- of Δ = 4 c2^3 + 27 c1 c3^2, q Δ and 6912 c2^3
  abbrev pub triple_line_heights : V → List V → List ℕ
  triple_line_heights q coefs = triple_heights s coefs ++ times_divisor_heights TRIPLE_NUMERATOR (at s coefs 1) q (triple_discriminant s coefs)

  -- of the numbers that the truth of a modulus line forms
  abbrev pub line_heights : Kind → List V → ModulusLine → List ℕ
  line_heights kinds.QuarticForm coefs (moduli.J q) = quartic_line_heights (s.rational (frac_value q)) coefs
  line_heights kinds.QuarticForm coefs moduli.None = []
  line_heights kinds.QuarticForm coefs moduli.Form = []
  line_heights kinds.QuarticForm coefs (moduli.Value e) = []
  line_heights kinds.Triple coefs (moduli.J q) = triple_line_heights (s.rational (frac_value q)) coefs
  line_heights kinds.Triple coefs moduli.None = []
  line_heights kinds.Triple coefs moduli.Form = []
  line_heights kinds.Triple coefs (moduli.Value e) = []
  line_heights kinds.Simple coefs line = []
  line_heights kinds.Hyperbolic coefs line = []
  line_heights kinds.CubicForm coefs line = []
  line_heights kinds.Exceptional coefs line = []

-- of the unit values, and of the products of the printed values with the printed inverses
abbrev pub units_heights : named_type.Named → List ℕ
units_heights r =
    unit_heights (scalars r.carried.algebra) (kind_of r.family) (coefficients_of r.carried r.family)
    ++ pair_heights (scalars r.carried.algebra) (value_in r.carried.algebra) r.units

-- a number that the item Units forms has height 2^120 or more
abbrev pub IsUnitsHigh : named_type.Named → Type 0
IsUnitsHigh r = IsHigh (units_heights r)

-- a number that the item Modulus forms has height 2^120 or more
abbrev pub IsModulusHigh : named_type.Named → Type 0
IsModulusHigh r = IsHigh (line_heights (scalars r.carried.algebra) (kind_of r.family) (coefficients_of r.carried r.family) r.modulus)
