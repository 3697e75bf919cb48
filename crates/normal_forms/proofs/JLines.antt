-- The j invariant of rational coefficients is that of the form over every algebra.
use Rattle.std.proofs.Common.{◌≡◌, ◌≢◌, ℕ, zero, suc, ◌<◌, ◌≤◌, ◌^◌, pos, List, [], ◌∷◌, ◌++◌, map, length, get_or, refl, sym, ap, ap₂, subst, ◌∙◌, arith}
use Rattle.std.specs.List.{All}
use Rattle.ring_theory.specs.Height.{rational_scalars}
use Rattle.ring_theory.specs.Rational.{Rational, rational, rational_mul, rational_inv}
use Rattle.ring_law.specs.Fraction.{frac_value}
use Rattle.ring_law.specs.declared.fraction.Frac.{Frac}
use Rattle.ext_algebra.specs.declared.algebra.Algebra.{Algebra}
use Rattle.ext_algebra.specs.declared.algebra.Algebra.TheVariants as algebra
use Rattle.ext_algebra.specs.declared.algebra.Ext.{Ext}
use Rattle.ext_algebra.specs.Algebra.{Value, scalars, value_in, IsElement}
use Rattle.ext_algebra.specs.AlgebraLaws.{algebra_scalar_laws}
use Rattle.ext_algebra.proofs.AlgebraParts.{rational_value}
use Rattle.jet_law.specs.Heights.{IsHigh}
use Rattle.jet_law.proofs.High.{high_head, high_right}
use Rattle.ring_formula.specs.declared.Summand.{Summand}
use Rattle.ring_formula.specs.Formulas.{formula_value, formula_heights}
use Rattle.normal_forms.specs.declared.family.Family.{Family}
use Rattle.normal_forms.specs.declared.family.Family.TheVariants as families
use Rattle.normal_forms.specs.declared.kind.Kind.TheVariants as kinds
use Rattle.normal_forms.specs.declared.modulus_line.ModulusLine.TheVariants as moduli
use Rattle.normal_forms.specs.declared.invariant.TheConstants.{QUARTIC_NUMERATOR, TRIPLE_NUMERATOR}
use Rattle.normal_forms.specs.Families.{kind_of, sum_of}
use Rattle.normal_forms.specs.Units.{times_number, cube, at, quartic_i, quartic_discriminant, triple_discriminant, quotient_heights, IsModulus}
use Rattle.normal_forms.proofs.RingMaps.{i_of_map, discriminant_of_map, triple_of_map, numerator_of_map, at_of_map, quotient_of_map, times_divisor, quartic_numerator, triple_numerator}

-- ---- heights and values of a quotient, at equal letters

pub quotient_is : (numerator : List Summand) (j l d l' d' : Rational) → j ≡ rational_mul (formula_value rational_scalars (l ∷ []) numerator) (rational_inv d) → l ≡ l' → d ≡ d'
    → j ≡ rational_mul (formula_value rational_scalars (l' ∷ []) numerator) (rational_inv d')
quotient_is numerator j l d l' d' e el ed = e ∙ ap₂ (λ x y. rational_mul (formula_value rational_scalars (x ∷ []) numerator) (rational_inv y)) el ed

pub quotient_high : (numerator : List Summand) (before : List ℕ) (l d l' d' : Rational) → l ≡ l' → d ≡ d' → IsHigh (quotient_heights numerator l d) → IsHigh (before ++ quotient_heights numerator l' d')
quotient_high numerator before l d l' d' el ed high = high_right before (quotient_heights numerator l' d') (subst IsHigh (ap₂ (quotient_heights numerator) el ed) high)

pub product_high : (numerator : List Summand) (l d top inverse : Rational) → top ≡ formula_value rational_scalars (l ∷ []) numerator → inverse ≡ rational_inv d → 2 ^ 120 ≤ rational_scalars.product_height top inverse
    → IsHigh (quotient_heights numerator l d)
product_high numerator l d top inverse et ei high =
    high_right (formula_heights rational_scalars (l ∷ []) numerator) (rational_scalars.product_height (formula_value rational_scalars (l ∷ []) numerator) (rational_inv d) ∷ [])
    (high_head (rational_scalars.product_height (formula_value rational_scalars (l ∷ []) numerator) (rational_inv d)) [] (subst (λ x. 2 ^ 120 ≤ x) (ap₂ rational_scalars.product_height et ei) high))

-- ---- families with a j invariant

pub quartic_family : (f : Family) → kind_of f ≡ kinds.QuarticForm → length (sum_of f) ≡ 5
quartic_family families.X9 e = refl
quartic_family _ e = absurd cc

pub triple_family : (f : Family) → kind_of f ≡ kinds.Triple → length (sum_of f) ≡ 3
triple_family families.J10 e = refl
triple_family _ e = absurd cc

-- ---- rational coefficients

-- a fraction that is read
pub value_read : (xs : List Frac) (i : ℕ) (d : Frac) → i < length xs → frac_value (get_or xs i d) ≡ at rational_scalars (map frac_value xs) i
value_read [] i d h = absurd (none_below i h)
  where
    none_below : (i : ℕ) → i < 0 → ⊥
    none_below i h = omega arith
value_read (x ∷ xs) zero d h = refl
value_read (x ∷ xs) (suc i) d h = value_read xs i d (omega arith)

pub five_values : (es : List (Ext Frac)) (d : Ext Frac) → length es ≡ 5
    → map frac_value ((get_or es 0 d).c0 ∷ (get_or es 1 d).c0 ∷ (get_or es 2 d).c0 ∷ (get_or es 3 d).c0 ∷ (get_or es 4 d).c0 ∷ []) ≡ map (value_in algebra.Rational) es
unfolding value_in
five_values (x ∷ y ∷ z ∷ u ∷ v ∷ []) d e = refl
five_values [] d e = absurd (omega arith)
five_values (x ∷ []) d e = absurd (omega arith)
five_values (x ∷ y ∷ []) d e = absurd (omega arith)
five_values (x ∷ y ∷ z ∷ []) d e = absurd (omega arith)
five_values (x ∷ y ∷ z ∷ u ∷ []) d e = absurd (omega arith)
five_values (x ∷ y ∷ z ∷ u ∷ v ∷ w ∷ ws) d e = absurd (omega arith)

pub three_values : (es : List (Ext Frac)) (d : Ext Frac) → length es ≡ 3 → map frac_value ((get_or es 0 d).c0 ∷ (get_or es 1 d).c0 ∷ (get_or es 2 d).c0 ∷ []) ≡ map (value_in algebra.Rational) es
unfolding value_in
three_values (x ∷ y ∷ z ∷ []) d e = refl
three_values [] d e = absurd (omega arith)
three_values (x ∷ []) d e = absurd (omega arith)
three_values (x ∷ y ∷ []) d e = absurd (omega arith)
three_values (x ∷ y ∷ z ∷ w ∷ ws) d e = absurd (omega arith)

-- the j invariant of equal coefficients
pub quartic_is : (j : Rational) {xs qs : List Rational} → xs ≡ qs
    → j ≡ rational_mul (formula_value rational_scalars (quartic_i rational_scalars xs ∷ []) QUARTIC_NUMERATOR) (rational_inv (quartic_discriminant rational_scalars xs))
    → j ≡ rational_mul (formula_value rational_scalars (quartic_i rational_scalars qs ∷ []) QUARTIC_NUMERATOR) (rational_inv (quartic_discriminant rational_scalars qs))
quartic_is j e h = h ∙ ap (λ z. rational_mul (formula_value rational_scalars (quartic_i rational_scalars z ∷ []) QUARTIC_NUMERATOR) (rational_inv (quartic_discriminant rational_scalars z))) e

pub triple_is : (j : Rational) {xs qs : List Rational} → xs ≡ qs
    → j ≡ rational_mul (formula_value rational_scalars (at rational_scalars xs 1 ∷ []) TRIPLE_NUMERATOR) (rational_inv (triple_discriminant rational_scalars xs))
    → j ≡ rational_mul (formula_value rational_scalars (at rational_scalars qs 1 ∷ []) TRIPLE_NUMERATOR) (rational_inv (triple_discriminant rational_scalars qs))
triple_is j e h = h ∙ ap (λ z. rational_mul (formula_value rational_scalars (at rational_scalars z 1 ∷ []) TRIPLE_NUMERATOR) (rational_inv (triple_discriminant rational_scalars z))) e

-- a rational element is a rational number in every algebra
lifted_values : (a : Algebra) (es : List (Ext Frac)) → All (IsElement algebra.Rational) es → map (value_in a) es ≡ map (scalars a).rational (map (value_in algebra.Rational) es)
unfolding value_in
lifted_values a [] all = refl
lifted_values a (e ∷ es) all =
    let here = all 0 e (omega arith) in
    ap₂ (λ (v : Value a) vs. v ∷ vs) (rational_value a e (frac_value e.c0) (record { c0 = refl; c1 = here.past.0; c2 = here.past.1; c3 = here.past.2; c4 = here.past.3; c5 = here.past.4 })) (lifted_values a es (λ k d h. all (suc k) d (omega arith)))

module _ (a : Algebra) (es : List (Ext Frac)) (rational_elements : All (IsElement algebra.Rational) es) (j : Frac) where
  abbrev qs : List Rational
  qs = map (value_in algebra.Rational) es

  pub quartic_line : frac_value j ≡ rational_mul (formula_value rational_scalars (quartic_i rational_scalars qs ∷ []) QUARTIC_NUMERATOR) (rational_inv (quartic_discriminant rational_scalars qs))
      → quartic_discriminant rational_scalars qs ≢ rational (pos 0) 1 → IsModulus a kinds.QuarticForm (map (value_in a) es) (moduli.J j)
  quartic_line e nonzero =
      let s = scalars a in
      let laws = algebra_scalar_laws a in
      let d = quartic_discriminant rational_scalars qs in
      let product : rational_mul (frac_value j) d ≡ times_number rational_scalars 1728 (cube rational_scalars (quartic_i rational_scalars qs)) =
      ap (λ z. rational_mul z d) e ∙ times_divisor _ d nonzero ∙ quartic_numerator (quartic_i rational_scalars qs) in
      ap (λ z. s.ops.mul (s.rational (frac_value j)) (quartic_discriminant s z)) (lifted_values a es rational_elements)
      ∙ ap (s.ops.mul (s.rational (frac_value j))) (sym (discriminant_of_map s laws qs))
      ∙ quotient_of_map s laws (frac_value j) d _ product
      ∙ numerator_of_map s laws 1728 (quartic_i rational_scalars qs)
      ∙ ap (λ z. times_number s 1728 (cube s z)) (i_of_map s laws qs ∙ ap (quartic_i s) (sym (lifted_values a es rational_elements)))

  pub triple_line : frac_value j ≡ rational_mul (formula_value rational_scalars (at rational_scalars qs 1 ∷ []) TRIPLE_NUMERATOR) (rational_inv (triple_discriminant rational_scalars qs))
      → triple_discriminant rational_scalars qs ≢ rational (pos 0) 1 → IsModulus a kinds.Triple (map (value_in a) es) (moduli.J j)
  triple_line e nonzero =
      let s = scalars a in
      let laws = algebra_scalar_laws a in
      let d = triple_discriminant rational_scalars qs in
      let product : rational_mul (frac_value j) d ≡ times_number rational_scalars 6912 (cube rational_scalars (at rational_scalars qs 1)) =
      ap (λ z. rational_mul z d) e ∙ times_divisor _ d nonzero ∙ triple_numerator (at rational_scalars qs 1) in
      ap (λ z. s.ops.mul (s.rational (frac_value j)) (triple_discriminant s z)) (lifted_values a es rational_elements)
      ∙ ap (s.ops.mul (s.rational (frac_value j))) (sym (triple_of_map s laws qs))
      ∙ quotient_of_map s laws (frac_value j) d _ product
      ∙ numerator_of_map s laws 6912 (at rational_scalars qs 1)
      ∙ ap (λ z. times_number s 6912 (cube s z)) (at_of_map s laws qs 1 ∙ ap (λ z. at s z 1) (sym (lifted_values a es rational_elements)))
