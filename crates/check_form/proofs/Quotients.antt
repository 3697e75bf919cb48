-- When q times a divisor is a numerator, and the heights of these numbers.
use Rattle.std.proofs.Common.{◌≡◌, ℕ, ◌<◌, ◌↔◌, IsTrue, Bool, pos, List, [], ◌∷◌, ◌++◌, map, length, get_or, sym, ap₂, subst, ◌∙◌}
use Rattle.std.proofs.lemmas.List.{get_or_default}
use Rattle.ring_theory.specs.Rational.{rational}
use Rattle.ring_theory.specs.Scalars.{Scalars, ScalarLaws}
use Rattle.ring_theory.proofs.RingReify.{by_ring, reify}
use Rattle.jet_law.specs.Heights.{IsHigh}
use Rattle.jet_law.proofs.High.{high_right}
use Rattle.ring_formula.specs.declared.Summand.{Summand}
use Rattle.ring_formula.specs.Formulas.{formula_value}
use Rattle.ring_formula.proofs.Steps.{letter_is}
use Rattle.normal_forms.specs.declared.invariant.TheConstants.{QUARTIC_NUMERATOR, TRIPLE_NUMERATOR}
use Rattle.normal_forms.specs.Units.{at, times_number, cube}
use Rattle.check_form.specs.FormHeights.{times_divisor_heights}

-- a test of an equation, at equal sides
pub same_test : {V : Type 0} (b : Bool) (x y x' y' : V) → x ≡ x' → y ≡ y' → (IsTrue b ↔ (x ≡ y)) → IsTrue b ↔ (x' ≡ y')
same_test b x y x' y' p q h = (λ t. sym p ∙ h.0 t ∙ q, λ e. h.1 (p ∙ e ∙ sym q))

-- a coefficient that is read
pub coefficient_read : {E V : Type 0} (s : Scalars V) (value : E → V) (xs : List E) (i : ℕ) (d : E) → i < length xs → value (get_or xs i d) ≡ at s (map value xs) i
coefficient_read s value xs i d h = letter_is s value xs i (get_or xs i d) h (get_or_default xs i d (get_or xs i d) h)

module _ {V : Type 0} (s : Scalars V) where
  -- the heights of a quotient, at equal letters and divisors
  pub quotient_high : (numerator : List Summand) (letter q d letter' d' : V) (before : List ℕ) → letter ≡ letter' → d ≡ d' → IsHigh (times_divisor_heights s numerator letter q d)
      → IsHigh (before ++ times_divisor_heights s numerator letter' q d')
  quotient_high numerator letter q d letter' d' before el ed high =
      high_right before (times_divisor_heights s numerator letter' q d') (subst IsHigh (ap₂ (λ l z. times_divisor_heights s numerator l q z) el ed) high)

module _ {V : Type 0} (s : Scalars V) (laws : ScalarLaws s) where
  -- 1728 I^3
  pub quartic_numerator : (i : V) → formula_value s (i ∷ []) QUARTIC_NUMERATOR ≡ times_number s 1728 (cube s i)
  unfolding formula_value
  quartic_numerator i = by_ring laws.ring (i ∷ s.rational (rational (pos 1728) 1) ∷ []) (search reify depth 40 fits 20000) tt

  -- 6912 c2^3
  pub triple_numerator : (c : V) → formula_value s (c ∷ []) TRIPLE_NUMERATOR ≡ times_number s 6912 (cube s c)
  unfolding formula_value
  triple_numerator c = by_ring laws.ring (c ∷ s.rational (rational (pos 6912) 1) ∷ []) (search reify depth 40 fits 20000) tt
