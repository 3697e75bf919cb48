-- The cases of the pair rule.
use Rattle.std.proofs.Common.{◌≡◌, ◌≢◌, Bool, true, false, inr, List, pos, refl, sym, subst, ◌∙◌}
use Rattle.std.specs.Bool.{if◌then◌else◌}
use Rattle.ring_theory.specs.Rational.{Rational, rational_ops}
use Rattle.ring_theory.specs.Height.{rational_scalars, is_zero_rational}
use Rattle.ring_theory.proofs.RationalLaws.{zero_test}
use Rattle.ring_law.specs.Fraction.{IsFrac, frac_value}
use Rattle.ring_law.specs.declared.fraction.Frac.{Frac}
use Rattle.ring_law.proofs.FractionLaws.{zero_value}
use Rattle.ext_theory.specs.Extension.{Quadratic, quadratic_at}
use Rattle.ext_algebra.specs.declared.algebra.Algebra.TheVariants as algebras
use Rattle.small_frac.specs.Roots.{quadratic_of, AreRoots, IsRootPair, QuadraticIsHigh}
use Rattle.move_law.specs.Moves.{over}
use Rattle.move_law.specs.Binary.{Question, nothing, quadratic_roots, none, both, IsAnswered, monic_quadratic}
use Rattle.bin_forms.specs.declared.pair.Pair.TheVariants as pairs
use Rattle.bin_forms.specs.Pairs.{IsPair, IsPairHigh, coefficient}

module _ (q : List Rational) where
  abbrev first : Rational
  first = coefficient q 0

  abbrev modulus : Quadratic Rational
  modulus = monic_quadratic 2 (coefficient q 0) (coefficient q 1) (coefficient q 2)

  asked : Bool → Question
  asked t = if t then nothing else quadratic_roots modulus

  pub corner_answer : (q0 : Frac) → frac_value q0 ≡ first → IsFrac q0 → q0.num ≡ pos 0 → IsPair q pairs.Corner
  unfolding asked
  corner_answer q0 e valid zero =
      let none_there = sym e ∙ zero_value q0 valid zero in
      record {
        kind = none_there;
        answered = subst (λ t. IsAnswered (asked t) none) (sym ((zero_test first).1 none_there)) tt;
      }

  not_zero : first ≢ rational_ops.zero → false ≡ is_zero_rational first
  not_zero h = step (is_zero_rational first) refl
    where
      step : (t : Bool) → is_zero_rational first ≡ t → false ≡ is_zero_rational first
      step true e = absurd (h ((zero_test first).0 e))
      step false e = sym e

  module _ (m1 m0 : Frac) (some : first ≢ rational_ops.zero) (m1_is : frac_value m1 ≡ over rational_scalars (coefficient q 1) first) (m0_is : frac_value m0 ≡ over rational_scalars (coefficient q 2) first) where
    modulus_is : quadratic_of m1 m0 ≡ modulus
    modulus_is = λ i. record { c0 = m0_is i; c1 = m1_is i }

    pub roots_answer : (low high : Frac) → IsRootPair m1 m0 low high → IsPair q (pairs.Roots low high)
    unfolding asked
    roots_answer low high h = record {
      kind = (some, h.low_valid, h.high_valid);
      answered = subst (λ t. IsAnswered (asked t) (both (frac_value low) (frac_value high))) (not_zero some) (subst (λ m. AreRoots m (frac_value low) (frac_value high)) modulus_is h.roots);
    }

    pub over_answer : IsFrac m1 → IsFrac m0 → ((x : Rational) → quadratic_at rational_ops (quadratic_of m1 m0) x ≢ rational_ops.zero) → IsPair q (pairs.Over (algebras.Quadratic m1 m0))
    unfolding asked
    over_answer valid1 valid0 h = record {
      kind = (some, (valid1, valid0, modulus_is));
      answered = subst (λ t. IsAnswered (asked t) none) (not_zero some) (subst (λ m. (x : Rational) → quadratic_at rational_ops m x ≢ rational_ops.zero) modulus_is h);
    }

    pub roots_high : QuadraticIsHigh (quadratic_of m1 m0) → IsPairHigh q
    roots_high h = inr (inr (subst QuadraticIsHigh modulus_is h))
