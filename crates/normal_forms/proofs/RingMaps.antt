-- I, J and the discriminants of rational coefficients, in any ring that contains the rational numbers.
use Rattle.std.proofs.Common.{◌≡◌, ◌≢◌, ℕ, zero, suc, pos, List, [], ◌∷◌, map, get_or, refl, sym, ap, ◌∙◌}
use Rattle.ring_theory.specs.Height.{rational_scalars}
use Rattle.ring_theory.specs.Rational.{Rational, rational, rational_add, rational_mul, rational_neg, rational_inv}
use Rattle.ring_theory.specs.Scalars.{Scalars, ScalarLaws}
use Rattle.ring_theory.proofs.RationalLaws.{rational_laws, rational_inverts}
use Rattle.ring_theory.proofs.RingReify.{by_ring, reify}
use Rattle.ring_formula.specs.Formulas.{formula_value}
use Rattle.normal_forms.specs.declared.invariant.TheConstants.{QUARTIC_NUMERATOR, TRIPLE_NUMERATOR}
use Rattle.normal_forms.specs.Units.{times_number, cube, at, quartic_i, quartic_discriminant, triple_discriminant}
use Rattle.normal_forms.proofs.Invariants.{rational-zero, opposite}

module _ {V : Type 0} (s : Scalars V) (laws : ScalarLaws s) where
  f_neg : (x : Rational) → s.rational (rational_neg x) ≡ s.ops.neg (s.rational x)
  f_neg x = opposite s laws x (rational_neg x) (rational_laws.add_neg x)

  f_add : (x y : Rational) → s.rational (rational_add x y) ≡ s.ops.add (s.rational x) (s.rational y)
  f_add x y = laws.embeds.add x y

  f_mul : (x y : Rational) → s.rational (rational_mul x y) ≡ s.ops.mul (s.rational x) (s.rational y)
  f_mul x y = laws.embeds.mul x y

  f_one : s.rational (rational (pos 1) 1) ≡ s.ops.one
  f_one = laws.embeds.one

  f_at : (qs : List Rational) (i : ℕ) → s.rational (get_or qs i (rational (pos 0) 1)) ≡ get_or (map s.rational qs) i s.ops.zero
  f_at [] i = rational-zero s laws
  f_at (q ∷ qs) zero = refl
  f_at (q ∷ qs) (suc i) = f_at qs i

  pub i_of_map : (qs : List Rational) → s.rational (quartic_i rational_scalars qs) ≡ quartic_i s (map s.rational qs)
  i_of_map qs = simp (f_add, f_mul, f_neg, f_one, f_at)

  pub discriminant_of_map : (qs : List Rational) → s.rational (quartic_discriminant rational_scalars qs) ≡ quartic_discriminant s (map s.rational qs)
  discriminant_of_map qs = simp (f_add, f_mul, f_neg, f_one, f_at)

  pub triple_of_map : (cs : List Rational) → s.rational (triple_discriminant rational_scalars cs) ≡ triple_discriminant s (map s.rational cs)
  triple_of_map cs = simp (f_add, f_mul, f_neg, f_one, f_at)

  pub numerator_of_map : (n : ℕ) (x : Rational) → s.rational (times_number rational_scalars n (cube rational_scalars x)) ≡ times_number s n (cube s (s.rational x))
  numerator_of_map n x = simp (f_mul, f_one)

  pub at_of_map : (qs : List Rational) (i : ℕ) → s.rational (at rational_scalars qs i) ≡ at s (map s.rational qs) i
  at_of_map qs i = f_at qs i

  -- j d is the numerator, over the ring
  pub quotient_of_map : (j d top : Rational) → rational_mul j d ≡ top → s.ops.mul (s.rational j) (s.rational d) ≡ s.rational top
  quotient_of_map j d top e = sym (f_mul j d) ∙ ap s.rational e

-- the numerator over d, times d
pub times_divisor : (top d : Rational) → d ≢ rational (pos 0) 1 → rational_mul (rational_mul top (rational_inv d)) d ≡ top
times_divisor top d h =
    rational_laws.mul_assoc top (rational_inv d) d ∙ ap (rational_mul top) (rational_laws.mul_comm (rational_inv d) d ∙ rational_inverts.mul_inverse d h) ∙ rational_laws.mul_one top

pub quartic_numerator : (i : Rational) → formula_value rational_scalars (i ∷ []) QUARTIC_NUMERATOR ≡ times_number rational_scalars 1728 (cube rational_scalars i)
unfolding formula_value
quartic_numerator i = by_ring rational_laws (i ∷ rational (pos 1728) 1 ∷ []) (search reify depth 30) tt

pub triple_numerator : (c : Rational) → formula_value rational_scalars (c ∷ []) TRIPLE_NUMERATOR ≡ times_number rational_scalars 6912 (cube rational_scalars c)
unfolding formula_value
triple_numerator c = by_ring rational_laws (c ∷ rational (pos 6912) 1 ∷ []) (search reify depth 30) tt
