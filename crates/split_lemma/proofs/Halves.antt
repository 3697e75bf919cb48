-- Twice a number that is not zero, and products of numbers that are not zero.
use Rattle.std.proofs.Common.{◌≡◌, ◌≢◌, pos, refl, sym, ap, ◌∙◌}
use Rattle.ring_theory.specs.Gcd.{gcd}
use Rattle.ring_theory.specs.Rational.{rational, rational_mul, rational_ops}
use Rattle.ring_theory.specs.Scalars.{Scalars, ScalarLaws, HasInverses}
use Rattle.poly_law.proofs.Sums
use Rattle.jet_poly.specs.Jets.{whole}

half_of_two : rational_ops.mul (rational (pos 1) 2) (rational (pos 2) 1) ≡ rational (pos 1) 1
unfolding rational_mul rational gcd
half_of_two = refl

module _ {V : Type 0} (s : Scalars V) (laws : ScalarLaws s) where
  -- 2 v is zero only where v is
  pub zero_from_double : (v : V) → s.ops.mul (whole s 2) v ≡ s.ops.zero → v ≡ s.ops.zero
  zero_from_double v h =
      sym (laws.ring.mul_comm s.ops.one v ∙ laws.ring.mul_one v)
      ∙ ap (λ z. s.ops.mul z v) (sym (sym (laws.embeds.mul (rational (pos 1) 2) (rational (pos 2) 1)) ∙ ap s.rational half_of_two ∙ laws.embeds.one))
      ∙ laws.ring.mul_assoc (s.rational (rational (pos 1) 2)) (whole s 2) v
      ∙ ap (s.ops.mul (s.rational (rational (pos 1) 2))) h
      ∙ Sums.mul_zero s.ops laws.ring (s.rational (rational (pos 1) 2))

  -- x times the inverse of y is zero only where x is
  pub zero_from_quotient : HasInverses s → (x y : V) → y ≢ s.ops.zero → s.ops.mul x (s.inverse y) ≡ s.ops.zero → x ≡ s.ops.zero
  zero_from_quotient inverts x y h e =
      sym (laws.ring.mul_one x)
      ∙ ap (s.ops.mul x) (sym (laws.ring.mul_comm (s.inverse y) y ∙ inverts.mul_inverse y h))
      ∙ sym (laws.ring.mul_assoc x (s.inverse y) y)
      ∙ ap (λ z. s.ops.mul z y) e
      ∙ Sums.zero_mul s.ops laws.ring y

  -- - x is zero only where x is
  pub zero_from_negative : (x : V) → s.ops.neg x ≡ s.ops.zero → x ≡ s.ops.zero
  zero_from_negative x e = sym (laws.ring.add_zero x) ∙ ap (s.ops.add x) (sym e) ∙ laws.ring.add_neg x
