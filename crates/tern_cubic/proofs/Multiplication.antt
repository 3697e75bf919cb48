-- Whole multiples in a field that contains the rational numbers.
use Rattle.std.proofs.Common.{◌≡◌, ◌≢◌, ℕ, ◌<◌, pos, sym, ap, ◌∙◌, arith}
use Rattle.std.proofs.lemmas.Int.{ints}
use Rattle.ring_theory.specs.Rational.{rational, rational_mul}
use Rattle.ring_theory.specs.Scalars.{Scalars, ScalarLaws}
use Rattle.ring_theory.proofs.RationalLaws.{unique, rational_is, mul_is}
use Rattle.ring_theory.proofs.RingSolver.{zero_mul, one_mul}

inverse_of_whole : (k : ℕ) → 0 < k → rational_mul (rational (pos k) 1) (rational (pos 1) k) ≡ rational (pos 1) 1
inverse_of_whole k h = unique (mul_is (rational_is (pos k) 1 (omega arith)) (rational_is (pos 1) k h)) (rational_is (pos 1) 1 (omega arith)) (omega (arith, ints))

module _ {V : Type 0} (s : Scalars V) (laws : ScalarLaws s) (k : ℕ) (positive : 0 < k) where
  abbrev whole : V
  whole = s.rational (rational (pos k) 1)

  abbrev part : V
  part = s.rational (rational (pos 1) k)

  parts_make_one : s.ops.mul part whole ≡ s.ops.one
  parts_make_one = laws.ring.mul_comm part whole ∙ sym (laws.embeds.mul _ _) ∙ ap s.rational (inverse_of_whole k positive) ∙ laws.embeds.one

  -- k times a number that is not 0
  pub multiple_nonzero : (x : V) → x ≢ s.ops.zero → s.ops.mul whole x ≢ s.ops.zero
  multiple_nonzero x other e =
      other (sym (one_mul s.ops laws.ring x) ∙ ap (λ z. s.ops.mul z x) (sym parts_make_one) ∙ laws.ring.mul_assoc part whole x ∙ ap (s.ops.mul part) e
      ∙ laws.ring.mul_comm part s.ops.zero ∙ zero_mul s.ops laws.ring part)
