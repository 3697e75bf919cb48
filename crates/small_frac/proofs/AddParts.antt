-- The numbers that `add` computes, as the code has them, are those of `AddFits`.
use Rattle.std.proofs.Common.{◌≡◌, ◌<◌, ◌^◌, ◌/◌, ℕ, ℤ, pos, ◌+ℤ◌, ◌*ℤ◌, unsigned_abs, to_z, of_z, sym, ◌∙◌, ap, ap₂, subst, arith, div-le_self}
use Rattle.std.proofs.lemmas.Int.{to_z_pos}
use mir.Syntax.{w128}
use Rattle.ring_law.specs.declared.fraction.Frac.{Frac}
use Rattle.ring_law.specs.Fraction.{IsFrac, den_gcd, add_left, add_right, add_den}
use Rattle.ring_theory.specs.Gcd.{gcd}
use Rattle.ring_theory.proofs.GcdLaws.{gcd_pos}
use Rattle.ring_law.proofs.FractionLaws.{den_nonzero, pos_den}
use Rattle.small_frac.proofs.Parts.{kept}

module _ (a b : Frac) (va : IsFrac a) (vb : IsFrac b) (p q g : ℕ) (ep : p ≡ unsigned_abs (to_z w128 (of_z w128 a.den))) (eq : q ≡ unsigned_abs (to_z w128 (of_z w128 b.den))) (eg : g ≡ gcd p q) where
  p_is : p ≡ unsigned_abs a.den
  p_is = ep ∙ ap unsigned_abs (kept a.den va.den_fits)

  q_is : q ≡ unsigned_abs b.den
  q_is = eq ∙ ap unsigned_abs (kept b.den vb.den_fits)

  g_is : g ≡ den_gcd a b
  g_is = eg ∙ ap₂ gcd p_is q_is

  pub g_pos : 0 < g
  g_pos = subst (λ x. 0 < x) (sym g_is) (gcd_pos (unsigned_abs a.den) (unsigned_abs b.den) (den_nonzero b vb))

  scale_a_is : to_z w128 (q / g) ≡ pos (unsigned_abs b.den / den_gcd a b)
  scale_a_is = to_z_pos w128 (q / g) (omega (arith, div-le_self q g, q_is, vb.den_fits)) ∙ ap₂ (λ x y. pos (x / y)) q_is g_is

  scale_b_is : to_z w128 (p / g) ≡ pos (unsigned_abs a.den / den_gcd a b)
  scale_b_is = to_z_pos w128 (p / g) (omega (arith, div-le_self p g, p_is, va.den_fits)) ∙ ap₂ (λ x y. pos (x / y)) p_is g_is

  pub left_is : to_z w128 (of_z w128 a.num) *ℤ to_z w128 (q / g) ≡ add_left a b
  left_is = ap₂ ◌*ℤ◌ (kept a.num va.num_fits) scale_a_is

  pub right_is : to_z w128 (of_z w128 b.num) *ℤ to_z w128 (p / g) ≡ add_right a b
  right_is = ap₂ ◌*ℤ◌ (kept b.num vb.num_fits) scale_b_is

  pub den_is : to_z w128 (p / g) *ℤ to_z w128 (of_z w128 b.den) ≡ pos (add_den a b)
  den_is = ap₂ ◌*ℤ◌ scale_b_is (kept b.den vb.den_fits ∙ pos_den b.den vb.den_pos)

  pub sum_is : (left right : ℤ) → unsigned_abs (add_left a b) < 2 ^ 127 → left ≡ add_left a b → unsigned_abs (add_right a b) < 2 ^ 127 → right ≡ add_right a b
      → to_z w128 (of_z w128 left) +ℤ to_z w128 (of_z w128 right) ≡ add_left a b +ℤ add_right a b
  sum_is left right f e f' e' = ap₂ ◌+ℤ◌ (ap (λ z. to_z w128 (of_z w128 z)) e ∙ kept (add_left a b) f) (ap (λ z. to_z w128 (of_z w128 z)) e' ∙ kept (add_right a b) f')
