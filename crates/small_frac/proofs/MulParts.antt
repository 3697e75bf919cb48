-- The numbers that `mul` computes, as the code has them, are the parts of the product.
use Rattle.std.proofs.Common.{◌≡◌, ◌<◌, ◌^◌, ℕ, ℤ, pos, ◌*ℤ◌, unsigned_abs, to_z, of_z, ◌∙◌, ap, ap₂, arith}
use mir.Syntax.{w128}
use Rattle.ring_law.specs.declared.fraction.Frac.{Frac}
use Rattle.ring_law.specs.Fraction.{IsFrac, mul_num, mul_den}
use Rattle.ring_theory.specs.Gcd.{gcd}
use Rattle.ring_theory.specs.Integers.{int_quotient}
use Rattle.ring_law.proofs.FractionLaws.{pos_den, abs-quotient_le}
use Rattle.small_frac.proofs.Parts.{kept}

-- the factor that a numerator and a denominator have in common
factor_is : (n d : ℤ) (g : ℕ) → unsigned_abs n < 2 ^ 127 → unsigned_abs d < 2 ^ 127 → g ≡ gcd (unsigned_abs (to_z w128 (of_z w128 n))) (unsigned_abs (to_z w128 (of_z w128 d)))
    → g ≡ gcd (unsigned_abs n) (unsigned_abs d)
factor_is n d g hn hd e = e ∙ ap₂ (λ x y. gcd (unsigned_abs x) (unsigned_abs y)) (kept n hn) (kept d hd)

-- a part divided by a factor
quotient_is : (z q : ℤ) (g f : ℕ) → unsigned_abs z < 2 ^ 127 → g ≡ f → q ≡ int_quotient (to_z w128 (of_z w128 z)) g → to_z w128 (of_z w128 q) ≡ int_quotient z f
quotient_is z q g f h eg e =
    let same : q ≡ int_quotient z f = e ∙ ap₂ int_quotient (kept z h) eg in
    ap (λ x. to_z w128 (of_z w128 x)) same ∙ kept (int_quotient z f) (omega (arith, abs-quotient_le z f))

module _ (a b : Frac) (va : IsFrac a) (vb : IsFrac b) (g h : ℕ)
    (eg : g ≡ gcd (unsigned_abs (to_z w128 (of_z w128 a.num))) (unsigned_abs (to_z w128 (of_z w128 b.den))))
    (eh : h ≡ gcd (unsigned_abs (to_z w128 (of_z w128 b.num))) (unsigned_abs (to_z w128 (of_z w128 a.den)))) where
  g_is : g ≡ gcd (unsigned_abs a.num) (unsigned_abs b.den)
  g_is = factor_is a.num b.den g va.num_fits vb.den_fits eg

  h_is : h ≡ gcd (unsigned_abs b.num) (unsigned_abs a.den)
  h_is = factor_is b.num a.den h vb.num_fits va.den_fits eh

  pub num_is : (p q : ℤ) → p ≡ int_quotient (to_z w128 (of_z w128 a.num)) g → q ≡ int_quotient (to_z w128 (of_z w128 b.num)) h
      → to_z w128 (of_z w128 p) *ℤ to_z w128 (of_z w128 q) ≡ mul_num a b
  num_is p q ep eq = ap₂ ◌*ℤ◌ (quotient_is a.num p g _ va.num_fits g_is ep) (quotient_is b.num q h _ vb.num_fits h_is eq)

  pub den_is : (p q : ℤ) → p ≡ int_quotient (to_z w128 (of_z w128 a.den)) h → q ≡ int_quotient (to_z w128 (of_z w128 b.den)) g
      → to_z w128 (of_z w128 p) *ℤ to_z w128 (of_z w128 q) ≡ pos (mul_den a b)
  den_is p q ep eq =
      ap₂ ◌*ℤ◌
      (quotient_is a.den p h _ va.den_fits h_is ep ∙ ap (λ z. int_quotient z (gcd (unsigned_abs b.num) (unsigned_abs a.den))) (pos_den a.den va.den_pos))
      (quotient_is b.den q g _ vb.den_fits g_is eq ∙ ap (λ z. int_quotient z (gcd (unsigned_abs a.num) (unsigned_abs b.den))) (pos_den b.den vb.den_pos))
