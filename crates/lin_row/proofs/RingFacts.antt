-- Zero and negatives in a product.
use Rattle.std.proofs.Common.{◌≡◌, ℕ, Bool, true, false, eqb, ap, sym, ◌∙◌, refl, eqb-true, eq-eqb}
use Rattle.ring_theory.specs.Ring.{RingOps, IsCommRing}
use Rattle.ring_theory.proofs.RingSolver

-- a test of equality does not depend on the order of the numbers
pub eqb_swap : (i j : ℕ) → eqb i j ≡ eqb j i
eqb_swap i j = step (eqb i j) (eqb j i) refl refl
  where
    step : (a b : Bool) → eqb i j ≡ a → eqb j i ≡ b → eqb i j ≡ eqb j i
    step true b p q = p ∙ sym (eq-eqb j i (sym (eqb-true i j p)))
    step false true p q = absurd (let e : true ≡ false = sym (eq-eqb i j (sym (eqb-true j i q))) ∙ p in cc e)
    step false false p q = p ∙ sym q

module _ {V : Type 0} (r : RingOps V) (c : IsCommRing r) where
  open r use {add, mul, neg}

  pub mul_zero : (a : V) → mul a r.zero ≡ r.zero
  mul_zero a = c.mul_comm a r.zero ∙ RingSolver.zero_mul r c a

  pub mul_neg : (a b : V) → mul a (neg b) ≡ neg (mul a b)
  mul_neg a b = c.mul_comm a (neg b) ∙ RingSolver.neg_mul r c b a ∙ ap neg (c.mul_comm b a)
