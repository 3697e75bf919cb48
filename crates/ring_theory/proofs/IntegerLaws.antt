-- The integers are a commutative ring.
use Rattle.std.proofs.Common.{◌≡◌, ℤ, pos, ◌+ℤ◌, ◌*ℤ◌, neg_ℤ, sym, ◌∙◌, ap, ap₂}
use Rattle.std.proofs.Math.IntN.{suc_ℤ-+ℤ, pred_ℤ-+ℤ, suc_ℤ-*ℤ, pred_ℤ-*ℤ, +ℤ_idl, +ℤ_idr, +ℤ_assoc, +ℤ_comm, +ℤ_invr, zero-*ℤ, *ℤ_comm}
use Rattle.ring_theory.specs.Ring.{IsCommRing}
use Rattle.ring_theory.specs.Integers.{int_ops}
use Rattle.ring_theory.proofs.RingSolver.{by_steps}

*ℤ-one : (a : ℤ) → a *ℤ pos 1 ≡ a
*ℤ-one a = *ℤ_comm a (pos 1) ∙ suc_ℤ-*ℤ (pos 0) a ∙ ap (λ x. x +ℤ a) (zero-*ℤ a) ∙ +ℤ_idl a

add_swap : (a b c d : ℤ) → (a +ℤ b) +ℤ (c +ℤ d) ≡ (a +ℤ c) +ℤ (b +ℤ d)
add_swap a b c d = +ℤ_assoc a b (c +ℤ d) ∙ ap (λ x. a +ℤ x) (sym (+ℤ_assoc b c d) ∙ ap (λ x. x +ℤ d) (+ℤ_comm b c) ∙ +ℤ_assoc c b d) ∙ sym (+ℤ_assoc a c (b +ℤ d))

*ℤ-distrib : (a b c : ℤ) → (a +ℤ b) *ℤ c ≡ a *ℤ c +ℤ b *ℤ c
*ℤ-distrib a b c =
    by_steps (λ a. (a +ℤ b) *ℤ c ≡ a *ℤ c +ℤ b *ℤ c)
    (ap (λ x. x *ℤ c) (+ℤ_idl b) ∙ sym (+ℤ_idl (b *ℤ c)) ∙ ap (λ x. x +ℤ b *ℤ c) (sym (zero-*ℤ c)))
    (λ a ih. ap (λ x. x *ℤ c) (suc_ℤ-+ℤ a b) ∙ suc_ℤ-*ℤ (a +ℤ b) c ∙ ap (λ x. x +ℤ c) ih ∙ shift (a *ℤ c) (b *ℤ c) c ∙ ap (λ x. x +ℤ b *ℤ c) (sym (suc_ℤ-*ℤ a c)))
    (λ a ih. ap (λ x. x *ℤ c) (pred_ℤ-+ℤ a b) ∙ pred_ℤ-*ℤ (a +ℤ b) c ∙ ap (λ x. x +ℤ neg_ℤ c) ih ∙ shift (a *ℤ c) (b *ℤ c) (neg_ℤ c) ∙ ap (λ x. x +ℤ b *ℤ c) (sym (pred_ℤ-*ℤ a c)))
    a
  where
    shift : (x y z : ℤ) → x +ℤ y +ℤ z ≡ x +ℤ z +ℤ y
    shift x y z = +ℤ_assoc x y z ∙ ap (λ w. x +ℤ w) (+ℤ_comm y z) ∙ sym (+ℤ_assoc x z y)

neg_ℤ-*ℤ : (b c : ℤ) → neg_ℤ b *ℤ c ≡ neg_ℤ (b *ℤ c)
neg_ℤ-*ℤ b c =
    sym (+ℤ_idr _) ∙ ap (λ x. neg_ℤ b *ℤ c +ℤ x) (sym (+ℤ_invr (b *ℤ c))) ∙ sym (+ℤ_assoc (neg_ℤ b *ℤ c) (b *ℤ c) (neg_ℤ (b *ℤ c)))
    ∙ ap (λ x. x +ℤ neg_ℤ (b *ℤ c)) (sym (*ℤ-distrib (neg_ℤ b) b c) ∙ ap (λ x. x *ℤ c) (+ℤ_comm (neg_ℤ b) b ∙ +ℤ_invr b) ∙ zero-*ℤ c) ∙ +ℤ_idl _

*ℤ_assoc : (a b c : ℤ) → (a *ℤ b) *ℤ c ≡ a *ℤ (b *ℤ c)
*ℤ_assoc a b c =
    by_steps (λ a. (a *ℤ b) *ℤ c ≡ a *ℤ (b *ℤ c))
    (ap (λ x. x *ℤ c) (zero-*ℤ b) ∙ zero-*ℤ c ∙ sym (zero-*ℤ (b *ℤ c)))
    (λ a ih. ap (λ x. x *ℤ c) (suc_ℤ-*ℤ a b) ∙ *ℤ-distrib (a *ℤ b) b c ∙ ap (λ x. x +ℤ b *ℤ c) ih ∙ sym (suc_ℤ-*ℤ a (b *ℤ c)))
    (λ a ih. ap (λ x. x *ℤ c) (pred_ℤ-*ℤ a b) ∙ *ℤ-distrib (a *ℤ b) (neg_ℤ b) c ∙ ap₂ ◌+ℤ◌ ih (neg_ℤ-*ℤ b c) ∙ sym (pred_ℤ-*ℤ a (b *ℤ c)))
    a

pub int_laws : IsCommRing int_ops
int_laws = record {
  add_assoc = +ℤ_assoc;
  add_comm = +ℤ_comm;
  add_zero = +ℤ_idr;
  add_neg = +ℤ_invr;
  mul_assoc = *ℤ_assoc;
  mul_comm = *ℤ_comm;
  mul_one = *ℤ-one;
  distrib = *ℤ-distrib;
}
