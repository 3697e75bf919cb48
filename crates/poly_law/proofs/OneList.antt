-- Sorted terms without zeros: the same coefficients, the same list.
use Rattle.std.proofs.Common.{◌≡◌, ◌≢◌, [], ◌∷◌, Bool, true, false, cond, inl, inr, ap, ap₂, sym, ◌∙◌, refl}
use Rattle.ring_theory.specs.Ring.{RingOps, IsCommRing}
use Rattle.poly_law.specs.Exps.{Exps, IsExps, same}
use Rattle.poly_law.specs.Poly.{Terms, coefficient, Same}
use Rattle.poly_law.specs.Sorted.{IsStrictOrder, AllAfter, IsRising, HasNoZero}
use Rattle.poly_law.proofs.Sums
use Rattle.poly_law.proofs.ExpLaws

module _ {E V : Type 0} (x : Exps E) (l : IsExps x) (r : RingOps V) (c : IsCommRing r) (before : E → E → Bool) (o : IsStrictOrder before) where
  false_true : false ≡ true → ⊥
  false_true e = cc e

  apart : (a b : E) → before a b ≡ true → b ≡ a → ⊥
  apart a b h e = false_true (sym (o.irreflexive a) ∙ ap (before a) (sym e) ∙ h)

  coefficient-skip : (t : E × V) (f : Terms E V) (m : E) → (t.0 ≡ m → ⊥) → coefficient x r (t ∷ f) m ≡ coefficient x r f m
  coefficient-skip t f m ne = ap (λ b. r.add (cond b t.1 r.zero) (coefficient x r f m)) (ExpLaws.same-no x l t.0 m ne) ∙ Sums.zero_add r c (coefficient x r f m)

  coefficient-after : (e : E) (f : Terms E V) → AllAfter before e f → coefficient x r f e ≡ r.zero
  coefficient-after e [] a = refl
  coefficient-after e (t ∷ f) a = coefficient-skip t f e (apart e t.0 a.0) ∙ coefficient-after e f a.1

  coefficient-first : (t : E × V) (f : Terms E V) → AllAfter before t.0 f → coefficient x r (t ∷ f) t.0 ≡ t.1
  coefficient-first t f a = ap₂ (λ b z. r.add (cond b t.1 r.zero) z) (ExpLaws.same_refl x l t.0) (coefficient-after t.0 f a) ∙ c.add_zero t.1

  all_after : (d e : E) (f : Terms E V) → before d e ≡ true → AllAfter before e f → AllAfter before d f
  all_after d e [] h a = tt
  all_after d e (t ∷ f) h a = (o.transitive d e t.0 h a.0, all_after d e f h a.1)

  -- a term before all of g is no term of g
  no_term : (t : E × V) (f : Terms E V) (u : E × V) (g : Terms E V) → before t.0 u.0 ≡ true → AllAfter before t.0 f → AllAfter before u.0 g → t.1 ≢ r.zero → Same x r (t ∷ f) (u ∷ g) → ⊥
  no_term t f u g h a b ne e = ne (sym (coefficient-first t f a) ∙ e t.0 ∙ coefficient-after t.0 (u ∷ g) (h, all_after t.0 u.0 g h b))

  pub one_list : (f g : Terms E V) → IsRising before f → IsRising before g → HasNoZero r.zero f → HasNoZero r.zero g → Same x r f g → f ≡ g
  one_list [] [] rf rg nf ng e = refl
  one_list [] (u ∷ g) rf rg nf ng e = absurd (ng.0 (sym (coefficient-first u g rg.0) ∙ sym (e u.0)))
  one_list (t ∷ f) [] rf rg nf ng e = absurd (nf.0 (sym (coefficient-first t f rf.0) ∙ e t.0))
  one_list (t ∷ f) (u ∷ g) rf rg nf ng e = step (same x t.0 u.0) refl (one_list f g rf.1 rg.1 nf.1 ng.1)
    where
      differ : same x t.0 u.0 ≡ false → t.0 ≡ u.0 → ⊥
      differ h q = false_true (sym h ∙ ap (λ z. same x z u.0) q ∙ ExpLaws.same_refl x l u.0)

      step : (b : Bool) → same x t.0 u.0 ≡ b → (Same x r f g → f ≡ g) → (t ∷ f) ≡ (u ∷ g)
      step true h tail =
          let q : t.0 ≡ u.0 = ExpLaws.same-eq x l t.0 u.0 h in
          ap₂ (λ y z. y ∷ z)
          (λ i. (q i, (sym (coefficient-first t f rf.0) ∙ e t.0 ∙ ap (coefficient x r (u ∷ g)) q ∙ coefficient-first u g rg.0) i))
          (tail (rest q))
        where
          rest : t.0 ≡ u.0 → Same x r f g
          rest q m = cases (same x t.0 m) refl
            where
              cases : (b : Bool) → same x t.0 m ≡ b → coefficient x r f m ≡ coefficient x r g m
              cases true h =
                  let p : t.0 ≡ m = ExpLaws.same-eq x l t.0 m h in
                  ap (coefficient x r f) (sym p) ∙ coefficient-after t.0 f rf.0 ∙ sym (coefficient-after u.0 g rg.0) ∙ ap (coefficient x r g) (sym q ∙ p)
              cases false h =
                  let ne : t.0 ≡ m → ⊥ = λ p. false_true (sym h ∙ ap (λ z. same x z m) p ∙ ExpLaws.same_refl x l m) in
                  sym (coefficient-skip t f m ne) ∙ e m ∙ coefficient-skip u g m (λ p. ne (q ∙ p))
      step false h tail =
          elim (o.total t.0 u.0 (differ h)) [
            | inl b ↦ absurd (no_term t f u g b rf.0 rg.0 nf.0 e)
            | inr b ↦ absurd (no_term u g t f b rg.0 rf.0 ng.0 (λ m. sym (e m)))
          ]
