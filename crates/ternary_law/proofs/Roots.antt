-- The pair rule has one case for each quadratic form: the order of rational numbers is antisymmetric, so the roots in their order are unique.
use Rattle.std.proofs.Common.{◌≡◌, zero, suc, ◌⊎◌, inl, inr, ℤ, pos, negsuc, neg_ℤ, unsigned_abs, ◌≤ℤ◌, List, [], ◌∷◌, refl, sym, ◌∙◌, ap, subst, arith}
use Rattle.ring_theory.specs.Ring.{RingOps, IsCommRing}
use Rattle.ring_theory.specs.Gcd.{gcd}
use Rattle.ring_theory.specs.Rational.{Rational, rational_add, rational_neg, rational_ops}
use Rattle.ring_theory.proofs.RationalLaws.{rational_laws, zero_test, lowest_num, coprime, den_pos}
use Rattle.ring_theory.proofs.RingReify.{by_ring, reify}
use Rattle.ext_theory.specs.Extension.{Quadratic}
use Rattle.ext_theory.specs.Roots.{IsAtMost}
use Rattle.small_frac.specs.Roots.{AreRoots}
use Rattle.ternary_law.specs.Pairs.{Pair, corner, roots, over_root, IsPair, monic}

abs_neg : (n : ℤ) → unsigned_abs (neg_ℤ n) ≡ unsigned_abs n
abs_neg (pos zero) = refl
abs_neg (pos (suc k)) = refl
abs_neg (negsuc k) = refl

pub neg_num : (x : Rational) → (rational_neg x).num ≡ neg_ℤ x.num
unfolding rational_neg
neg_num x = lowest_num (neg_ℤ x.num) x.den (den_pos x) (ap (λ k. gcd k x.den) (abs_neg x.num) ∙ coprime x)

both_signs : (n : ℤ) → pos 0 ≤ℤ n → pos 0 ≤ℤ neg_ℤ n → n ≡ pos 0
both_signs (pos zero) h k = refl
both_signs (pos (suc m)) h k = absurd (omega arith)
both_signs (negsuc m) h k = absurd (omega arith)

opposite : {V : Type 0} (r : RingOps V) (laws : IsCommRing r) (p q : V) → r.add p (r.neg q) ≡ r.neg (r.add q (r.neg p))
opposite r laws p q = by_ring laws (p ∷ q ∷ []) (search reify depth 20) tt

pub restored : {V : Type 0} (r : RingOps V) (laws : IsCommRing r) (p q : V) → r.add (r.add q (r.neg p)) p ≡ q
restored r laws p q = by_ring laws (p ∷ q ∷ []) (search reify depth 20) tt

none_added : {V : Type 0} (r : RingOps V) (laws : IsCommRing r) (p : V) → r.add r.zero p ≡ p
none_added r laws p = by_ring laws (p ∷ []) (search reify depth 20) tt

zero_by_num : (x : Rational) → x.num ≡ pos 0 → x ≡ rational_ops.zero
zero_by_num x e = (zero_test x).0 (rw e refl)

pub at_most_antisym : (p q : Rational) → IsAtMost p q → IsAtMost q p → p ≡ q
at_most_antisym p q h k =
    let x = rational_add q (rational_neg p) in
    let k' : pos 0 ≤ℤ neg_ℤ x.num = subst (λ n. pos 0 ≤ℤ n) (ap (λ y. y.num) (opposite rational_ops rational_laws p q) ∙ neg_num x) k in
    sym (sym (restored rational_ops rational_laws p q) ∙ ap (λ y. rational_add y p) (zero_by_num x (both_signs x.num h k')) ∙ none_added rational_ops rational_laws p)

-- the two rational roots in their order
pub roots_unique : (m : Quadratic Rational) (l h k j : Rational) → AreRoots m l h → AreRoots m k j → (l ≡ k) × (h ≡ j)
roots_unique m l h k j a b = go (a.only k b.low_root) (a.only j b.high_root) (b.only l a.low_root) (b.only h a.high_root)
  where
    go : (k ≡ l) ⊎ (k ≡ h) → (j ≡ l) ⊎ (j ≡ h) → (l ≡ k) ⊎ (l ≡ j) → (h ≡ k) ⊎ (h ≡ j) → (l ≡ k) × (h ≡ j)
    go (inl p) (inr s) c d = (sym p, sym s)
    go (inl p) (inl s) c (inl d) = (sym p, d ∙ p ∙ sym s)
    go (inl p) (inl s) c (inr d) = (sym p, d)
    go (inr p) (inr s) (inl c) d = (c, sym s)
    go (inr p) (inr s) (inr c) d = (c ∙ s ∙ sym p, sym s)
    go (inr p) (inl s) c d =
        let e : l ≡ h = at_most_antisym l h a.ordered (subst (λ x. IsAtMost x l) p (subst (λ x. IsAtMost k x) s b.ordered)) in
        (e ∙ sym p, sym e ∙ sym s)

-- the case of the pair rule
pub pair_unique : (c : List Rational) (p s : Pair) → IsPair c p → IsPair c s → p ≡ s
pair_unique c corner corner h k = refl
pair_unique c corner (roots low high) h k = absurd (k.0 h.0)
pair_unique c corner over_root h k = absurd (k.0 h.0)
pair_unique c (roots low high) corner h k = absurd (h.0 k.0)
pair_unique c (roots low high) (roots low' high') h k =
    let both : (low ≡ low') × (high ≡ high') = roots_unique (monic c) low high low' high' h.1 k.1 in λ i. roots (both.0 i) (both.1 i)
pair_unique c (roots low high) over_root h k = absurd (k.1 low h.1.low_root)
pair_unique c over_root corner h k = absurd (h.0 k.0)
pair_unique c over_root (roots low high) h k = absurd (h.1 low k.1.low_root)
pair_unique c over_root over_root h k = refl
