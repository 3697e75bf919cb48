-- Products and inverses in each algebra, as those of the ring or field that it is.
use Rattle.std.proofs.Common.{◌≡◌, ◌≤◌, ◌^◌, Result, Ok, Err, IfOk, Option, Some, None, refl, sym, subst}
use Rattle.std.specs.Prelude.{IfSome}
use Rattle.ring_theory.specs.Height.{product_height}
use Rattle.ring_theory.specs.Rational.{Rational, rational_mul, rational_ops}
use Rattle.ring_law.specs.Fraction.{IsFrac, frac_value}
use Rattle.ring_law.specs.declared.fraction.Frac.{Frac}
use Rattle.ring_law.specs.declared.fraction.Range.{Range}
use Rattle.ext_algebra.specs.declared.algebra.Algebra.{Algebra}
use Rattle.ext_algebra.specs.declared.algebra.Algebra.TheVariants as algebra
use Rattle.ext_algebra.specs.declared.algebra.Ext.{Ext}
use Rattle.ext_algebra.specs.Algebra.{scalars, value_in, IsElement}
use Rattle.ext_algebra.specs.ExtRing.{IsExt}
use Rattle.ext_algebra.specs.Tower.{AreFracs}

-- a valid element of degree 2, 3 or 6, as one of the ring of that degree
abbrev IsOver : Algebra → Ext Frac → Type 0
IsOver algebra.Rational x = Unit {0}
IsOver (algebra.Quadratic m1 m0) x = IsExt IsFrac frac_value rational_ops.zero 2 x
IsOver (algebra.Cubic m2 m1 m0) x = IsExt IsFrac frac_value rational_ops.zero 3 x
IsOver (algebra.Tower m2 m1 m0 d) x = AreFracs x

to_ring : (a : Algebra) (x : Ext Frac) → IsElement a x → IsOver a x
to_ring algebra.Rational x h = tt
to_ring (algebra.Quadratic m1 m0) x h = record {
  c0 = h.c0;
  c1 = h.c1;
  c2 = h.c2;
  pair = λ _. h.past.0;
  no_s = record { c3 = h.c3; c4 = h.c4; c5 = h.c5; c3_zero = h.past.1; c4_zero = h.past.2; c5_zero = h.past.3 };
}
to_ring (algebra.Cubic m2 m1 m0) x h = record {
  c0 = h.c0;
  c1 = h.c1;
  c2 = h.c2;
  pair = λ e. cc;
  no_s = record { c3 = h.c3; c4 = h.c4; c5 = h.c5; c3_zero = h.past.0; c4_zero = h.past.1; c5_zero = h.past.2 };
}
to_ring (algebra.Tower m2 m1 m0 d) x h = record { c0 = h.c0; c1 = h.c1; c2 = h.c2; c3 = h.c3; c4 = h.c4; c5 = h.c5 }

from_pair : (m1 m0 : Frac) (x : Ext Frac) → IsExt IsFrac frac_value rational_ops.zero 2 x → IsElement (algebra.Quadratic m1 m0) x
from_pair m1 m0 x h = record {
  c0 = h.c0;
  c1 = h.c1;
  c2 = h.c2;
  c3 = h.no_s.c3;
  c4 = h.no_s.c4;
  c5 = h.no_s.c5;
  past = (h.pair refl, h.no_s.c3_zero, h.no_s.c4_zero, h.no_s.c5_zero);
}

from_triple : (m2 m1 m0 : Frac) (x : Ext Frac) → IsExt IsFrac frac_value rational_ops.zero 3 x → IsElement (algebra.Cubic m2 m1 m0) x
from_triple m2 m1 m0 x h = record {
  c0 = h.c0;
  c1 = h.c1;
  c2 = h.c2;
  c3 = h.no_s.c3;
  c4 = h.no_s.c4;
  c5 = h.no_s.c5;
  past = (h.no_s.c3_zero, h.no_s.c4_zero, h.no_s.c5_zero);
}

from_six : (m2 m1 m0 d : Frac) (x : Ext Frac) → AreFracs x → IsElement (algebra.Tower m2 m1 m0 d) x
from_six m2 m1 m0 d x h = record { c0 = h.c0; c1 = h.c1; c2 = h.c2; c3 = h.c3; c4 = h.c4; c5 = h.c5; past = tt }

-- what an answer holds, by what another property of elements gives
if_ok : (P Q : Ext Frac → Type 0) (r : Result (Ext Frac) Range) → ((x : Ext Frac) → P x → Q x) → IfOk r P → IfOk r Q
if_ok P Q (Ok x) f h = f x h
if_ok P Q (Err e) f h = tt

if_some : (P Q : Ext Frac → Type 0) (r : Result (Option (Ext Frac)) Range) → ((x : Ext Frac) → P x → Q x) → IfOk r (λ o. IfSome o P) → IfOk r (λ o. IfSome o Q)
if_some P Q (Ok (Some x)) f h = f x h
if_some P Q (Ok None) f h = tt
if_some P Q (Err e) f h = tt

-- an algebra that is known to be of one kind
module _ (a : Algebra) where
  module _ (m1 m0 : Frac) (e : a ≡ algebra.Quadratic m1 m0) where
    pub pair_of_element : (x : Ext Frac) → IsElement a x → IsExt IsFrac frac_value rational_ops.zero 2 x
    pair_of_element x h = to_ring (algebra.Quadratic m1 m0) x (subst (λ b. IsElement b x) e h)

    element_of_pair : (x : Ext Frac) → IsExt IsFrac frac_value rational_ops.zero 2 x → IsElement a x
    element_of_pair x h = subst (λ b. IsElement b x) (sym e) (from_pair m1 m0 x h)

    pub pair_product : (r : Result (Ext Frac) Range) → IfOk r (IsExt IsFrac frac_value rational_ops.zero 2) → IfOk r (IsElement a)
    pair_product r h = if_ok _ _ r element_of_pair h

    pub pair_inverse : (r : Result (Option (Ext Frac)) Range) → IfOk r (λ o. IfSome o (IsExt IsFrac frac_value rational_ops.zero 2)) → IfOk r (λ o. IfSome o (IsElement a))
    pair_inverse r h = if_some _ _ r element_of_pair h

  module _ (m2 m1 m0 : Frac) (e : a ≡ algebra.Cubic m2 m1 m0) where
    pub triple_of_element : (x : Ext Frac) → IsElement a x → IsExt IsFrac frac_value rational_ops.zero 3 x
    triple_of_element x h = to_ring (algebra.Cubic m2 m1 m0) x (subst (λ b. IsElement b x) e h)

    element_of_triple : (x : Ext Frac) → IsExt IsFrac frac_value rational_ops.zero 3 x → IsElement a x
    element_of_triple x h = subst (λ b. IsElement b x) (sym e) (from_triple m2 m1 m0 x h)

    pub triple_product : (r : Result (Ext Frac) Range) → IfOk r (IsExt IsFrac frac_value rational_ops.zero 3) → IfOk r (IsElement a)
    triple_product r h = if_ok _ _ r element_of_triple h

    pub triple_inverse : (r : Result (Option (Ext Frac)) Range) → IfOk r (λ o. IfSome o (IsExt IsFrac frac_value rational_ops.zero 3)) → IfOk r (λ o. IfSome o (IsElement a))
    triple_inverse r h = if_some _ _ r element_of_triple h

  module _ (m2 m1 m0 d : Frac) (e : a ≡ algebra.Tower m2 m1 m0 d) where
    element_of_six : (x : Ext Frac) → AreFracs x → IsElement a x
    element_of_six x h = subst (λ b. IsElement b x) (sym e) (from_six m2 m1 m0 d x h)

    pub six_product : (r : Result (Ext Frac) Range) → IfOk r AreFracs → IfOk r (IsElement a)
    six_product r h = if_ok _ _ r element_of_six h

    pub six_inverse : (r : Result (Option (Ext Frac)) Range) → IfOk r (λ o. IfSome o AreFracs) → IfOk r (λ o. IfSome o (IsElement a))
    six_inverse r h = if_some _ _ r element_of_six h

  pub six_of_element : (x : Ext Frac) → IsElement a x → AreFracs x
  six_of_element x h = record { c0 = h.c0; c1 = h.c1; c2 = h.c2; c3 = h.c3; c4 = h.c4; c5 = h.c5 }

  module _ (x y : Ext Frac) (e : a ≡ algebra.Rational) where
    pub rational_product : (q : Rational) → q ≡ rational_mul (frac_value x.c0) (frac_value y.c0) → (scalars a).rational q ≡ (scalars a).ops.mul (value_in a x) (value_in a y)
    unfolding scalars value_in
    rational_product q h = subst (λ b. (scalars b).rational q ≡ (scalars b).ops.mul (value_in b x) (value_in b y)) (sym e) h

    pub rational_high : 2 ^ 120 ≤ product_height (frac_value x.c0) (frac_value y.c0) → 2 ^ 120 ≤ (scalars a).product_height (value_in a x) (value_in a y)
    unfolding scalars value_in
    rational_high h = subst (λ b. 2 ^ 120 ≤ (scalars b).product_height (value_in b x) (value_in b y)) (sym e) h
