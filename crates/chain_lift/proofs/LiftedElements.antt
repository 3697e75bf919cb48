-- Elements and polynomials over the rational numbers, over an algebra.
use Rattle.std.proofs.Common.{◌≡◌, ◌≢◌, ℕ, zero, suc, ◌<◌, ◌≤◌, Bool, true, false, cond, eqb, leb, List, [], ◌∷◌, map, refl, sym, ap, ap₂, ◌∙◌, pos, arith}
use Rattle.std.specs.List.{All}
use Rattle.std.proofs.lemmas.List.Elements.{All-head, All-tail}
use Rattle.ring_theory.specs.Rational.{Rational, rational, rational_ops}
use Rattle.ring_theory.specs.Height.{rational_scalars}
use Rattle.ring_theory.proofs.RationalLaws.{rational_scalar_laws}
use Rattle.ring_law.specs.declared.fraction.Frac.{Frac}
use Rattle.ring_law.specs.Fraction.{frac_value}
use Rattle.ext_theory.specs.ExtensionScalars.{quadratic_scalars, cubic_scalars}
use Rattle.ext_theory.specs.Tower.{nest}
use Rattle.ext_algebra.specs.declared.algebra.Algebra.{Algebra}
use Rattle.ext_algebra.specs.declared.algebra.Algebra.TheVariants as algebras
use Rattle.ext_algebra.specs.declared.algebra.Ext.{Ext}
use Rattle.ext_algebra.specs.Algebra.{scalars, ops, value_in, sextic_of, IsElement, IsZeroPast, algebra_meaning}
use Rattle.ext_algebra.specs.AlgebraLaws.{algebra_scalar_laws}
use Rattle.poly_law.specs.Exps.{degree, same}
use Rattle.poly_law.specs.ExpList.{ExpList, exps}
use Rattle.poly_law.specs.Polynomials.{Polynomial, StartsAtIn, coefficient_in}
use Rattle.poly_law.specs.Sorted.{HasNoZero}
use Rattle.poly_law.specs.Sorted as sorted
use Rattle.poly_law.specs.Sums.{sum_to, unit_at}
use Rattle.poly_law.proofs.ExpLists.{exps_are}
use Rattle.poly_law.proofs.OneList.{one_list}
use Rattle.poly_law.proofs.Order
use Rattle.mono_exp.specs.declared.exponent.Exp.{Exp}
use Rattle.jet_law.specs.Terms.{exp_of, poly_of}
use Rattle.jet_law.specs.Canonical.{jet}
use Rattle.germ_law.proofs.Canonical.{stands_before, is_order, jet_rising, jet_has_no_zero, jet_is_cut}
use Rattle.move_law.specs.Algebras.{lifted}

-- an element over the rational numbers has its value over each algebra
pub element_value : (a : Algebra) (e : Ext Frac) → IsElement algebras.Rational e → value_in a e ≡ (scalars a).rational (value_in algebras.Rational e)
unfolding value_in scalars quadratic_scalars cubic_scalars
element_value algebras.Rational e h = refl
element_value (algebras.Quadratic m1 m0) e h = ap (λ z. record { c0 = frac_value e.c0; c1 = z }) h.past.0
element_value (algebras.Cubic m2 m1 m0) e h = ap₂ (λ x y. record { c0 = frac_value e.c0; c1 = x; c2 = y }) h.past.0 h.past.1
element_value (algebras.Tower m2 m1 m0 d) e h =
    let none = rational (pos 0) 1 in
    ap (λ z. nest (record { c0 = frac_value e.c0; c1 = z; c2 = frac_value e.c2; c3 = frac_value e.c3; c4 = frac_value e.c4; c5 = frac_value e.c5 })) h.past.0
    ∙ ap (λ z. nest (record { c0 = frac_value e.c0; c1 = none; c2 = z; c3 = frac_value e.c3; c4 = frac_value e.c4; c5 = frac_value e.c5 })) h.past.1
    ∙ ap (λ z. nest (record { c0 = frac_value e.c0; c1 = none; c2 = none; c3 = z; c4 = frac_value e.c4; c5 = frac_value e.c5 })) h.past.2
    ∙ ap (λ z. nest (record { c0 = frac_value e.c0; c1 = none; c2 = none; c3 = none; c4 = z; c5 = frac_value e.c5 })) h.past.3
    ∙ ap (λ z. nest (record { c0 = frac_value e.c0; c1 = none; c2 = none; c3 = none; c4 = none; c5 = z })) h.past.4

past_of : (a : Algebra) (e : Ext Frac) → IsZeroPast algebras.Rational e → IsZeroPast a e
past_of algebras.Rational e h = h
past_of (algebras.Quadratic m1 m0) e h = (h.1, h.2, h.3, h.4)
past_of (algebras.Cubic m2 m1 m0) e h = (h.2, h.3, h.4)
past_of (algebras.Tower m2 m1 m0 d) e h = tt

-- and is valid there
pub element_of : (a : Algebra) (e : Ext Frac) → IsElement algebras.Rational e → IsElement a e
element_of a e h = record { c0 = h.c0; c1 = h.c1; c2 = h.c2; c3 = h.c3; c4 = h.c4; c5 = h.c5; past = past_of a e h.past }

-- the rational number 0 is 0 of the algebra
pub rational_zero : (a : Algebra) → (scalars a).rational rational_ops.zero ≡ (ops a).zero
unfolding scalars quadratic_scalars cubic_scalars
rational_zero algebras.Rational = refl
rational_zero (algebras.Quadratic m1 m0) = refl
rational_zero (algebras.Cubic m2 m1 m0) = refl
rational_zero (algebras.Tower m2 m1 m0 d) = refl

-- a rational number that is not 0 is not 0 over the algebra
pub unit_value : (a : Algebra) (q : Rational) → q ≢ rational_ops.zero → (scalars a).rational q ≢ (ops a).zero
unfolding scalars quadratic_scalars cubic_scalars
unit_value algebras.Rational q u z = u z
unit_value (algebras.Quadratic m1 m0) q u z = u (ap (λ v. v.c0) z)
unit_value (algebras.Cubic m2 m1 m0) q u z = u (ap (λ v. v.c0) z)
unit_value (algebras.Tower m2 m1 m0 d) q u z = u (ap (λ v. v.c0.c0) z)

chosen : (a : Algebra) (b : Bool) (q : Rational) → cond b ((scalars a).rational q) (ops a).zero ≡ (scalars a).rational (cond b q rational_ops.zero)
chosen a true q = refl
chosen a false q = sym (rational_zero a)

-- sums of rational numbers, and the entries of the identity matrix
pub sum_to-rational : (a : Algebra) (n : ℕ) (w : ℕ → Rational) → sum_to (ops a) n (λ i. (scalars a).rational (w i)) ≡ (scalars a).rational (sum_to rational_ops n w)
sum_to-rational a zero w = sym (rational_zero a)
sum_to-rational a (suc n) w =
    ap (λ z. (ops a).add z ((scalars a).rational (w n))) (sum_to-rational a n w) ∙ sym ((algebra_scalar_laws a).embeds.add (sum_to rational_ops n w) (w n))

pub unit_at-rational : (a : Algebra) (i j : ℕ) → (scalars a).rational (unit_at rational_ops i j) ≡ unit_at (ops a) i j
unit_at-rational a i j = sym (chosen a (eqb i j) rational_ops.one) ∙ ap (λ z. cond (eqb i j) z (ops a).zero) (algebra_scalar_laws a).embeds.one

module _ (n : ℕ) (a : Algebra) where
  -- the coefficients of a polynomial over the algebra are those over the rational numbers
  pub coefficient_in-lifted : (f : Polynomial n Rational) (b : ExpList n) → coefficient_in n (ops a) (lifted a f) b ≡ (scalars a).rational (coefficient_in n rational_ops f b)
  unfolding lifted
  coefficient_in-lifted [] b = sym (rational_zero a)
  coefficient_in-lifted (t ∷ f) b =
      ap₂ (ops a).add (chosen a (same (exps n) t.0 b) t.1) (coefficient_in-lifted f b)
      ∙ sym ((algebra_scalar_laws a).embeds.add (cond (same (exps n) t.0 b) t.1 rational_ops.zero) (coefficient_in n rational_ops f b))

  -- it has no term of low degree where the rational one has none
  pub starts_at-lifted : (d : ℕ) (f : Polynomial n Rational) → StartsAtIn n rational_ops d f → StartsAtIn n (ops a) d (lifted a f)
  starts_at-lifted d f low b under = coefficient_in-lifted f b ∙ ap (scalars a).rational (low b under) ∙ rational_zero a

  after-lifted : (m : ExpList n) (f : Polynomial n Rational) → sorted.AllAfter (stands_before n) m f → sorted.AllAfter (stands_before n) m (lifted a f)
  unfolding lifted
  after-lifted m [] h = tt
  after-lifted m (t ∷ f) h = (h.0, after-lifted m f h.1)

  rising-lifted : (f : Polynomial n Rational) → sorted.IsRising (stands_before n) f → sorted.IsRising (stands_before n) (lifted a f)
  unfolding lifted
  rising-lifted [] h = tt
  rising-lifted (t ∷ f) h = (after-lifted t.0 f h.0, rising-lifted f h.1)

  no_zero-lifted : (f : Polynomial n Rational) → HasNoZero rational_ops.zero f → HasNoZero (ops a).zero (lifted a f)
  unfolding lifted
  no_zero-lifted [] h = tt
  no_zero-lifted (t ∷ f) h = (unit_value a t.1 h.0, no_zero-lifted f h.1)

  -- the jet over the algebra is that over the rational numbers
  pub jet-lifted : (k : ℕ) (f : Polynomial n Rational) → lifted a (jet n rational_scalars k f) ≡ jet n (scalars a) k (lifted a f)
  jet-lifted k f =
      let l = algebra_scalar_laws a in
      let q = rational_scalar_laws in
      one_list (exps n) (exps_are n) (ops a) l.ring (stands_before n) (is_order n) (lifted a (jet n rational_scalars k f)) (jet n (scalars a) k (lifted a f))
      (rising-lifted (jet n rational_scalars k f) (jet_rising n rational_scalars q k f)) (jet_rising n (scalars a) l k (lifted a f))
      (no_zero-lifted (jet n rational_scalars k f) (jet_has_no_zero n rational_scalars q k f)) (jet_has_no_zero n (scalars a) l k (lifted a f))
      (λ b.
      coefficient_in-lifted (jet n rational_scalars k f) b
      ∙ ap (scalars a).rational (jet_is_cut n rational_scalars q k f b ∙ Order.coefficient-cut (exps n) (exps_are n) rational_ops q.ring k f b)
      ∙ sym (chosen a (leb (degree (exps n) b) k) (coefficient_in n rational_ops f b))
      ∙ ap (λ z. cond (leb (degree (exps n) b) k) z (ops a).zero) (sym (coefficient_in-lifted f b))
      ∙ sym (jet_is_cut n (scalars a) l k (lifted a f) b ∙ Order.coefficient-cut (exps n) (exps_are n) (ops a) l.ring k (lifted a f) b))

  -- the polynomial of terms over the algebra
  pub poly_of-lifted : (ts : List (Exp × Ext Frac)) → All (λ t. IsElement algebras.Rational t.1) ts → poly_of n (value_in a) ts ≡ lifted a (poly_of n (value_in algebras.Rational) ts)
  unfolding lifted
  poly_of-lifted [] h = refl
  poly_of-lifted (t ∷ ts) h =
      ap₂ (λ v rest. (exp_of n t.0, v) ∷ rest) (element_value a t.1 (All-head (λ t. IsElement algebras.Rational t.1) t ts h)) (poly_of-lifted ts (All-tail (λ t. IsElement algebras.Rational t.1) t ts h))
