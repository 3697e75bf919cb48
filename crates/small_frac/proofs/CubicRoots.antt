-- The least rational root of t^3 + m2 t^2 + m1 t + m0 is the least whole root of the scaled cubic, over the common denominator.
use Rattle.std.proofs.Common.{◌≡◌, ◌≢◌, ℕ, zero, suc, ◌*◌, ◌/◌, ◌^◌, ◌<◌, ◌≤◌, [], ◌∷◌, ℤ, pos, negsuc, ◌+ℤ◌, ◌*ℤ◌, neg_ℤ, ◌≤ℤ◌, unsigned_abs, Option, Some, None, inl, inr, sym, ◌∙◌, ap, ap₂, subst, arith, mul-pos, zero-lt-suc, le-mul_of_pos_right}
use Rattle.std.proofs.lemmas.Int.{ints, unsigned_abs-mul}
use Rattle.std.specs.Int.{◌∣◌}
use Rattle.std.specs.Prelude.{SomeIff, MatchOption}
use Rattle.std.proofs.Math.Nat.{le_of_dvd}
use Rattle.ring_theory.specs.Height.{lcm, scaled_abs}
use Rattle.ring_theory.specs.Integers.{int_ops}
use Rattle.ring_theory.specs.Rational.{Rational, rational, rational_add, rational_neg, rational_ops}
use Rattle.ring_theory.proofs.HeightLaws.{le_most, over, over_abs, over_is, Divides, common_den-pos, common_den-divides, lcm_pos, lcm-dvd_right}
use Rattle.ring_theory.proofs.IntegerLaws.{int_laws}
use Rattle.ring_theory.proofs.RationalLaws.{IsFraction, den_pos as rational_den_pos, add_is, neg_is, rational_is}
use Rattle.ring_theory.proofs.RingReify.{by_ring, reify}
use Rattle.ring_theory.proofs.RingSolver.{linear_combination}
use Rattle.root_search.specs.Cubic.{int_cubic, IsLeastRoot}
use Rattle.root_search.proofs.LeastRoot.{near}
use Rattle.ring_law.specs.declared.fraction.Frac.{Frac}
use Rattle.ring_law.specs.Fraction.{IsFrac, FitsFrac, frac_value}
use Rattle.ring_law.proofs.FractionLaws.{value_num, value_den, parts_fit}
use Rattle.ext_theory.specs.Extension.{Cubic, cubic_at}
use Rattle.ext_theory.specs.Roots.{IsAtMost, IsLeastRootOf}
use Rattle.small_frac.specs.Exact.{IsReducedOf}
use Rattle.small_frac.specs.Roots.{cubic_root_height, HasLeastRoot, cubic_of, cubic_den}
use Rattle.small_frac.specs.Scaled.{IsScaled, multiple_of}
use Rattle.small_frac.specs.declared.root.Scaled.{Scaled}
use Rattle.small_frac.proofs.RootLaws.{root_of_integer, integer_of_root}

-- ---- order by numerators

sign_kept : (z : ℤ) (d e n : ℕ) → 0 < d → z *ℤ pos d ≡ pos n *ℤ pos e → pos 0 ≤ℤ z
sign_kept (pos z) d e n h k = omega (arith, ints)
sign_kept (negsuc z) zero e n h k = absurd (omega arith)
sign_kept (negsuc z) (suc d) e n h k = absurd (omega (arith, ints))

-- a fraction with a numerator that is not negative is not negative
not_negative : (q : Rational) (n : ℤ) (d : ℕ) → IsFraction q n d → pos 0 ≤ℤ n → pos 0 ≤ℤ q.num
not_negative q (pos n) d h k = sign_kept q.num d q.den n h.den_pos h.cross
not_negative q (negsuc n) d h k = absurd (omega (arith, ints))

difference_form : (y z d : ℤ) → z *ℤ d +ℤ neg_ℤ y *ℤ d ≡ (z +ℤ neg_ℤ y) *ℤ d
difference_form y z d = by_ring int_laws (y ∷ z ∷ d ∷ []) (search reify depth 20) tt

product_not_negative : (w : ℤ) (d : ℕ) → pos 0 ≤ℤ w → pos 0 ≤ℤ (w *ℤ pos d)
product_not_negative (pos w) d h = omega (arith, ints)
product_not_negative (negsuc w) d h = absurd (omega (arith, ints))

-- fractions over one denominator are ordered as their numerators
at_most : (p q : Rational) (y z : ℤ) (d : ℕ) → IsFraction p y d → IsFraction q z d → y ≤ℤ z → IsAtMost p q
at_most p q y z d hp hq h =
    not_negative (rational_add q (rational_neg p)) _ (d * d) (add_is hq (neg_is hp))
    (subst (λ x. pos 0 ≤ℤ x) (sym (difference_form y z (pos d))) (product_not_negative (z +ℤ neg_ℤ y) d (omega (arith, ints))))

-- ---- the scaled cubic

times_den : (x z w d e : ℤ) → x *ℤ d ≡ z *ℤ w → x *ℤ (d *ℤ e) ≡ z *ℤ e *ℤ w
times_den x z w d e h = linear_combination int_ops int_laws e h (by_ring int_laws (x ∷ z ∷ w ∷ d ∷ e ∷ []) (search reify depth 20) tt)

-- numerator and denominator times e
widened : (q : Rational) (n : ℤ) (d e : ℕ) → IsFraction q n d → 0 < e → IsFraction q (n *ℤ pos e) (d * e)
widened q n d e h k = record { den_pos = mul-pos h.den_pos k; cross = times_den q.num n (pos q.den) (pos d) (pos e) h.cross }

module _ (m2 m1 m0 : Frac) (v2 : IsFrac m2) (v1 : IsFrac m1) (v0 : IsFrac m0) where
  abbrev m : Cubic Rational
  m = cubic_of m2 m1 m0

  -- q d for the value of a fraction
  pub over_value : (q : Frac) (d : ℕ) → IsFrac q → over d (frac_value q) ≡ multiple_of q d
  over_value q d h = ap₂ (λ x y. x *ℤ pos (d / y)) (value_num q h) (value_den q h)

  abbrev d : ℕ
  d = cubic_den m

  pub d_pos : 0 < d
  d_pos = common_den-pos (m.c2 ∷ m.c1 ∷ m.c0 ∷ [])

  divides : Divides d (m.c2 ∷ m.c1 ∷ m.c0 ∷ [])
  divides = common_den-divides (m.c2 ∷ m.c1 ∷ m.c0 ∷ [])

  -- a coefficient over the common denominator
  over_common : (q : Frac) (e : ℕ) → IsFrac q → e ≡ d → (frac_value q).den ∣ d → IsFraction (frac_value q) (multiple_of q e) e
  over_common q e h ed k =
      subst (λ n. IsFraction (frac_value q) (multiple_of q n) n) (sym ed)
      (subst (λ n. IsFraction (frac_value q) n d) (over_value q d h) (over_is d (frac_value q) d_pos k))

  module _ (s : Scaled) (h : IsScaled m2 m1 m0 s) where
    den_pos : 0 < s.den
    den_pos = subst (λ k. 0 < k) (sym h.den_is) d_pos

    a_fraction : IsFraction m.c2 s.a s.den
    a_fraction = subst (λ n. IsFraction m.c2 n s.den) (sym h.a_is) (over_common m2 s.den v2 h.den_is divides.0)

    b_fraction : IsFraction m.c1 s.b (s.den * s.den)
    b_fraction = subst (λ n. IsFraction m.c1 n (s.den * s.den)) (sym h.b_is) (widened m.c1 _ s.den s.den (over_common m1 s.den v1 h.den_is divides.1.0) den_pos)

    c_fraction : IsFraction m.c0 s.c (s.den * s.den * s.den)
    c_fraction =
        subst (λ n. IsFraction m.c0 n (s.den * s.den * s.den)) (sym h.c_is)
        (widened m.c0 _ (s.den * s.den) s.den (widened m.c0 _ s.den s.den (over_common m0 s.den v0 h.den_is divides.1.1.0) den_pos) den_pos)

    -- no whole root, no root
    pub no_root : ((y : ℤ) → int_cubic s.a s.b s.c y ≢ pos 0) → HasLeastRoot (cubic_at rational_ops m) None
    no_root none = λ x e. let y = integer_of_root m.c2 m.c1 m.c0 x s.a s.b s.c s.den a_fraction b_fraction c_fraction e in none y.0 y.2

    -- the least whole root over the common denominator is the least root
    least : (y : ℤ) → IsLeastRoot s.a s.b s.c y → IsLeastRootOf (cubic_at rational_ops m) (rational y s.den)
    least y r = record {
      root = root_of_integer m.c2 m.c1 m.c0 y s.a s.b s.c s.den a_fraction b_fraction c_fraction r.root;
      least = λ x e.
          let z = integer_of_root m.c2 m.c1 m.c0 x s.a s.b s.c s.den a_fraction b_fraction c_fraction e in
          at_most (rational y s.den) x y z.0 s.den (rational_is y s.den den_pos) z.1 (r.least z.0 z.2);
    }

    -- it fits
    fits : (y : ℤ) → IsLeastRoot s.a s.b s.c y → FitsFrac (rational y s.den)
    fits y r = let n = near s.a s.b s.c y h.small r.root in let small = h.den_small in parts_fit y s.den den_pos (omega arith) (omega arith)

    -- what `make_frac` makes of it
    pub made : (y : ℤ) (o : Option Frac) → IsLeastRoot s.a s.b s.c y → IsReducedOf y (pos s.den) o → HasLeastRoot (cubic_at rational_ops m) o
    made y None r (inl e) = absurd (let p = den_pos in omega (arith, ints))
    made y None r (inr not_fits) = absurd (not_fits (fits y r))
    made y (Some f) r k = record { valid = k.1.valid; least = subst (IsLeastRootOf (cubic_at rational_ops m)) (sym k.1.value_is) (least y r) }

  -- ---- what is too large

  -- nothing for the common denominator, since it is large
  pub no_den : (r : Option ℕ) → r ≡ None → ¬ (d < 2 ^ 120) → SomeIff r (d < 2 ^ 120) d
  no_den r e h = subst (λ o. SomeIff o (d < 2 ^ 120) d) (sym e) h

  abbrev pub first_multiple : ℕ
  first_multiple = lcm m.c0.den 1

  abbrev pub second_multiple : ℕ
  second_multiple = lcm m.c1.den first_multiple

  pub first_pos : 0 < first_multiple
  first_pos = lcm_pos m.c0.den 1 (rational_den_pos m.c0) (zero-lt-suc 0)

  pub second_pos : 0 < second_multiple
  second_pos = lcm_pos m.c1.den first_multiple (rational_den_pos m.c1) first_pos

  pub second_small : d < 2 ^ 120 → second_multiple < 2 ^ 120
  second_small h = let k : second_multiple ≤ d = le_of_dvd d_pos (lcm-dvd_right m.c2.den second_multiple) in omega arith

  pub first_small : d < 2 ^ 120 → first_multiple < 2 ^ 120
  first_small h = let k : first_multiple ≤ second_multiple = le_of_dvd second_pos (lcm-dvd_right m.c1.den first_multiple) in let l = second_small h in omega arith

  -- nothing for the scaled coefficients, since one of them is large
  pub no_scaled : (r : Option Scaled) → r ≡ None → 2 ^ 120 ≤ cubic_root_height m → MatchOption r (2 ^ 120 ≤ cubic_root_height m) (λ s. IsScaled m2 m1 m0 s)
  no_scaled r e h = subst (λ o. MatchOption o (2 ^ 120 ≤ cubic_root_height m) (λ s. IsScaled m2 m1 m0 s)) (sym e) h

  abs_multiple : (q : Frac) (e : ℕ) → IsFrac q → e ≡ d → unsigned_abs (multiple_of q e) ≡ scaled_abs d (frac_value q)
  abs_multiple q e h ed = ap (λ k. unsigned_abs (multiple_of q k)) ed ∙ ap unsigned_abs (sym (over_value q d h)) ∙ over_abs d (frac_value q)

  grows : (n : ℕ) → 2 ^ 120 ≤ n → 2 ^ 120 ≤ n * d
  grows n h = let k : n ≤ n * d = le-mul_of_pos_right n d_pos in omega arith

  large : (n : ℕ) → ¬ (n < 2 ^ 120) → 2 ^ 120 ≤ n
  large n h = omega arith

  pub den_high : ¬ (d < 2 ^ 120) → 2 ^ 120 ≤ cubic_root_height m
  unfolding cubic_root_height
  den_high h = le_most 0 _ (large d h)

  module _ (e : ℕ) (ed : e ≡ d) where
    pub a_high : ¬ (unsigned_abs (multiple_of m2 e) < 2 ^ 120) → 2 ^ 120 ≤ cubic_root_height m
    unfolding cubic_root_height
    a_high h = le_most 1 _ (subst (λ n. 2 ^ 120 ≤ n) (abs_multiple m2 e v2 ed) (large _ h))

    pub b_part_high : ¬ (unsigned_abs (multiple_of m1 e) < 2 ^ 120) → 2 ^ 120 ≤ cubic_root_height m
    unfolding cubic_root_height
    b_part_high h = le_most 2 _ (grows _ (subst (λ n. 2 ^ 120 ≤ n) (abs_multiple m1 e v1 ed) (large _ h)))

    -- the absolute value of x d
    abs_times : (x : ℤ) (n : ℕ) → unsigned_abs x ≡ n → unsigned_abs (x *ℤ pos e) ≡ n * d
    abs_times x n h = unsigned_abs-mul x (pos e) ∙ ap₂ ◌*◌ h ed

    pub b_high : (x : ℤ) → x ≡ multiple_of m1 e → ¬ (unsigned_abs (x *ℤ pos e) < 2 ^ 120) → 2 ^ 120 ≤ cubic_root_height m
    unfolding cubic_root_height
    b_high x ex h = le_most 2 _ (subst (λ n. 2 ^ 120 ≤ n) (abs_times x _ (ap unsigned_abs ex ∙ abs_multiple m1 e v1 ed)) (large _ h))

    pub c_part_high : ¬ (unsigned_abs (multiple_of m0 e) < 2 ^ 120) → 2 ^ 120 ≤ cubic_root_height m
    unfolding cubic_root_height
    c_part_high h = le_most 3 _ (grows _ (grows _ (subst (λ n. 2 ^ 120 ≤ n) (abs_multiple m0 e v0 ed) (large _ h))))

    pub c_middle_high : (x : ℤ) → x ≡ multiple_of m0 e → ¬ (unsigned_abs (x *ℤ pos e) < 2 ^ 120) → 2 ^ 120 ≤ cubic_root_height m
    unfolding cubic_root_height
    c_middle_high x ex h = le_most 3 _ (grows _ (subst (λ n. 2 ^ 120 ≤ n) (abs_times x _ (ap unsigned_abs ex ∙ abs_multiple m0 e v0 ed)) (large _ h)))

    pub c_high : (x y : ℤ) → x ≡ multiple_of m0 e → y ≡ x *ℤ pos e → ¬ (unsigned_abs (y *ℤ pos e) < 2 ^ 120) → 2 ^ 120 ≤ cubic_root_height m
    unfolding cubic_root_height
    c_high x y ex ey h =
        le_most 3 _
        (subst (λ n. 2 ^ 120 ≤ n) (abs_times y _ (ap unsigned_abs ey ∙ abs_times x _ (ap unsigned_abs ex ∙ abs_multiple m0 e v0 ed))) (large _ h))
