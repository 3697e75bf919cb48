-- The tables of I, J and the discriminants have the values of their definitions.
use Rattle.std.proofs.Common.{◌≡◌, ℕ, ◌<◌, ◌≤◌, ◌^◌, pos, negsuc, List, [], ◌∷◌, ◌++◌, length, refl, sym, ap, subst, ◌∙◌, arith}
use Rattle.std.proofs.lemmas.Int.{ints}
use Rattle.ring_theory.specs.Gcd.{gcd}
use Rattle.ring_theory.specs.Rational.{Rational, rational, rational_add, rational_ops, rational_zero}
use Rattle.ring_theory.specs.Scalars.{Scalars, ScalarLaws}
use Rattle.ring_theory.proofs.GcdLaws.{coprime_by}
use Rattle.ring_theory.proofs.RingReify.{by_ring, reify}
use Rattle.ring_law.specs.Fraction.{IsFrac}
use Rattle.poly_law.proofs.Sums.{add_cancel, neg_unique}
use Rattle.jet_law.specs.Heights.{IsHigh}
use Rattle.jet_law.proofs.High.{high_head, high_tail, high_left, high_right}
use Rattle.ring_formula.specs.Formulas.{formula_value, formula_heights}
use Rattle.normal_forms.specs.declared.invariant.TheConstants.{QUARTIC_I, QUARTIC_J, QUARTIC_DISCRIMINANT, TRIPLE_DISCRIMINANT}
use Rattle.normal_forms.specs.Units.{minus, times_number, square, cube, at, over_number, over_height, quartic_letters, invariants_heights}

zero_twice : rational_ops.add (rational (pos 0) 1) (rational (pos 0) 1) ≡ rational (pos 0) 1
unfolding rational_add rational gcd
zero_twice = refl

four : rational_ops.add (rational (pos 4) 1) (rational (negsuc 3) 1) ≡ rational (pos 0) 1
unfolding rational_add rational gcd rational_zero
four = refl

one : rational_ops.add (rational (pos 1) 1) (rational (negsuc 0) 1) ≡ rational (pos 0) 1
unfolding rational_add rational gcd rational_zero
one = refl

twenty_seven : rational_ops.add (rational (pos 27) 1) (rational (negsuc 26) 1) ≡ rational (pos 0) 1
unfolding rational_add rational gcd rational_zero
twenty_seven = refl

module _ {V : Type 0} (s : Scalars V) (laws : ScalarLaws s) where
  pub rational-zero : s.rational (rational (pos 0) 1) ≡ s.ops.zero
  rational-zero = add_cancel s.ops laws.ring (s.rational (rational (pos 0) 1)) (s.rational (rational (pos 0) 1)) s.ops.zero
      (sym (laws.embeds.add (rational (pos 0) 1) (rational (pos 0) 1)) ∙ ap s.rational zero_twice ∙ sym (laws.ring.add_zero (s.rational (rational (pos 0) 1))))

  pub opposite : (p q : Rational) → rational_ops.add p q ≡ rational (pos 0) 1 → s.rational q ≡ s.ops.neg (s.rational p)
  opposite p q e = neg_unique s.ops laws.ring (s.rational p) (s.rational q) (sym (laws.embeds.add p q) ∙ ap s.rational e ∙ rational-zero)

  unit : s.rational (rational (pos 1) 1) ≡ s.ops.one
  unit = laws.embeds.one

  less_one : s.rational (rational (negsuc 0) 1) ≡ s.ops.neg s.ops.one
  less_one = opposite (rational (pos 1) 1) (rational (negsuc 0) 1) one ∙ ap s.ops.neg unit

  pub i_value : (a b c d e : V) → formula_value s (a ∷ b ∷ c ∷ d ∷ e ∷ []) QUARTIC_I
      ≡ s.ops.add (minus s (s.ops.mul a e) (times_number s 4 (s.ops.mul b d))) (times_number s 3 (square s c))
  unfolding formula_value
  i_value a b c d e =
      rw (unit, opposite (rational (pos 4) 1) (rational (negsuc 3) 1) four)
      (by_ring laws.ring (a ∷ b ∷ c ∷ d ∷ e ∷ s.rational (rational (pos 4) 1) ∷ s.rational (rational (pos 3) 1) ∷ []) (search reify depth 40 fits 20000) tt)

  pub j_value : (a b c d e : V) → formula_value s (a ∷ b ∷ c ∷ d ∷ e ∷ []) QUARTIC_J
      ≡ minus s (minus s (minus s (s.ops.add (s.ops.mul (s.ops.mul a c) e) (times_number s 2 (s.ops.mul (s.ops.mul b c) d)))
      (s.ops.mul a (square s d))) (s.ops.mul (square s b) e)) (cube s c)
  unfolding formula_value
  j_value a b c d e =
      rw (unit, less_one)
      (by_ring laws.ring (a ∷ b ∷ c ∷ d ∷ e ∷ s.rational (rational (pos 2) 1) ∷ []) (search reify depth 60 fits 20000) tt)

  pub discriminant_value : (i j : V) → formula_value s (i ∷ j ∷ []) QUARTIC_DISCRIMINANT ≡ minus s (cube s i) (times_number s 27 (square s j))
  unfolding formula_value
  discriminant_value i j =
      rw (unit, opposite (rational (pos 27) 1) (rational (negsuc 26) 1) twenty_seven)
      (by_ring laws.ring (i ∷ j ∷ s.rational (rational (pos 27) 1) ∷ []) (search reify depth 40 fits 20000) tt)

  pub triple_value : (c1 c2 c3 : V) → formula_value s (c1 ∷ c2 ∷ c3 ∷ []) TRIPLE_DISCRIMINANT
      ≡ s.ops.add (times_number s 4 (cube s c2)) (times_number s 27 (s.ops.mul c1 (square s c3)))
  unfolding formula_value
  triple_value c1 c2 c3 =
      by_ring laws.ring (c1 ∷ c2 ∷ c3 ∷ s.rational (rational (pos 4) 1) ∷ s.rational (rational (pos 27) 1) ∷ []) (search reify depth 40 fits 20000) tt

-- ---- the steps of I and J

module _ {V : Type 0} (s : Scalars V) (qs : List V) where
  pub over_is : (n i : ℕ) (v y : V) → v ≡ at s qs i → y ≡ over_number s n v → y ≡ over_number s n (at s qs i)
  over_is n i v y e h = h ∙ ap (over_number s n) e

  pub letters_are : (a b c d e : V) → a ≡ at s qs 0 → b ≡ over_number s 4 (at s qs 1) → c ≡ over_number s 6 (at s qs 2) → d ≡ over_number s 4 (at s qs 3) → e ≡ at s qs 4
      → (a ∷ b ∷ c ∷ d ∷ e ∷ []) ≡ quartic_letters s qs
  letters_are a b c d e ha hb hc hd he = λ i. ha i ∷ hb i ∷ hc i ∷ hd i ∷ he i ∷ []

  abbrev tables : List ℕ
  tables = formula_heights s (quartic_letters s qs) QUARTIC_I ++ formula_heights s (quartic_letters s qs) QUARTIC_J

  pub b_high : (v : V) → v ≡ at s qs 1 → 2 ^ 120 ≤ over_height s 4 v → IsHigh (invariants_heights s qs)
  b_high v e high = high_head (over_height s 4 (at s qs 1)) (over_height s 6 (at s qs 2) ∷ over_height s 4 (at s qs 3) ∷ tables) (subst (λ z. 2 ^ 120 ≤ over_height s 4 z) e high)

  pub c_high : (v : V) → v ≡ at s qs 2 → 2 ^ 120 ≤ over_height s 6 v → IsHigh (invariants_heights s qs)
  c_high v e high =
      high_tail (over_height s 4 (at s qs 1)) (over_height s 6 (at s qs 2) ∷ over_height s 4 (at s qs 3) ∷ tables)
      (high_head (over_height s 6 (at s qs 2)) (over_height s 4 (at s qs 3) ∷ tables) (subst (λ z. 2 ^ 120 ≤ over_height s 6 z) e high))

  last_high : IsHigh (over_height s 4 (at s qs 3) ∷ tables) → IsHigh (invariants_heights s qs)
  last_high high =
      high_tail (over_height s 4 (at s qs 1)) (over_height s 6 (at s qs 2) ∷ over_height s 4 (at s qs 3) ∷ tables)
      (high_tail (over_height s 6 (at s qs 2)) (over_height s 4 (at s qs 3) ∷ tables) high)

  pub d_high : (v : V) → v ≡ at s qs 3 → 2 ^ 120 ≤ over_height s 4 v → IsHigh (invariants_heights s qs)
  d_high v e high = last_high (high_head (over_height s 4 (at s qs 3)) tables (subst (λ z. 2 ^ 120 ≤ over_height s 4 z) e high))

  pub i_high : (letters : List V) → letters ≡ quartic_letters s qs → IsHigh (formula_heights s letters QUARTIC_I) → IsHigh (invariants_heights s qs)
  i_high letters e high =
      last_high (high_tail (over_height s 4 (at s qs 3)) tables
      (high_left (formula_heights s (quartic_letters s qs) QUARTIC_I) (formula_heights s (quartic_letters s qs) QUARTIC_J) (subst (λ z. IsHigh (formula_heights s z QUARTIC_I)) e high)))

  pub j_high : (letters : List V) → letters ≡ quartic_letters s qs → IsHigh (formula_heights s letters QUARTIC_J) → IsHigh (invariants_heights s qs)
  j_high letters e high =
      last_high (high_tail (over_height s 4 (at s qs 3)) tables
      (high_right (formula_heights s (quartic_letters s qs) QUARTIC_I) (formula_heights s (quartic_letters s qs) QUARTIC_J) (subst (λ z. IsHigh (formula_heights s z QUARTIC_J)) e high)))

-- the entries of a list of three
pub three_are : {V : Type 0} (s : Scalars V) (xs : List V) → length xs ≡ 3 → xs ≡ (at s xs 0 ∷ at s xs 1 ∷ at s xs 2 ∷ [])
three_are s [] e = absurd (omega arith)
three_are s (x ∷ []) e = absurd (omega arith)
three_are s (x ∷ y ∷ []) e = absurd (omega arith)
three_are s (x ∷ y ∷ z ∷ []) e = refl
three_are s (x ∷ y ∷ z ∷ w ∷ xs) e = absurd (omega arith)

-- 1 / n is a valid fraction
pub inverse_valid : (n : ℕ) → 0 < n → n < 256 → IsFrac (record { num = pos 1; den = pos n })
inverse_valid n h small = record { den_pos = omega (arith, ints); lowest = coprime_by 1 n (λ d x y. x); num_fits = omega arith; den_fits = omega arith }
