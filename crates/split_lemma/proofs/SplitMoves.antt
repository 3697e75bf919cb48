-- What the split move of a degree makes of a polynomial.
use Rattle.std.proofs.Common.{◌≡◌, ◌≢◌, ℕ, zero, suc, ◌+◌, ◌-◌, ◌<◌, ◌≤◌, ◌⊎◌, inl, inr, Bool, true, false, ◌&&◌, ◌||◌, cond, eqb, eq-eqb, ne_eqb, le-ltb, lt-ltb, ltb-false, List, [], ◌∷◌, ◌++◌, get_or, length, refl, sym, ap, ap₂, ◌∙◌, arith}
use Rattle.std.specs.Prelude.{pos, nat_lt}
use Rattle.std.specs.List.{AllByRecursion}
use Rattle.std.proofs.lemmas.List.{length-map}
use Rattle.ring_theory.specs.Rational.{rational, rational_add, rational_ops}
use Rattle.ring_theory.specs.Gcd.{gcd}
use Rattle.ring_theory.specs.Scalars.{Scalars, ScalarLaws, HasInverses}
use Rattle.ring_theory.proofs.ValueSet.{values_are_set}
use Rattle.ring_theory.proofs.RingReify.{by_ring, reify}
use Rattle.poly_law.specs.Sums.{multiple}
use Rattle.poly_law.specs.Exps.{all_to, plus, variable, degree}
use Rattle.poly_law.specs.ExpList.{ExpList, exps}
use Rattle.poly_law.specs.Poly.{subst_in}
use Rattle.poly_law.specs.Polynomials.{Polynomial, SameToIn, StartsAtIn, coefficient_in, substitute}
use Rattle.poly_law.proofs.ExpLists.{exps_are}
use Rattle.poly_law.proofs.ExpLaws
use Rattle.poly_law.proofs.Place
use Rattle.poly_law.proofs.SubstOrder
use Rattle.mono_exp.specs.Exponents.{numbers_below}
use Rattle.mono_exp.proofs.Lists.{length-numbers_below}
use Rattle.germ_law.proofs.Canonical
use Rattle.jet_poly.specs.Jets.{whole}
use Rattle.coord_change.specs.Moves.{at, put, variable_of}
use Rattle.coord_change.specs.Carries.{carry}
use Rattle.move_law.specs.Moves.{pair_exponents}
use Rattle.move_law.specs.Split.{is_first_square, belongs_to, half_inverse, completed, split_put, split_move, squares_in}
use Rattle.split_lemma.specs.SplitForms.{IsSplitUpTo, HasSquares, split_off, IsKeptBySplit}
use Rattle.split_lemma.proofs.Belonging.{belongs_facts, all_fails, false_right}
use Rattle.split_lemma.proofs.Halves.{zero_from_double}
use Rattle.split_lemma.proofs.Residuals
use Rattle.split_lemma.proofs.Residuals.{at_mapped, square_is}
use Rattle.split_lemma.proofs.SplitOff

-- ---- twice a number

one_and_one : rational (pos 2) 1 ≡ rational_ops.add (rational (pos 1) 1) (rational (pos 1) 1)
unfolding rational_add rational gcd
one_and_one = refl

module _ {V : Type 0} (s : Scalars V) (laws : ScalarLaws s) where
  added_twice : (a : V) → s.ops.add (s.ops.add s.ops.zero a) a ≡ s.ops.mul (s.ops.add s.ops.one s.ops.one) a
  added_twice a = by_ring laws.ring (a ∷ []) (search reify depth 20) tt

  pub twice : (a : V) → multiple s.ops 2 a ≡ s.ops.mul (whole s 2) a
  twice a =
      added_twice a
      ∙ ap (λ z. s.ops.mul z a) (sym (ap s.rational one_and_one ∙ laws.embeds.add (rational (pos 1) 1) (rational (pos 1) 1) ∙ ap₂ s.ops.add laws.embeds.one laws.embeds.one))

  -- the inverse of twice a number other than zero
  pub half_is : HasInverses s → (a : V) → a ≢ s.ops.zero → s.ops.mul (half_inverse s a) (multiple s.ops 2 a) ≡ s.ops.one
  half_is inverts a ne =
      ap (s.ops.mul (half_inverse s a)) (twice a) ∙ laws.ring.mul_comm (half_inverse s a) (s.ops.mul (whole s 2) a)
      ∙ inverts.mul_inverse (s.ops.mul (whole s 2) a) (λ e. ne (zero_from_double s laws a e))

-- ---- the first square variable

before_or_at : (i k : ℕ) → i < suc k → (i < k) ⊎ (i ≡ k)
before_or_at i k h = grind arith

-- the first number from c on, below k, where w is not 0
pub record IsFirst (c : ℕ) (w : ℕ → ℕ) (k : ℕ) : Type 0 where
  pub place : ℕ
  pub inside : place < k
  pub past : c ≤ place
  pub has : 0 < w place
  pub before : (i : ℕ) → i < place → c ≤ i → w i ≡ 0

first_or_none : (c : ℕ) (w : ℕ → ℕ) (k : ℕ) → ((i : ℕ) → i < k → c ≤ i → w i ≡ 0) ⊎ IsFirst c w k
first_or_none c w zero = inl (λ i h. absurd (omega arith))
first_or_none c w (suc k) = elim (first_or_none c w k) [
  | inr f ↦ inr (let h = f.inside in record { place = f.place; inside = (omega arith); past = f.past; has = f.has; before = f.before })
  | inl free ↦ elim (ExpLaws.zero_or_not (w k)) [
    | inl z ↦ inl (λ i h g. elim (before_or_at i k h) [ inl y ↦ free i y g | inr e ↦ ap w e ∙ z ])
    | inr p ↦ elim (either c k) [
      | inl g ↦ inr (record { place = k; inside = omega arith; past = g; has = p; before = free })
      | inr g ↦ inl (λ i h y. absurd (omega arith))
    ]
  ]
]
  where
    either : (c k : ℕ) → (c ≤ k) ⊎ (k < c)
    either c k = grind arith

pub first_from : (c : ℕ) (w : ℕ → ℕ) (k i : ℕ) → i < k → c ≤ i → 0 < w i → IsFirst c w k
first_from c w k i h g p = elim (first_or_none c w k) [ inl free ↦ (let e = free i h g in absurd (omega arith)) | inr f ↦ f ]

and_true : (a b : Bool) → a ≡ true → b ≡ true → (a && b) ≡ true
and_true a b h e = ap₂ (λ x y. x && y) h e

true_right : (a b : Bool) → b ≡ true → (a || b) ≡ true
true_right true b h = refl
true_right false b h = h

true_left : (a b : Bool) → a ≡ true → (a || b) ≡ true
true_left a b h = ap (λ z. z || b) h

module _ (n c d : ℕ) (m : ExpList n) where
  -- a monomial of the degree belongs to its first square variable
  belongs_first : degree (exps n) m ≡ d → (f : IsFirst c ((exps n).at m) n) → belongs_to n c d f.place m ≡ true
  belongs_first e f = and_true (eqb (degree (exps n) m) d) (is_first_square c f.place ((exps n).at m)) (eq-eqb (degree (exps n) m) d e)
      (and_true (nat_lt 0 ((exps n).at m f.place)) (all_to f.place (λ i. nat_lt i c || eqb ((exps n).at m i) 0)) (lt-ltb 0 ((exps n).at m f.place) f.has)
      (ExpLaws.all_to_from f.place (λ i. nat_lt i c || eqb ((exps n).at m i) 0) (λ i h. step i h (nat_lt i c) refl)))
    where
      step : (i : ℕ) → i < f.place → (b : Bool) → nat_lt i c ≡ b → (nat_lt i c || eqb ((exps n).at m i) 0) ≡ true
      step i h true q = true_left (nat_lt i c) (eqb ((exps n).at m i) 0) q
      step i h false q = true_right (nat_lt i c) (eqb ((exps n).at m i) 0) (eq-eqb ((exps n).at m i) 0 (f.before i h (ltb-false i c q)))

  -- and to no other
  belongs_other : (f : IsFirst c ((exps n).at m) n) → (w : ℕ) → (w ≡ f.place → ⊥) → c ≤ w → belongs_to n c d w m ≡ false
  belongs_other f w ne past = false_right (eqb (degree (exps n) m) d) (is_first_square c w ((exps n).at m)) (elim (three w f.place) [
    | inl h ↦ ap (λ z. z && all_to w (λ i. nat_lt i c || eqb ((exps n).at m i) 0)) (le-ltb 0 ((exps n).at m w) (let z = f.before w h past in omega arith))
    | inr more ↦ elim more [
      | inl h ↦ false_right (nat_lt 0 ((exps n).at m w)) (all_to w (λ i. nat_lt i c || eqb ((exps n).at m i) 0))
          (all_fails w (λ i. nat_lt i c || eqb ((exps n).at m i) 0) f.place h
          (ap₂ (λ x y. x || y) (le-ltb f.place c f.past) (ne_eqb ((exps n).at m f.place) 0 (λ e. let h = f.has in omega arith))))
      | inr e ↦ absurd (ne e)
    ]
  ])
    where
      three : (i j : ℕ) → (i < j) ⊎ ((j < i) ⊎ (i ≡ j))
      three i j = grind arith

  -- a monomial without w does not belong to it
  belongs_without : (w : ℕ) → (exps n).at m w ≡ 0 → belongs_to n c d w m ≡ false
  belongs_without w z = false_right (eqb (degree (exps n) m) d) (is_first_square c w ((exps n).at m))
      (ap (λ b. b && all_to w (λ i. nat_lt i c || eqb ((exps n).at m i) 0)) (le-ltb 0 ((exps n).at m w) (omega arith)))

-- ---- the move

module _ {V : Type 0} (n c o : ℕ) (two : 2 ≤ o) (s : Scalars V) (laws : ScalarLaws s) (f : Polynomial n V) where
  abbrev square_of : ℕ → V
  square_of w = get_or (squares_in n s c f) (w - c) s.ops.zero

  abbrev inverse : ℕ → V
  inverse w = half_inverse s (square_of w)

  abbrev belongs : ℕ → ExpList n → Bool
  belongs w m = belongs_to n c (suc o) w m

  abbrev put_more : ℕ → Polynomial n V
  put_more = SplitOff.put_more (exps n) (exps_are n) s.ops laws.ring (values_are_set s laws) c belongs o two (λ w a e. (belongs_facts n c (suc o) w a e).0) (λ w a e. (belongs_facts n c (suc o) w a e).1) f inverse

  abbrev moved : ExpList n → V
  moved m = coefficient_in n s.ops (subst_in (exps n) (exps n) s.ops (λ i. (variable (exps n) i, s.ops.one) ∷ put_more i) f) m

  put_is : (w : ℕ) → w < n → put n s (split_move n s c (suc o) (squares_in n s c f) f) w ≡ (variable (exps n) w, s.ops.one) ∷ put_more w
  unfolding split_move completed
  put_is w h = at_mapped (split_put n s c (suc o) (squares_in n s c f) f) n w [] h ∙ step (nat_lt w c)
    where
      step : (b : Bool) → cond b (variable_of n s w) (variable_of n s w ++ SplitOff.taken (exps n) (exps_are n) s.ops laws.ring (values_are_set s laws) c belongs o two (λ w a e. (belongs_facts n c (suc o) w a e).0) (λ w a e. (belongs_facts n c (suc o) w a e).1) f inverse w)
          ≡ (variable (exps n) w, s.ops.one) ∷ cond b [] (SplitOff.taken (exps n) (exps_are n) s.ops laws.ring (values_are_set s laws) c belongs o two (λ w a e. (belongs_facts n c (suc o) w a e).0) (λ w a e. (belongs_facts n c (suc o) w a e).1) f inverse w)
      step true = refl
      step false = refl

  split_is : (m : ExpList n) → degree (exps n) m ≤ suc o → coefficient_in n s.ops (split_off n s c (suc o) f) m ≡ moved m
  unfolding carry
  split_is m h =
      Canonical.jet_same_to n s laws (suc o) (substitute n n s.ops (put n s (split_move n s c (suc o) (squares_in n s c f) f)) f) m h
      ∙ SubstOrder.parts_same_to (exps n) (exps_are n) (exps n) (exps_are n) s.ops laws.ring (values_are_set s laws) (suc o)
      (put n s (split_move n s c (suc o) (squares_in n s c f) f)) (λ i. (variable (exps n) i, s.ops.one) ∷ put_more i)
      (λ i g a q. ap (λ z. coefficient_in n s.ops z a) (put_is i g)) f m h

  module _ (start : StartsAtIn n s.ops 2 f) where
    pub below : SameToIn n s.ops o (split_off n s c (suc o) f) f
    below m h =
        split_is m (omega arith)
        ∙ SplitOff.unchanged (exps n) (exps_are n) s.ops laws.ring (values_are_set s laws) c belongs o two (λ w a e. (belongs_facts n c (suc o) w a e).0) (λ w a e. (belongs_facts n c (suc o) w a e).1) f inverse start m h

    -- a monomial without square variables keeps its coefficient
    pub pure_kept : IsSplitUpTo n s c 2 f → (m : ExpList n) → degree (exps n) m ≤ suc o → ((w : ℕ) → c ≤ w → w < n → (exps n).at m w ≡ 0)
        → coefficient_in n s.ops (split_off n s c (suc o) f) m ≡ coefficient_in n s.ops f m
    pure_kept split m h free =
        split_is m h
        ∙ SplitOff.kept (exps n) (exps_are n) s.ops laws.ring (values_are_set s laws) c belongs o two (λ w a e. (belongs_facts n c (suc o) w a e).0) (λ w a e. (belongs_facts n c (suc o) w a e).1) f inverse start split m h
        (λ w past inside. belongs_without n c (suc o) m w (free w past inside))

    pub keeps : c ≤ n → IsKeptBySplit n s c o f
    keeps fewer = record {
      below = below;
      squares = Residuals.squares_agree n s c (split_off n s c (suc o) f) f (λ m h. below m (omega arith));
      residual_part = λ split. Residuals.residual_agrees n c fewer s laws (suc o) (split_off n s c (suc o) f) f (λ b h.
          pure_kept split (Residuals.placed n c fewer s laws b) (let e = Residuals.degree-placed n c fewer s laws b in omega arith)
          (λ w past inside. Place.at-placed_past (exps n) (exps_are n) (exps c) (exps_are c) fewer b w past inside));
    }

    -- ---- over a field

    square_known : (w : ℕ) → c ≤ w → w < n → square_of w ≡ coefficient_in n s.ops f (plus (exps n) (variable (exps n) w) (variable (exps n) w))
    square_known w past inside =
        at_mapped (λ i. at n s f (pair_exponents n (c + i) (c + i))) (n - c) (w - c) s.ops.zero (omega arith)
        ∙ ap (λ j. at n s f (pair_exponents n j j)) (let e : c + (w - c) ≡ w = omega arith in e)
        ∙ ap (coefficient_in n s.ops f) (sym (square_is n w))

    each_is : {X : Type 0} (P : X → Type 0) (xs : List X) (i : ℕ) (d : X) → i < length xs → AllByRecursion P xs → P (get_or xs i d)
    each_is P [] i d h a = absurd (omega arith)
    each_is P (x ∷ xs) zero d h a = a.0
    each_is P (x ∷ xs) (suc i) d h a = each_is P xs i d (omega arith) a.1

    unit_known : HasInverses s → HasSquares n s c f → (w : ℕ) → c ≤ w → w < n
        → s.ops.mul (inverse w) (multiple s.ops 2 (coefficient_in n s.ops f (plus (exps n) (variable (exps n) w) (variable (exps n) w)))) ≡ s.ops.one
    unit_known inverts squares w past inside =
        ap (λ v. s.ops.mul (inverse w) (multiple s.ops 2 v)) (sym (square_known w past inside))
        ∙ half_is s laws inverts (square_of w)
        (each_is (λ v. v ≢ s.ops.zero) (squares_in n s c f) (w - c) s.ops.zero
        (let a = length-map (numbers_below (n - c)) (λ i. at n s f (pair_exponents n (c + i) (c + i))) in let b = length-numbers_below (n - c) in omega arith) squares)

    low_or_last : (d : ℕ) → d ≤ suc o → (d ≤ o) ⊎ (d ≡ suc o)
    low_or_last d h = grind arith

    down_to : (k : ℕ) → k ≤ o → IsSplitUpTo n s c o f → IsSplitUpTo n s c k f
    down_to k h split m w past inside has ne low = split m w past inside has ne (omega arith)

    pub splits : HasInverses s → IsSplitUpTo n s c o f → HasSquares n s c f → IsSplitUpTo n s c (suc o) (split_off n s c (suc o) f)
    splits inverts split squares m w past inside has ne h = elim (low_or_last (degree (exps n) m) h) [
      | inl g ↦ below m g ∙ split m w past inside has ne g
      | inr e ↦
          let first = first_from c ((exps n).at m) n w inside past has in
          split_is m h
          ∙ SplitOff.cleared (exps n) (exps_are n) s.ops laws.ring (values_are_set s laws) c belongs o two (λ w a e. (belongs_facts n c (suc o) w a e).0) (λ w a e. (belongs_facts n c (suc o) w a e).1) f inverse start (down_to 2 two split) m h
          first.place first.past first.inside (unit_known inverts squares first.place first.past first.inside) (belongs_first n c (suc o) m e first)
          (λ v ne p g. belongs_other n c (suc o) m first v ne p)
    ]
