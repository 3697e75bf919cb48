-- Where the letters that the leads of a part are divided by are not zero, nor for J10 the discriminant, nothing that they are divided by is zero: by the table.
use Rattle.std.proofs.Common.{◌≡◌, ◌≢◌, ℕ, zero, suc, ℤ, pos, negsuc, ◌*◌, ◌<◌, ◌≤◌, ◌⊎◌, inl, inr, Bool, true, false, ◌&&◌, eqb, eqb-true, ltb, ltb-true, List, [], ◌∷◌, drop, get_or, refl, sym, ap, ap₂, subst, ◌∙◌, arith}
use Rattle.std.specs.List.{list_all}
use Rattle.std.proofs.lemmas.Int.{ints}
use Rattle.ring_theory.specs.Rational.{rational, rational_mul}
use Rattle.ring_theory.specs.Scalars.{Scalars, ScalarLaws, HasInverses}
use Rattle.ring_theory.proofs.RationalLaws.{unique, rational_is, mul_is}
use Rattle.ring_theory.proofs.RingSolver.{zero_mul, one_mul}
use Rattle.ring_theory.proofs.RingReify.{by_ring, reify}
use Rattle.poly_law.specs.Sums.{power}
use Rattle.ring_formula.specs.Formulas.{formula_value, summand_value, multiplied}
use Rattle.kill_law.specs.declared.lead.Product.{Product}
use Rattle.kill_law.specs.declared.lead.Divisor.{Divisor}
use Rattle.kill_law.specs.declared.lead.Divisor.TheVariants as divisors
use Rattle.kill_law.specs.declared.lead.Lead.{Lead}
use Rattle.kill_law.specs.declared.part.Part.{Part}
use Rattle.kill_law.specs.declared.part.Part.TheVariants as parts
use Rattle.kill_law.specs.Table.{row}
use Rattle.kill_law.specs.Kill.{divisor_value, summand_of}
use Rattle.kill_law.specs.Leads.{entries_of}
use Rattle.kill_law.proofs.LeadEquations.{and_left, and_right}
use Rattle.kill_table.specs.Divisors.{HasNonzeroDivisors, UnitsAreEnough, letter, discriminant}
use Rattle.kill_table.proofs.Table.{passes, only-in}

-- ---- the table

abbrev number : ℤ → ℕ
number (pos k) = k
number (negsuc k) = 0

number-is : (z : ℤ) → 0 < number z → z ≡ pos (number z)
number-is (pos k) h = refl
number-is (negsuc k) h = absurd (omega arith)

-- a positive number times powers of the first k letters
abbrev product_fits : ℕ → Product → Bool
product_fits k p = ltb 0 (number p.0) && list_all (λ e. eqb e 0) (drop k p.1)

abbrev has_exponents : ℕ → ℕ → ℕ → Product → Bool
has_exponents i j k p = eqb (get_or p.1 0 0) i && (eqb (get_or p.1 1 0) j && eqb (get_or p.1 2 0) k)

-- a multiple of the discriminant
abbrev sum_fits : Product → Product → Bool
sum_fits p q = (ltb 0 (number p.0) && eqb (27 * number p.0) (4 * number q.0)) && (has_exponents 0 3 0 p && has_exponents 1 0 2 q)

abbrev plain_fits : ℕ → Divisor → Bool
plain_fits k (divisors.One p) = product_fits k p
plain_fits k (divisors.Two p q) = false

abbrev regular_fits : Divisor → Bool
regular_fits (divisors.One p) = product_fits 1 p
regular_fits (divisors.Two p q) = sum_fits p q

abbrev all_fit : (Divisor → Bool) → List Lead → Bool
all_fit fits leads = list_all (λ l. list_all (λ e. fits e.divisor) (entries_of l)) leads

-- ---- values that are not zero

module _ {V : Type 0} (s : Scalars V) (laws : ScalarLaws s) (inverts : HasInverses s) where
  abbrev num : ℕ → V
  num k = s.rational (rational (pos k) 1)

  num-mul : (j k : ℕ) → num (j * k) ≡ s.ops.mul (num j) (num k)
  num-mul j k = ap s.rational (unique (rational_is (pos (j * k)) 1 (omega arith)) (mul_is (rational_is (pos j) 1 (omega arith)) (rational_is (pos k) 1 (omega arith))) refl) ∙ laws.embeds.mul _ _

  whole_inverse : (k : ℕ) → 0 < k → rational_mul (rational (pos k) 1) (rational (pos 1) k) ≡ rational (pos 1) 1
  whole_inverse k h = unique (mul_is (rational_is (pos k) 1 (omega arith)) (rational_is (pos 1) k h)) (rational_is (pos 1) 1 (omega arith)) (omega (arith, ints))

  num-nonzero : (k : ℕ) → 0 < k → num k ≢ s.ops.zero
  num-nonzero k h e =
      laws.nontrivial (sym laws.embeds.one ∙ ap s.rational (sym (whole_inverse k h)) ∙ laws.embeds.mul _ _ ∙ ap (λ z. s.ops.mul z (s.rational (rational (pos 1) k))) e ∙ zero_mul s.ops laws.ring _)

  product-nonzero : (v w : V) → v ≢ s.ops.zero → w ≢ s.ops.zero → s.ops.mul v w ≢ s.ops.zero
  product-nonzero v w n m e =
      m (sym (one_mul s.ops laws.ring w) ∙ ap (λ z. s.ops.mul z w) (sym (inverts.mul_inverse v n) ∙ laws.ring.mul_comm _ _) ∙ laws.ring.mul_assoc _ _ _ ∙ ap (s.ops.mul (s.inverse v)) e
      ∙ laws.ring.mul_comm _ _ ∙ zero_mul s.ops laws.ring _)

  power-nonzero : (v x : V) (k : ℕ) → v ≢ s.ops.zero → (k ≡ 0) ⊎ (x ≢ s.ops.zero) → multiplied s v x k ≢ s.ops.zero
  power-nonzero v x zero n h = n
  power-nonzero v x (suc k) n (inl h) = absurd (omega arith)
  power-nonzero v x (suc k) n (inr h) = product-nonzero (multiplied s v x k) x (power-nonzero v x k n (inr h)) h

  module _ (a b c : V) where
    abbrev letters : List V
    letters = a ∷ b ∷ c ∷ []

    summand-nonzero : (p : Product) → 0 < number p.0 → ((i : ℕ) → (get_or p.1 i 0 ≡ 0) ⊎ (letter s letters i ≢ s.ops.zero)) → summand_value s letters (summand_of p) ≢ s.ops.zero
    summand-nonzero p h free =
        let n0 : s.rational (rational p.0 1) ≢ s.ops.zero = subst (λ z. s.rational (rational z 1) ≢ s.ops.zero) (sym (number-is p.0 h)) (num-nonzero (number p.0) h) in
        let n1 = power-nonzero (s.rational (rational p.0 1)) a (get_or p.1 0 0) n0 (free 0) in
        let n2 = power-nonzero _ b (get_or p.1 1 0) n1 (free 1) in
        power-nonzero _ c (get_or p.1 2 0) n2 (free 2)

    product-divides : (k : ℕ) → ((i : ℕ) → i < k → letter s letters i ≢ s.ops.zero) → (p : Product) → product_fits k p ≡ true → divisor_value s letters (divisors.One p) ≢ s.ops.zero
    unfolding formula_value
    product-divides k units p h e =
        let positive = ltb-true 0 (number p.0) (and_left (ltb 0 (number p.0)) (list_all (λ e. eqb e 0) (drop k p.1)) h) in
        let none = only-in k p.1 (and_right (ltb 0 (number p.0)) (list_all (λ e. eqb e 0) (drop k p.1)) h) in
        summand-nonzero p positive (λ i. free i none (either i)) (sym (laws.ring.add_zero _) ∙ e)
      where
        either : (i : ℕ) → (i < k) ⊎ (k ≤ i)
        either i = grind arith

        free : (i : ℕ) → ((i : ℕ) → k ≤ i → get_or p.1 i 0 ≡ 0) → (i < k) ⊎ (k ≤ i) → (get_or p.1 i 0 ≡ 0) ⊎ (letter s letters i ≢ s.ops.zero)
        free i none (inl g) = inr (units i g)
        free i none (inr g) = inl (none i g)

    -- a summand with known exponents
    summand-is : (i j k : ℕ) (p : Product) → 0 < number p.0 → has_exponents i j k p ≡ true
        → summand_value s letters (summand_of p) ≡ multiplied s (multiplied s (multiplied s (num (number p.0)) a i) b j) c k
    summand-is i j k p h g =
        let e0 = eqb-true (get_or p.1 0 0) i (and_left (eqb (get_or p.1 0 0) i) (eqb (get_or p.1 1 0) j && eqb (get_or p.1 2 0) k) g) in
        let rest = and_right (eqb (get_or p.1 0 0) i) (eqb (get_or p.1 1 0) j && eqb (get_or p.1 2 0) k) g in
        let e1 = eqb-true (get_or p.1 1 0) j (and_left (eqb (get_or p.1 1 0) j) (eqb (get_or p.1 2 0) k) rest) in
        let e2 = eqb-true (get_or p.1 2 0) k (and_right (eqb (get_or p.1 1 0) j) (eqb (get_or p.1 2 0) k) rest) in
        ap₂ (λ z i. multiplied s (multiplied s (multiplied s (s.rational (rational z 1)) a i) b (get_or p.1 1 0)) c (get_or p.1 2 0)) (number-is p.0 h) e0
        ∙ ap₂ (λ j k. multiplied s (multiplied s (multiplied s (num (number p.0)) a i) b j) c k) e1 e2

    cubes-is : (v : V) → multiplied s (multiplied s (multiplied s v a 0) b 3) c 0 ≡ s.ops.mul v (power s.ops b 3)
    cubes-is v = by_ring laws.ring (v ∷ b ∷ []) (search reify depth 40) tt

    squares-is : (v : V) → multiplied s (multiplied s (multiplied s v a 1) b 0) c 2 ≡ s.ops.mul v (s.ops.mul a (power s.ops c 2))
    squares-is v = by_ring laws.ring (v ∷ a ∷ c ∷ []) (search reify depth 40) tt

    opened : (x n4 n27 u w : V) → s.ops.mul x (s.ops.add (s.ops.mul n4 u) (s.ops.mul n27 w)) ≡ s.ops.add (s.ops.mul n4 (s.ops.mul x u)) (s.ops.mul (s.ops.mul n27 x) w)
    opened x n4 n27 u w = by_ring laws.ring (x ∷ n4 ∷ n27 ∷ u ∷ w ∷ []) (search reify depth 40) tt

    closed : (x y n4 u w : V) → s.ops.add (s.ops.mul n4 (s.ops.mul x u)) (s.ops.mul (s.ops.mul n4 y) w) ≡ s.ops.mul n4 (s.ops.add (s.ops.mul x u) (s.ops.add (s.ops.mul y w) s.ops.zero))
    closed x y n4 u w = by_ring laws.ring (x ∷ y ∷ n4 ∷ u ∷ w ∷ []) (search reify depth 40) tt

    -- a multiple of the discriminant is not zero
    sum-divides : discriminant s letters ≢ s.ops.zero → (p q : Product) → sum_fits p q ≡ true → divisor_value s letters (divisors.Two p q) ≢ s.ops.zero
    unfolding formula_value
    sum-divides regular p q h e =
        let numbers = and_left (ltb 0 (number p.0) && eqb (27 * number p.0) (4 * number q.0)) (has_exponents 0 3 0 p && has_exponents 1 0 2 q) h in
        let exponents = and_right (ltb 0 (number p.0) && eqb (27 * number p.0) (4 * number q.0)) (has_exponents 0 3 0 p && has_exponents 1 0 2 q) h in
        let positive = ltb-true 0 (number p.0) (and_left (ltb 0 (number p.0)) (eqb (27 * number p.0) (4 * number q.0)) numbers) in
        let twin = eqb-true (27 * number p.0) (4 * number q.0) (and_right (ltb 0 (number p.0)) (eqb (27 * number p.0) (4 * number q.0)) numbers) in
        let first = summand-is 0 3 0 p positive (and_left (has_exponents 0 3 0 p) (has_exponents 1 0 2 q) exponents) ∙ cubes-is (num (number p.0)) in
        let second = summand-is 1 0 2 q (let t = twin in let g = positive in omega arith) (and_right (has_exponents 0 3 0 p) (has_exponents 1 0 2 q) exponents) ∙ squares-is (num (number q.0)) in
        let u = power s.ops b 3 in
        let w = s.ops.mul a (power s.ops c 2) in
        product-nonzero (num (number p.0)) (discriminant s letters) (num-nonzero (number p.0) positive) regular
        (opened (num (number p.0)) (num 4) (num 27) u w
        ∙ ap (λ z. s.ops.add (s.ops.mul (num 4) (s.ops.mul (num (number p.0)) u)) (s.ops.mul z w)) (sym (num-mul 27 (number p.0)) ∙ ap num twin ∙ num-mul 4 (number q.0))
        ∙ closed (num (number p.0)) (num (number q.0)) (num 4) u w
        ∙ ap (s.ops.mul (num 4)) (ap₂ (λ y z. s.ops.add y (s.ops.add z s.ops.zero)) (sym first) (sym second) ∙ e)
        ∙ laws.ring.mul_comm _ _ ∙ zero_mul s.ops laws.ring _)

    -- ---- the parts

    plain-divides : (k : ℕ) → ((i : ℕ) → i < k → letter s letters i ≢ s.ops.zero) → (d : Divisor) → plain_fits k d ≡ true → divisor_value s letters d ≢ s.ops.zero
    plain-divides k units (divisors.One p) h = product-divides k units p h
    plain-divides k units (divisors.Two p q) h = absurd (cc h)

    regular-divides : ((i : ℕ) → i < 1 → letter s letters i ≢ s.ops.zero) → discriminant s letters ≢ s.ops.zero → (d : Divisor) → regular_fits d ≡ true → divisor_value s letters d ≢ s.ops.zero
    regular-divides units regular (divisors.One p) h = product-divides 1 units p h
    regular-divides units regular (divisors.Two p q) h = sum-divides regular p q h

    all-divide : (fits : Divisor → Bool) → ((d : Divisor) → fits d ≡ true → divisor_value s letters d ≢ s.ops.zero) → (p : Part) → all_fit fits (row p).leads ≡ true → HasNonzeroDivisors s letters p
    all-divide fits divide p h l among e inside =
        divide e.divisor (passes (λ e. fits e.divisor) (entries_of l) e (passes (λ l. list_all (λ e. fits e.divisor) (entries_of l)) (row p).leads l h among) inside)

    by_letters : (p : Part) (k : ℕ) → all_fit (plain_fits k) (row p).leads ≡ true → ((i : ℕ) → i < k → letter s letters i ≢ s.ops.zero) → HasNonzeroDivisors s letters p
    by_letters p k h units = all-divide (plain_fits k) (plain-divides k units) p h

  pub units_are_enough : UnitsAreEnough s
  unfolding row
  units_are_enough parts.D4 a b c h = by_letters a b c parts.D4 2 refl h.nonzero
  units_are_enough parts.D a b c h = by_letters a b c parts.D 1 refl h.nonzero
  units_are_enough parts.J a b c h = by_letters a b c parts.J 1 refl h.nonzero
  units_are_enough parts.X9 a b c h = by_letters a b c parts.X9 0 refl h.nonzero
  units_are_enough parts.X a b c h = by_letters a b c parts.X 2 refl h.nonzero
  units_are_enough parts.Y a b c h = by_letters a b c parts.Y 1 refl h.nonzero
  units_are_enough parts.Z a b c h = by_letters a b c parts.Z 1 refl h.nonzero
  units_are_enough parts.W a b c h = by_letters a b c parts.W 1 refl h.nonzero
  units_are_enough parts.P8 a b c h = by_letters a b c parts.P8 0 refl h.nonzero
  units_are_enough parts.Q a b c h = by_letters a b c parts.Q 2 refl h.nonzero
  units_are_enough parts.S a b c h = by_letters a b c parts.S 2 refl h.nonzero
  units_are_enough parts.U a b c h = by_letters a b c parts.U 2 refl h.nonzero
  units_are_enough parts.T a b c h = by_letters a b c parts.T 1 refl h.nonzero
  units_are_enough parts.E6 a b c h = by_letters a b c parts.E6 2 refl h.nonzero
  units_are_enough parts.E7 a b c h = by_letters a b c parts.E7 2 refl h.nonzero
  units_are_enough parts.E8 a b c h = by_letters a b c parts.E8 2 refl h.nonzero
  units_are_enough parts.J10 a b c h = all-divide a b c regular_fits (regular-divides a b c h.nonzero (h.regular refl)) parts.J10 refl
  units_are_enough parts.E12 a b c h = by_letters a b c parts.E12 2 refl h.nonzero
  units_are_enough parts.E13 a b c h = by_letters a b c parts.E13 2 refl h.nonzero
  units_are_enough parts.E14 a b c h = by_letters a b c parts.E14 2 refl h.nonzero
  units_are_enough parts.Z11 a b c h = by_letters a b c parts.Z11 2 refl h.nonzero
  units_are_enough parts.Z12 a b c h = by_letters a b c parts.Z12 2 refl h.nonzero
  units_are_enough parts.Z13 a b c h = by_letters a b c parts.Z13 2 refl h.nonzero
  units_are_enough parts.W12 a b c h = by_letters a b c parts.W12 2 refl h.nonzero
  units_are_enough parts.W13 a b c h = by_letters a b c parts.W13 2 refl h.nonzero
  units_are_enough parts.Q10 a b c h = by_letters a b c parts.Q10 3 refl h.nonzero
  units_are_enough parts.Q11 a b c h = by_letters a b c parts.Q11 3 refl h.nonzero
  units_are_enough parts.Q12 a b c h = by_letters a b c parts.Q12 3 refl h.nonzero
  units_are_enough parts.S11 a b c h = by_letters a b c parts.S11 3 refl h.nonzero
  units_are_enough parts.S12 a b c h = by_letters a b c parts.S12 3 refl h.nonzero
  units_are_enough parts.U12 a b c h = by_letters a b c parts.U12 3 refl h.nonzero
  units_are_enough parts.JT a b c h = by_letters a b c parts.JT 2 refl h.nonzero
