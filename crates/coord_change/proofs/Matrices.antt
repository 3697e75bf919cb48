-- Matrices that stand row after row.
use Rattle.std.proofs.Common.{◌≡◌, ℕ, zero, suc, ◌+◌, ◌*◌, ◌/◌, ◌%◌, ◌<◌, ◌≤◌, ◌^◌, inl, inr, List, [], ◌∷◌, ◌++◌, map, length, get_or, mul_comm, ap, ap₂, sym, ◌∙◌, refl, subst, append_assoc, arith}
use Rattle.std.proofs.lemmas.Nat.{div-mul-add, mod-mul-add}
use Rattle.std.proofs.Math.Nat.{mul-le-mul_left, mod-lt, div-lt_iff_lt-mul}
use Rattle.std.proofs.lemmas.List.{map-append}
use Rattle.ring_theory.specs.Ring.{IsCommRing}
use Rattle.ring_theory.specs.Scalars.{Scalars, Meaning, SumIsHigh, sum_of}
use Rattle.ring_theory.proofs.Sums.{sum_of-push, next_high}
use Rattle.poly_law.specs.Sums.{sum_to}
use Rattle.mono_exp.specs.Exponents.{numbers_below}
use Rattle.jet_subst.proofs.Tables.{at-map}
use Rattle.jet_subst.proofs.PowerLemmas.{at-append, at-last, before_or_last}
use Rattle.coord_change.specs.Changes.{entry_of}

-- a place in the matrix
pub place_inside : (n i j : ℕ) → i < n → j < n → n * i + j < n * n
place_inside n i j h g = let e : n * suc i ≤ n * n = mul-le-mul_left {m = suc i} {n = n} n (omega arith) in let s = mul-next n i in omega arith
  where
    mul-next : (n i : ℕ) → n * suc i ≡ n * i + n
    mul-next n i = grind arith

-- the row and the column of a place
pub column_inside : (n k : ℕ) → 0 < n → k % n < n
column_inside n k h = mod-lt k {m = n} h

pub row_inside : (n k : ℕ) → 0 < n → k < n * n → k / n < n
row_inside n k h g = (div-lt_iff_lt-mul {k = n} {x = k} {y = n} h).1 g

pub element : {X : Type 0} (xs : List X) (k : ℕ) → k < length xs → (x : X) × (x ≡ get_or xs k x)
element [] k h = absurd (omega arith)
element (x ∷ xs) zero h = (x, refl)
element (x ∷ xs) (suc k) h = element xs k (omega arith)

module _ {E V : Type 0} (m : Meaning E V) where
  -- an entry that was read
  pub entry_read : (n : ℕ) (items : List E) (i j : ℕ) (e : E) → n * i + j < length items → e ≡ get_or items (n * i + j) e → entry_of m n items i j ≡ m.value e
  entry_read n items i j e h q = at-map m.value items (n * i + j) e h q m.scalars.ops.zero

  -- entries by their places
  pub entries_are : (n : ℕ) (items : List E) (w : ℕ → ℕ → V) → length items ≡ n * n → ((k : ℕ) (d : E) → k < n * n → m.value (get_or items k d) ≡ w (k / n) (k % n))
      → (i j : ℕ) → i < n → j < n → entry_of m n items i j ≡ w i j
  entries_are n items w size each i j h g =
      let inside : n * i + j < length items = let p = place_inside n i j h g in omega arith in
      let x : (x : E) × (x ≡ get_or items (n * i + j) x) = element items (n * i + j) inside in
      entry_read n items i j x.0 inside x.1
      ∙ ap m.value x.1 ∙ each (n * i + j) x.0 (place_inside n i j h g)
      ∙ ap₂ w (ap (λ z. (z + j) / n) (mul_comm n i) ∙ div-mul-add i n j g) (ap (λ z. (z + j) % n) (mul_comm n i) ∙ mod-mul-add i n j g)

  -- one entry more
  pub entries_more : (all new : List E) (entry : E) (w : ℕ → V) (place : ℕ) → length all ≡ place → new ≡ all ++ entry ∷ [] → m.value entry ≡ w place
      → ((k : ℕ) (d : E) → k < place → m.value (get_or all k d) ≡ w k) → (k : ℕ) (d : E) → k < place + 1 → m.value (get_or new k d) ≡ w k
  entries_more all new entry w place size items value old k d h =
      ap (λ z. m.value (get_or z k d)) items ∙ elim (before_or_last k place h) [
        | inl b ↦ ap m.value (at-append all entry d k (omega arith)) ∙ old k d b
        | inr q ↦ ap (λ z. m.value (get_or (all ++ entry ∷ []) z d)) (q ∙ sym size) ∙ ap m.value (at-last all entry d) ∙ value ∙ ap w (sym q)
      ]

module _ {V : Type 0} (s : Scalars V) (c : IsCommRing s.ops) (w : ℕ → V) where
  -- the sum of w(0), .., w(n - 1)
  sum-numbers : (n : ℕ) → sum_of s.ops (map w (numbers_below n)) ≡ sum_to s.ops n w
  sum-numbers zero = refl
  sum-numbers (suc n) = ap (sum_of s.ops) (map-append w (numbers_below n) (n ∷ [])) ∙ sum_of-push s c (map w (numbers_below n)) (w n) ∙ ap (λ z. s.ops.add z (w n)) (sum-numbers n)

  -- the numbers below n are those below t, t and others
  rest_of : (n t : ℕ) → t < n → (rest : List ℕ) × (numbers_below n ≡ numbers_below t ++ t ∷ rest)
  rest_of zero t h = absurd (omega arith)
  rest_of (suc n) t h = elim (before_or_last t n (omega arith)) [
    | inl b ↦ let r : (rest : List ℕ) × (numbers_below n ≡ numbers_below t ++ t ∷ rest) = rest_of n t b in
        (r.0 ++ n ∷ [], ap (λ z. z ++ n ∷ []) r.1 ∙ append_assoc (numbers_below t) (t ∷ r.0) (n ∷ []))
    | inr q ↦ ([], ap (λ z. numbers_below z ++ z ∷ []) (sym q))
  ]

  -- the sum so far and the next number: the whole sum is high
  pub sum_high : (n t : ℕ) → t < n → SumIsHigh s (sum_to s.ops t w) (w t) → 2 ^ 120 ≤ s.sum_height (map w (numbers_below n))
  sum_high n t h high =
      let r : (rest : List ℕ) × (numbers_below n ≡ numbers_below t ++ t ∷ rest) = rest_of n t h in
      subst (λ z. 2 ^ 120 ≤ s.sum_height z) (sym (ap (map w) r.1 ∙ map-append w (numbers_below t) (t ∷ r.0)))
      (next_high s c (map w (numbers_below t)) (w t) (map w r.0) (subst (λ z. SumIsHigh s z (w t)) (sym (sum-numbers t)) high))
