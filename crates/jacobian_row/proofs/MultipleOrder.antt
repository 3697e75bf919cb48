-- The multiples of one variable are in the order of their factors.
use Rattle.std.proofs.Common.{◌≡◌, ℕ, zero, suc, ◌<◌, ◌≤◌, Bool, true, false, cond, leb, leb-true, List, [], ◌∷◌, ◌++◌, length, get_or, map, sum, refl, sym, ap, subst, ◌∙◌, arith}
use Rattle.std.specs.List.{filter}
use Rattle.std.proofs.lemmas.List.{get_or-map, length-map}
use Rattle.mono_exp.specs.Exponents.{IsIn, exponents, is_before, monomials_of, monomials_below, numbers_below}
use Rattle.mono_exp.proofs.Lists.{Each, each-append, each-map, each-weaker, each-flat_map, each-at, numbers_are_below}
use Rattle.mono_exp.proofs.Counting.{IsOf, count_below, place, places, rank_is_place, monomials_are_of}
use Rattle.mono_exp.proofs.NumberLemmas.{length-exponents, sum-exponents}
use Rattle.jet_poly.proofs.Output.{before-rank}
use Rattle.jacobian_row.specs.Multiples.{monomials_between, pairs_between, pair_of, AreMultiples}
use Rattle.jacobian_row.specs.declared.multiple.Multiple.{Multiple}
use Rattle.jacobian_row.proofs.MultipleLemmas.{blocks, from_low}

-- R holds of each element and each later one
abbrev pub Pairwise : {X : Type 0} → (X → X → Type 0) → List X → Type 0
Pairwise R [] = Unit {0}
Pairwise R (x ∷ xs) = Each (R x) xs × Pairwise R xs

module _ {X : Type 0} (R : X → X → Type 0) where
  each_right : (P : X → Type 0) (xs ys : List X) → Each P (xs ++ ys) → Each P ys
  each_right P [] ys h = h
  each_right P (x ∷ xs) ys h = each_right P xs ys h.1

  pub pairwise-append : (xs ys : List X) → Pairwise R xs → Pairwise R ys → Each (λ x. Each (R x) ys) xs → Pairwise R (xs ++ ys)
  pairwise-append [] ys p q h = q
  pairwise-append (x ∷ xs) ys p q h = (each-append (R x) xs ys p.0 h.0, pairwise-append xs ys p.1 q h.1)

  each-filter : (P : X → Type 0) (p : X → Bool) (xs : List X) → Each P xs → Each P (filter p xs)
  each-filter P p [] h = tt
  each-filter P p (x ∷ xs) h = step (p x) (each-filter P p xs h.1)
    where
      step : (b : Bool) → Each P (filter p xs) → Each P (cond b (x ∷ filter p xs) (filter p xs))
      step true r = (h.0, r)
      step false r = r

  pub pairwise-filter : (p : X → Bool) (xs : List X) → Pairwise R xs → Pairwise R (filter p xs)
  pairwise-filter p [] h = tt
  pairwise-filter p (x ∷ xs) h = step (p x) (pairwise-filter p xs h.1)
    where
      step : (b : Bool) → Pairwise R (filter p xs) → Pairwise R (cond b (x ∷ filter p xs) (filter p xs))
      step true r = (each-filter (R x) p xs h.0, r)
      step false r = r

  pub pairwise-at : (xs : List X) (i j : ℕ) (d : X) → i < j → j < length xs → Pairwise R xs → R (get_or xs i d) (get_or xs j d)
  pairwise-at [] i j d less within h = absurd (omega arith)
  pairwise-at (x ∷ xs) i zero d less within h = absurd (omega arith)
  pairwise-at (x ∷ xs) zero (suc j) d less within h = each-at (R x) xs j d (omega arith) h.0
  pairwise-at (x ∷ xs) (suc i) (suc j) d less within h = pairwise-at xs i j d (omega arith) (omega arith) h.1

numbers_rise : (n : ℕ) → Pairwise (λ i j. i < j) (numbers_below n)
numbers_rise zero = tt
numbers_rise (suc n) = pairwise-append (λ i j. i < j) (numbers_below n) (n ∷ []) (numbers_rise n) (tt, tt) (each-weaker (λ i. i < n) (λ i. Each (λ j. i < j) (n ∷ [])) (λ i h. (h, tt)) (numbers_below n) (numbers_are_below n))

pairwise-unmap : {X : Type 0} (f : X → ℕ) (xs : List X) → Pairwise (λ i j. i < j) (map f xs) → Pairwise (λ x y. f x < f y) xs
pairwise-unmap f [] h = tt
pairwise-unmap {X} f (x ∷ xs) h = (each-unmap xs h.0, pairwise-unmap f xs h.1)
  where
    each-unmap : (ys : List X) → Each (λ j. f x < j) (map f ys) → Each (λ y. f x < f y) ys
    each-unmap [] k = tt
    each-unmap (y ∷ ys) k = (k.0, each-unmap ys k.1)

-- ---- the pairs
abbrev Later : List ℕ × ℕ → List ℕ × ℕ → Type 0
Later p q = p.1 ≡ q.1 → place p.0 < place q.0

block_rises : (a : List ℕ) (is : List ℕ) → Pairwise (λ i j. i < j) is → Pairwise Later (map (λ i. (a, i)) is)
block_rises a [] h = tt
block_rises a (i ∷ is) h =
    (each-map (λ q. Later (a, i) q) (λ j. (a, j)) is (each-weaker (λ j. i < j) (λ j. Later (a, i) (a, j)) (λ j less e. let bad : ⊥ = omega (arith, less, e) in absurd bad) is h.0), block_rises a is h.1)

blocks_rise : (n : ℕ) (ms : List (List ℕ)) → Pairwise (λ a b. place a < place b) ms → Pairwise Later (blocks n ms)
blocks_rise n [] h = tt
blocks_rise n (a ∷ ms) h =
    pairwise-append Later (map (λ i. (a, i)) (numbers_below n)) (blocks n ms) (block_rises a (numbers_below n) (numbers_rise n)) (blocks_rise n ms h.1)
    (each-map (λ p. Each (Later p) (blocks n ms)) (λ i. (a, i)) (numbers_below n) (each-weaker (λ i. i < n) (λ i. Each (Later (a, i)) (blocks n ms)) (λ i low. all i) (numbers_below n) (numbers_are_below n)))
  where
    all : (i : ℕ) → Each (Later (a, i)) (blocks n ms)
    all i = each-flat_map (λ b. place a < place b) (Later (a, i)) (λ b. map (λ i. (b, i)) (numbers_below n))
        (λ b less. each-map (Later (a, i)) (λ j. (b, j)) (numbers_below n) (each-weaker (λ j. j < n) (λ j. Later (a, i) (b, j)) (λ j low e. less) (numbers_below n) (numbers_are_below n)))
        ms h.0

pairs_rise : (n low high : ℕ) → Pairwise Later (pairs_between n low high)
unfolding monomials_between
pairs_rise n low high =
    blocks_rise n (from_low low (monomials_below n (suc high)))
    (pairwise-filter (λ a b. place a < place b) (λ a. leb low (sum a)) (monomials_below n (suc high))
    (pairwise-unmap place (monomials_below n (suc high)) (subst (Pairwise (λ i j. i < j)) (sym (places n (suc high))) (numbers_rise (count_below n (suc high))))))

-- what holds of the pairs
pub record IsPairOf (n low high : ℕ) (p : List ℕ × ℕ) : Type 0 where
  pub long : length p.0 ≡ n
  pub from : low ≤ sum p.0
  pub to : sum p.0 ≤ high
  pub variable : p.1 < n

pub pairs_are : (n low high : ℕ) → Each (IsPairOf n low high) (pairs_between n low high)
unfolding monomials_between monomials_below
pairs_are n low high =
    each-flat_map (λ a. (length a ≡ n) × (low ≤ sum a) × (sum a ≤ high)) (IsPairOf n low high) (λ a. map (λ i. (a, i)) (numbers_below n))
    (λ a h. each-map (IsPairOf n low high) (λ i. (a, i)) (numbers_below n)
    (each-weaker (λ i. i < n) (λ i. IsPairOf n low high (a, i)) (λ i v. record { long = h.0; from = h.1; to = h.2; variable = v }) (numbers_below n) (numbers_are_below n)))
    (from_low low (monomials_below n (suc high)))
    (kept (monomials_below n (suc high))
    (each-flat_map (λ j. j < suc high) (λ a. (length a ≡ n) × (sum a ≤ high)) (monomials_of n)
    (λ j less. each-weaker (IsOf n j) (λ a. (length a ≡ n) × (sum a ≤ high)) (λ a o. (o.long, (let e = o.degree in omega arith))) (monomials_of n j) (monomials_are_of n j)) (numbers_below (suc high)) (numbers_are_below (suc high))))
  where
    kept : (xs : List (List ℕ)) → Each (λ a. (length a ≡ n) × (sum a ≤ high)) xs → Each (λ a. (length a ≡ n) × (low ≤ sum a) × (sum a ≤ high)) (from_low low xs)
    kept [] h = tt
    kept (x ∷ xs) h = step (leb low (sum x)) refl (kept xs h.1)
      where
        step : (b : Bool) → leb low (sum x) ≡ b → Each (λ a. (length a ≡ n) × (low ≤ sum a) × (sum a ≤ high)) (from_low low xs) → Each (λ a. (length a ≡ n) × (low ≤ sum a) × (sum a ≤ high)) (cond b (x ∷ from_low low xs) (from_low low xs))
        step true e r = ((h.0.0, leb-true low (sum x) e, h.0.1), r)
        step false e r = r

-- ---- the multiples
module _ (n low high : ℕ) (ms : List Multiple) (are : AreMultiples n low high ms) where
  pair_at : (j : ℕ) (d : Multiple) → j < length ms → pair_of n (get_or ms j d) ≡ get_or (pairs_between n low high) j (pair_of n d)
  pair_at j d within = sym (get_or-map (pair_of n) ms j d (pair_of n d) within) ∙ ap (λ z. get_or z j (pair_of n d)) are.list

  length_is : length (pairs_between n low high) ≡ length ms
  length_is = sym (ap length are.list) ∙ length-map ms (pair_of n)

  unused_at : (j : ℕ) (d : Multiple) → j < length ms → IsIn n (get_or ms j d).factor.e
  unused_at j d within = are.unused j d within

  pub pair_is : (j : ℕ) (d : Multiple) → j < length ms → IsPairOf n low high (pair_of n (get_or ms j d))
  pair_is j d within = subst (IsPairOf n low high) (sym (pair_at j d within)) (each-at (IsPairOf n low high) (pairs_between n low high) j (pair_of n d) (let e = length_is in omega arith) (pairs_are n low high))

  -- the degree of a factor
  pub factor_from : (j : ℕ) (d : Multiple) → j < length ms → low ≤ sum (get_or ms j d).factor.e
  factor_from j d within = subst (λ s. low ≤ s) (sum-exponents n (get_or ms j d).factor.e (unused_at j d within)) (pair_is j d within).from

  pub factor_to : (j : ℕ) (d : Multiple) → j < length ms → sum (get_or ms j d).factor.e ≤ high
  factor_to j d within = subst (λ s. s ≤ high) (sum-exponents n (get_or ms j d).factor.e (unused_at j d within)) (pair_is j d within).to

  -- the factors of one variable rise
  pub factors_rise : n ≤ 8 → (i j : ℕ) (d : Multiple) → i < j → j < length ms → (get_or ms i d).variable ≡ (get_or ms j d).variable → is_before (get_or ms i d).factor.e (get_or ms j d).factor.e ≡ true
  factors_rise small i j d less within same =
      let inside : i < length ms = omega arith in
      let a = (get_or ms i d).factor.e in
      let b = (get_or ms j d).factor.e in
      let later : Later (pair_of n (get_or ms i d)) (pair_of n (get_or ms j d)) =
      subst (λ p. Later p (pair_of n (get_or ms j d))) (sym (pair_at i d inside))
      (subst (λ p. Later (get_or (pairs_between n low high) i (pair_of n d)) p) (sym (pair_at j d within))
      (pairwise-at Later (pairs_between n low high) i j (pair_of n d) less (let e = length_is in omega arith) (pairs_rise n low high))) in
      let h = later same in
      let p = rank_is_place n (exponents n a) (length-exponents n a) in
      let q = rank_is_place n (exponents n b) (length-exponents n b) in
      before-rank n a b small (are.long i d inside) (are.long j d within) (unused_at i d inside) (unused_at j d within) (omega arith)
