-- Numbers of monomials: the place of a monomial among all, by a sum of numbers of monomials of lower degrees.
use Rattle.std.proofs.Common.{◌≡◌, ℕ, zero, suc, ◌+◌, ◌-◌, ◌<◌, ◌≤◌, ◌⊎◌, inl, inr, Bool, true, false, ◌&&◌, ◌||◌, ltb, eqb, List, [], ◌∷◌, ◌++◌, map, length, sum, refl, sym, ap, ap₂, subst, ◌∙◌, arith}
use Rattle.std.specs.List.{filter, flat_map}
use Rattle.std.proofs.lemmas.Bool.{lt-ltb, le-ltb, ltb-true, eqb-true, eq-eqb}
use Rattle.std.proofs.lemmas.List.{map-append}
use Rattle.mono_exp.specs.Exponents.{is_before, is_greater_first, numbers_below, monomials_of, monomials_below, rank_of}
use Rattle.mono_exp.proofs.Lists.{Each, each-map, each-weaker, each-flat_map, map-same, map-map, flat_map-append, map-flat_map, flat_map-same, numbers_are_below, numbers_below-add, length-numbers_below, filter-numbers_below, sum-cons, length-filter-map, filter-same}

-- f 0 + .. + f (d - 1)
abbrev pub sum_below : (ℕ → ℕ) → ℕ → ℕ
sum_below f zero = 0
sum_below f (suc d) = sum_below f d + f d

-- how many monomials in n variables have degree below d
unfoldable pub count_below : ℕ → ℕ → ℕ
count_below zero zero = 0
count_below zero (suc d) = 1
count_below (suc n) d = sum_below (λ i. count_below n (suc i)) d

-- how many monomials in as many variables as the list is long stand before these exponents
unfoldable pub place : List ℕ → ℕ
place [] = 0
place (x ∷ m) = count_below (suc (length m)) (x + sum m) + place m

-- one degree more
pub count-more : (n d : ℕ) → count_below (suc n) (suc d) ≡ count_below (suc n) d + count_below n (suc d)
unfolding count_below
count-more n d = refl

pub count-none : (n : ℕ) → count_below n 0 ≡ 0
unfolding count_below
count-none zero = refl
count-none (suc n) = refl

pub count-one : (d : ℕ) → count_below 0 (suc d) ≡ 1
unfolding count_below
count-one d = refl

count-suc-le : (n d : ℕ) → count_below n d ≤ count_below n (suc d)
count-suc-le zero zero = let e = count-none 0 in omega arith
count-suc-le zero (suc d) = let e = count-one d in let e' = count-one (suc d) in omega arith
count-suc-le (suc n) d = let e = count-more n d in omega arith

-- there are more of higher degree
pub count-le : (n c d : ℕ) → c ≤ d → count_below n c ≤ count_below n d
count-le n c zero h = let e : c ≡ 0 = omega arith in subst (λ k. count_below n k ≤ count_below n 0) (sym e) (omega arith)
count-le n c (suc d) h = step (count-le n c d) (cases c d h)
  where
    cases : (c d : ℕ) → c ≤ suc d → (c ≤ d) ⊎ (c ≡ suc d)
    cases c d h = grind arith

    step : (c ≤ d → count_below n c ≤ count_below n d) → (c ≤ d) ⊎ (c ≡ suc d) → count_below n c ≤ count_below n (suc d)
    step before (inl l) = let a = before l in let b = count-suc-le n d in omega arith
    step before (inr e) = subst (λ k. count_below n k ≤ count_below n (suc d)) (sym e) (omega arith)

pub place-cons : (x : ℕ) (m : List ℕ) → place (x ∷ m) ≡ count_below (suc (length m)) (x + sum m) + place m
unfolding place
place-cons x m = refl

pub place-none : place [] ≡ 0
unfolding place
place-none = refl

-- a place lies among those of its degree
pub place_at_least : (m : List ℕ) → count_below (length m) (sum m) ≤ place m
place_at_least [] = let e = count-none 0 in omega arith
place_at_least (x ∷ m) =
    let e = place-cons x m in
    let s = sum-cons x m in
    subst (λ k. count_below (suc (length m)) k ≤ place (x ∷ m)) (sym s) (omega arith)

pub place_below : (m : List ℕ) → place m < count_below (length m) (suc (sum m))
place_below [] = let e = count-one 0 in let e' = place-none in omega arith
place_below (x ∷ m) =
    let e = place-cons x m in
    let s = sum-cons x m in
    let c = count-more (length m) (x + sum m) in
    let low = place_below m in
    let up = count-le (length m) (suc (sum m)) (suc (x + sum m)) (omega arith) in
    subst (λ k. place (x ∷ m) < count_below (suc (length m)) (suc k)) (sym s) (omega arith)

-- a lower degree, a lower place
place-degree : (a b : List ℕ) → length a ≡ length b → sum a < sum b → place a < place b
place-degree a b l h =
    let x = place_below a in
    let y = place_at_least b in
    let z = count-le (length a) (suc (sum a)) (sum b) h in
    let y' : count_below (length a) (sum b) ≤ place b = subst (λ k. count_below k (sum b) ≤ place b) (sym l) y in
    omega arith

and_cases : (a b : Bool) → (a && b) ≡ true → (a ≡ true) × (b ≡ true)
and_cases true b h = (refl, h)
and_cases false b h = let bad : ⊥ = cc h in absurd bad

or_cases : (a b : Bool) → (a || b) ≡ true → (a ≡ true) ⊎ (b ≡ true)
or_cases true b h = inl refl
or_cases false b h = inr h

place-first : (a b : List ℕ) → length a ≡ length b → sum a ≡ sum b → is_greater_first a b ≡ true → place a < place b
place-first [] b l s h = let bad : ⊥ = cc h in absurd bad
place-first (x ∷ a) [] l s h = let bad : ⊥ = cc h in absurd bad
place-first (x ∷ a) (y ∷ b) l s h = step (place-first a b) (or_cases (ltb y x) ((eqb x y) && is_greater_first a b) h)
  where
    sums : x + sum a ≡ y + sum b
    sums = sym (sum-cons x a) ∙ s ∙ sum-cons y b

    tails : length a ≡ length b
    tails = let l' : suc (length a) ≡ suc (length b) = l in omega arith

    front : count_below (suc (length a)) (x + sum a) ≡ count_below (suc (length b)) (y + sum b)
    front = ap₂ (λ n d. count_below (suc n) d) tails sums

    later : place a < place b → place (x ∷ a) < place (y ∷ b)
    later h = let ea = place-cons x a in let eb = place-cons y b in let f = front in omega arith

    step : (length a ≡ length b → sum a ≡ sum b → is_greater_first a b ≡ true → place a < place b) → (ltb y x ≡ true) ⊎ (((eqb x y) && is_greater_first a b) ≡ true) → place (x ∷ a) < place (y ∷ b)
    step rest (inl g) =
        let less = ltb-true y x g in
        let s' = sums in
        later (place-degree a b tails (omega arith))
    step rest (inr g) =
        let both = and_cases (eqb x y) (is_greater_first a b) g in
        let same = eqb-true x y both.0 in
        let s' = sums in
        later (rest tails (omega arith) both.1)

-- the order of monomials is that of their places
pub before-place : (a b : List ℕ) → length a ≡ length b → is_before a b ≡ true → place a < place b
before-place a b l h = step (or_cases (ltb (sum a) (sum b)) ((eqb (sum a) (sum b)) && is_greater_first a b) h)
  where
    step : (ltb (sum a) (sum b) ≡ true) ⊎ (((eqb (sum a) (sum b)) && is_greater_first a b) ≡ true) → place a < place b
    step (inl g) = place-degree a b l (ltb-true (sum a) (sum b) g)
    step (inr g) =
        let both = and_cases (eqb (sum a) (sum b)) (is_greater_first a b) g in
        place-first a b l (eqb-true (sum a) (sum b) both.0) both.1

-- of two different monomials of one degree one has the greater exponent at the first place that differs
first_differs : (a b : List ℕ) → length a ≡ length b → (a ≡ b) ⊎ ((is_greater_first a b ≡ true) ⊎ (is_greater_first b a ≡ true))
first_differs [] [] l = inl refl
first_differs [] (y ∷ b) l = let bad : ⊥ = omega (arith, l) in absurd bad
first_differs (x ∷ a) [] l = let bad : ⊥ = omega (arith, l) in absurd bad
first_differs (x ∷ a) (y ∷ b) l = step (three x y) (first_differs a b tails)
  where
    tails : length a ≡ length b
    tails = let l' : suc (length a) ≡ suc (length b) = l in omega arith

    three : (x y : ℕ) → (x < y) ⊎ ((y < x) ⊎ (x ≡ y))
    three x y = grind arith

    step : (x < y) ⊎ ((y < x) ⊎ (x ≡ y)) → (a ≡ b) ⊎ ((is_greater_first a b ≡ true) ⊎ (is_greater_first b a ≡ true))
        → ((x ∷ a) ≡ (y ∷ b)) ⊎ ((is_greater_first (x ∷ a) (y ∷ b) ≡ true) ⊎ (is_greater_first (y ∷ b) (x ∷ a) ≡ true))
    step (inl g) rest = inr (inr (ap (λ t. t || ((eqb y x) && is_greater_first b a)) (lt-ltb x y g)))
    step (inr (inl g)) rest = inr (inl (ap (λ t. t || ((eqb x y) && is_greater_first a b)) (lt-ltb y x g)))
    step (inr (inr e)) (inl r) = inl (ap₂ (λ z zs. z ∷ zs) e r)
    step (inr (inr e)) (inr (inl r)) =
        let same : x ≡ y = e in
        let le : x ≤ y = omega arith in
        inr (inl (ap₂ (λ t u. t || (u && is_greater_first a b)) (le-ltb y x le) (eq-eqb x y e) ∙ r))
    step (inr (inr e)) (inr (inr r)) =
        let same : x ≡ y = e in
        let le : y ≤ x = omega arith in
        inr (inr (ap₂ (λ t u. t || (u && is_greater_first b a)) (le-ltb x y le) (eq-eqb y x (sym e)) ∙ r))

pub before_or_after : (a b : List ℕ) → length a ≡ length b → (a ≡ b) ⊎ ((is_before a b ≡ true) ⊎ (is_before b a ≡ true))
before_or_after a b l = step (three (sum a) (sum b)) (first_differs a b l)
  where
    three : (x y : ℕ) → (x < y) ⊎ ((y < x) ⊎ (x ≡ y))
    three x y = grind arith

    step : (sum a < sum b) ⊎ ((sum b < sum a) ⊎ (sum a ≡ sum b)) → (a ≡ b) ⊎ ((is_greater_first a b ≡ true) ⊎ (is_greater_first b a ≡ true))
        → (a ≡ b) ⊎ ((is_before a b ≡ true) ⊎ (is_before b a ≡ true))
    step (inl g) rest = inr (inl (ap (λ t. t || ((eqb (sum a) (sum b)) && is_greater_first a b)) (lt-ltb (sum a) (sum b) g)))
    step (inr (inl g)) rest = inr (inr (ap (λ t. t || ((eqb (sum b) (sum a)) && is_greater_first b a)) (lt-ltb (sum b) (sum a) g)))
    step (inr (inr e)) (inl r) = inl r
    step (inr (inr e)) (inr (inl r)) =
        let same : sum a ≡ sum b = e in
        let le : sum b ≤ sum a = omega arith in
        inr (inl (ap₂ (λ t u. t || (u && is_greater_first a b)) (le-ltb (sum a) (sum b) le) (eq-eqb (sum a) (sum b) e) ∙ r))
    step (inr (inr e)) (inr (inr r)) =
        let same : sum a ≡ sum b = e in
        let le : sum a ≤ sum b = omega arith in
        inr (inr (ap₂ (λ t u. t || (u && is_greater_first b a)) (le-ltb (sum b) (sum a) le) (eq-eqb (sum b) (sum a) (sym e)) ∙ r))

-- different monomials have different places
pub place-injective : (a b : List ℕ) → length a ≡ length b → place a ≡ place b → a ≡ b
place-injective a b l e = step (before_or_after a b l)
  where
    step : (a ≡ b) ⊎ ((is_before a b ≡ true) ⊎ (is_before b a ≡ true)) → a ≡ b
    step (inl h) = h
    step (inr (inl h)) = let c = before-place a b l h in let bad : ⊥ = omega arith in absurd bad
    step (inr (inr h)) = let c = before-place b a (sym l) h in let bad : ⊥ = omega arith in absurd bad

pub place-before : (a b : List ℕ) → length a ≡ length b → place a < place b → is_before a b ≡ true
place-before a b l h = step (before_or_after a b l)
  where
    step : (a ≡ b) ⊎ ((is_before a b ≡ true) ⊎ (is_before b a ≡ true)) → is_before a b ≡ true
    step (inl e) = let q = ap place e in let bad : ⊥ = omega arith in absurd bad
    step (inr (inl h)) = h
    step (inr (inr g)) = let c = before-place b a (sym l) g in let bad : ⊥ = omega arith in absurd bad

-- before is less, as a test
pub before-is-less : (a b : List ℕ) → length a ≡ length b → is_before a b ≡ ltb (place a) (place b)
before-is-less a b l = step (is_before a b) refl
  where
    less_or_not : (x y : ℕ) → (x < y) ⊎ (y ≤ x)
    less_or_not x y = grind arith

    step : (t : Bool) → is_before a b ≡ t → t ≡ ltb (place a) (place b)
    step true e = sym (lt-ltb (place a) (place b) (before-place a b l e))
    step false e = other (less_or_not (place a) (place b))
      where
        other : (place a < place b) ⊎ (place b ≤ place a) → false ≡ ltb (place a) (place b)
        other (inl h) = let q : true ≡ false = sym (place-before a b l h) ∙ e in let bad : ⊥ = cc q in absurd bad
        other (inr h) = sym (le-ltb (place a) (place b) h)

-- ---- the list of all monomials

pub record IsOf (n d : ℕ) (m : List ℕ) : Type 0 where
  pub long : length m ≡ n
  pub degree : sum m ≡ d

-- each of the list is in n variables and of degree d
pub monomials_are_of : (n d : ℕ) → Each (IsOf n d) (monomials_of n d)
unfolding monomials_of
monomials_are_of zero zero = (record { long = refl; degree = refl }, tt)
monomials_are_of zero (suc d) = tt
monomials_are_of (suc n) d =
    each-flat_map (λ j. j < suc d) (IsOf (suc n) d) (λ j. map (λ m. (d - j) ∷ m) (monomials_of n j))
    (λ j h. each-map (IsOf (suc n) d) (λ m. (d - j) ∷ m) (monomials_of n j)
    (each-weaker (IsOf n j) (λ m. IsOf (suc n) d ((d - j) ∷ m)) (λ m o. one j m h o) (monomials_of n j) (monomials_are_of n j)))
    (numbers_below (suc d)) (numbers_are_below (suc d))
  where
    one : (j : ℕ) (m : List ℕ) → j < suc d → IsOf n j m → IsOf (suc n) d ((d - j) ∷ m)
    one j m h o = record { long = ap suc o.long; degree = sum-cons (d - j) m ∙ (let e = o.degree in omega arith) }

-- the places of all monomials of degree below d are the numbers from 0 on
pub places : (n d : ℕ) → map place (monomials_below n d) ≡ numbers_below (count_below n d)
unfolding monomials_below monomials_of
places zero zero = sym (ap numbers_below (count-none 0))
places zero (suc zero) = ap (λ k. k ∷ []) place-none ∙ sym (ap numbers_below (count-one 0))
places zero (suc (suc d)) =
    ap (map place) (flat_map-append (monomials_of 0) (numbers_below (suc d)) (suc d ∷ []) ∙ append-none (monomials_below 0 (suc d)))
    ∙ places zero (suc d) ∙ ap numbers_below (count-one d ∙ sym (count-one (suc d)))
  where
    append-none : (xs : List (List ℕ)) → xs ++ [] ≡ xs
    append-none [] = refl
    append-none (x ∷ xs) = ap (λ z. x ∷ z) (append-none xs)
places (suc n) zero = sym (ap numbers_below (count-none (suc n)))
places (suc n) (suc d) =
    ap (map place) (flat_map-append (monomials_of (suc n)) (numbers_below d) (d ∷ []))
    ∙ map-append place (monomials_below (suc n) d) (flat_map (monomials_of (suc n)) (d ∷ []))
    ∙ ap₂ (λ x y. x ++ y) (places (suc n) d) (ap (map place) (append-none (monomials_of (suc n) d)) ∙ of_degree (places n (suc d)))
    ∙ sym (numbers_below-add (count_below (suc n) d) (count_below n (suc d)))
    ∙ ap numbers_below (sym (count-more n d))
  where
    c : ℕ
    c = count_below (suc n) d

    append-none : (xs : List (List ℕ)) → xs ++ [] ≡ xs
    append-none [] = refl
    append-none (x ∷ xs) = ap (λ z. x ∷ z) (append-none xs)

    one : (j : ℕ) (m : List ℕ) → j < suc d → IsOf n j m → place ((d - j) ∷ m) ≡ count_below (suc n) d + place m
    one j m h o =
        let e : (d - j) + sum m ≡ d = (let q = o.degree in omega arith) in
        place-cons (d - j) m ∙ ap₂ (λ k i. count_below (suc k) i + place m) o.long e

    row : (j : ℕ) → j < suc d → map place (map (λ m. (d - j) ∷ m) (monomials_of n j)) ≡ map (λ k. count_below (suc n) d + k) (map place (monomials_of n j))
    row j h =
        map-map place (λ m. (d - j) ∷ m) (monomials_of n j)
        ∙ map-same (IsOf n j) (λ m. place ((d - j) ∷ m)) (λ m. count_below (suc n) d + place m) (λ m o. one j m h o) (monomials_of n j) (monomials_are_of n j)
        ∙ sym (map-map (λ k. count_below (suc n) d + k) place (monomials_of n j))

    of_degree : map place (monomials_below n (suc d)) ≡ numbers_below (count_below n (suc d)) → map place (monomials_of (suc n) d) ≡ map (λ k. count_below (suc n) d + k) (numbers_below (count_below n (suc d)))
    of_degree rest =
        map-flat_map place (λ j. map (λ m. (d - j) ∷ m) (monomials_of n j)) (numbers_below (suc d))
        ∙ flat_map-same (λ j. j < suc d) (λ j. map place (map (λ m. (d - j) ∷ m) (monomials_of n j))) (λ j. map (λ k. count_below (suc n) d + k) (map place (monomials_of n j)))
        row (numbers_below (suc d)) (numbers_are_below (suc d))
        ∙ sym (map-flat_map (λ k. count_below (suc n) d + k) (λ j. map place (monomials_of n j)) (numbers_below (suc d)))
        ∙ ap (map (λ k. count_below (suc n) d + k)) (sym (map-flat_map place (monomials_of n) (numbers_below (suc d))) ∙ rest)

pub below_are_long : (n d : ℕ) → Each (λ m. length m ≡ n) (monomials_below n d)
unfolding monomials_below
below_are_long n d =
    each-flat_map (λ j. j < d) (λ m. length m ≡ n) (monomials_of n)
    (λ j h. each-weaker (IsOf n j) (λ m. length m ≡ n) (λ m o. o.long) (monomials_of n j) (monomials_are_of n j))
    (numbers_below d) (numbers_are_below d)

-- the number of monomials before one is its place
pub rank_is_place : (n : ℕ) (a : List ℕ) → length a ≡ n → rank_of n a ≡ place a
unfolding rank_of
rank_is_place n a l =
    ap length (filter-same (λ m. length m ≡ n) (λ m. is_before m a) (λ m. ltb (place m) (place a)) (λ m h. before-is-less m a (h ∙ sym l)) all (below_are_long n (suc (sum a))))
    ∙ length-filter-map (λ r. ltb r (place a)) place all
    ∙ ap (λ z. length (filter (λ r. ltb r (place a)) z)) (places n (suc (sum a)))
    ∙ ap length (filter-numbers_below (count_below n (suc (sum a))) (place a) within)
    ∙ length-numbers_below (place a)
  where
    all : List (List ℕ)
    all = monomials_below n (suc (sum a))

    within : place a ≤ count_below n (suc (sum a))
    within = let p = place_below a in let p' : place a < count_below n (suc (sum a)) = subst (λ k. place a < count_below k (suc (sum a))) l p in omega arith
