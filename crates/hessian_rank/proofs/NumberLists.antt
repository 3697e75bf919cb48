-- Lists of different numbers.
use Rattle.std.proofs.Common.{◌≡◌, ◌≢◌, ℕ, zero, suc, ◌+◌, ◌<◌, ◌⊎◌, inl, inr, Bool, true, false, not, cond, eqb, eqb-true, eq-eqb, List, [], ◌∷◌, ◌++◌, map, length, get_or, take, All, ap, sym, ◌∙◌, refl, subst, arith}
use Rattle.std.specs.List.{filter}
use Rattle.mono_exp.specs.Exponents.{numbers_below}
use Rattle.std.proofs.lemmas.List.{map-append}
use Rattle.hessian_rank.specs.Sound.{Has, Distinct}
use Rattle.mono_exp.proofs.Lists.{Each, each-append, each-weaker, map-map, numbers_are_below}

-- what holds of each number of a list holds of one that it has
pub each-has : (P : ℕ → Type 0) (xs : List ℕ) (i : ℕ) → Each P xs → Has xs i → P i
each-has P [] i e h = absurd h
each-has P (x ∷ xs) i e (inl q) = subst P q e.0
each-has P (x ∷ xs) i e (inr h) = each-has P xs i e.1 h

-- what holds of each number that a list has holds of each of the list
pub each-from : (P : ℕ → Type 0) (xs : List ℕ) → ((i : ℕ) → Has xs i → P i) → Each P xs
each-from P [] f = tt
each-from P (x ∷ xs) f = (f x (inl refl), each-from P xs (λ i h. f i (inr h)))

-- the numbers of the first list
pub has-left : (xs ys : List ℕ) (i : ℕ) → Has xs i → Has (xs ++ ys) i
has-left [] ys i h = absurd h
has-left (x ∷ xs) ys i (inl q) = inl q
has-left (x ∷ xs) ys i (inr h) = inr (has-left xs ys i h)

-- the numbers of the second list
pub has-right : (xs ys : List ℕ) (i : ℕ) → Has ys i → Has (xs ++ ys) i
has-right [] ys i h = h
has-right (x ∷ xs) ys i h = inr (has-right xs ys i h)

-- a number of two lists together is one of the first or of the second
pub has-append : (xs ys : List ℕ) (i : ℕ) → Has (xs ++ ys) i → Has xs i ⊎ Has ys i
has-append [] ys i h = inr h
has-append (x ∷ xs) ys i (inl q) = inl (inl q)
has-append (x ∷ xs) ys i (inr h) = elim (has-append xs ys i h) [ inl k ↦ inl (inr k) | inr k ↦ inr k ]

-- lists of different numbers that have none in common
pub distinct-append : (xs ys : List ℕ) → Distinct xs → Distinct ys → Each (λ x. Each (λ y. x ≢ y) ys) xs → Distinct (xs ++ ys)
distinct-append [] ys a b e = b
distinct-append (x ∷ xs) ys a b e = (each-append (λ y. x ≢ y) xs ys a.0 e.0, distinct-append xs ys a.1 b e.1)

-- the numbers of a list but i
module _ (i : ℕ) where
  abbrev pub without : List ℕ → List ℕ
  without xs = filter (λ j. not (eqb j i)) xs

  -- a number that is left is one of the list, and not i
  pub without-has : (xs : List ℕ) (j : ℕ) → Has (without xs) j → Has xs j × (j ≢ i)
  without-has [] j h = absurd h
  without-has (x ∷ xs) j h = step (eqb x i) refl (without-has xs j) h
    where
      bad : false ≡ true → ⊥
      bad q = cc q

      step : (b : Bool) → eqb x i ≡ b → (Has (without xs) j → Has xs j × (j ≢ i)) → Has (cond (not b) (x ∷ without xs) (without xs)) j → Has (x ∷ xs) j × (j ≢ i)
      step true e rest h = let z = rest h in (inr z.0, z.1)
      step false e rest (inl q) = (inl q, λ w. bad (sym e ∙ eq-eqb x i (q ∙ w)))
      step false e rest (inr h) = let z = rest h in (inr z.0, z.1)

  -- a number of the list other than i is left
  pub has-without : (xs : List ℕ) (j : ℕ) → Has xs j → j ≢ i → Has (without xs) j
  has-without [] j h ne = absurd h
  has-without (x ∷ xs) j h ne = step (eqb x i) refl (has-without xs j) h
    where
      step : (b : Bool) → eqb x i ≡ b → (Has xs j → j ≢ i → Has (without xs) j) → Has (x ∷ xs) j → Has (cond (not b) (x ∷ without xs) (without xs)) j
      step true e rest (inl q) = absurd (ne (sym q ∙ eqb-true x i e))
      step true e rest (inr k) = rest k ne
      step false e rest (inl q) = inl q
      step false e rest (inr k) = inr (rest k ne)

  -- what holds of all holds of those left
  pub each-without : (P : ℕ → Type 0) (xs : List ℕ) → Each P xs → Each P (without xs)
  each-without P [] e = tt
  each-without P (x ∷ xs) e = step (eqb x i) (each-without P xs e.1)
    where
      step : (b : Bool) → Each P (without xs) → Each P (cond (not b) (x ∷ without xs) (without xs))
      step true rest = rest
      step false rest = (e.0, rest)

  -- those left are different
  pub distinct-without : (xs : List ℕ) → Distinct xs → Distinct (without xs)
  distinct-without [] d = tt
  distinct-without (x ∷ xs) d = step (eqb x i) (each-without (λ y. x ≢ y) xs d.0) (distinct-without xs d.1)
    where
      step : (b : Bool) → Each (λ y. x ≢ y) (without xs) → Distinct (without xs) → Distinct (cond (not b) (x ∷ without xs) (without xs))
      step true e rest = rest
      step false e rest = (e, rest)

  -- where i is not there, all are left
  without-absent : (xs : List ℕ) → Each (λ y. i ≢ y) xs → length (without xs) ≡ length xs
  without-absent [] e = refl
  without-absent (x ∷ xs) e = step (eqb x i) refl (without-absent xs e.1)
    where
      step : (b : Bool) → eqb x i ≡ b → length (without xs) ≡ length xs → length (cond (not b) (x ∷ without xs) (without xs)) ≡ suc (length xs)
      step true q rest = absurd (e.0 (sym (eqb-true x i q)))
      step false q rest = ap suc rest

  -- where i is there, one less is left
  pub length-without : (xs : List ℕ) → Distinct xs → Has xs i → suc (length (without xs)) ≡ length xs
  length-without [] d h = absurd h
  length-without (x ∷ xs) d h = step (eqb x i) refl (length-without xs d.1) h
    where
      step : (b : Bool) → eqb x i ≡ b → (Has xs i → suc (length (without xs)) ≡ length xs) → Has (x ∷ xs) i → suc (length (cond (not b) (x ∷ without xs) (without xs))) ≡ suc (length xs)
      step true e rest k = ap suc (without-absent xs (each-weaker (λ y. x ≢ y) (λ y. i ≢ y) (λ y ne q. ne (eqb-true x i e ∙ q)) xs d.0))
      step false e rest (inl q) = absurd (let bad : false ≡ true = sym e ∙ eq-eqb x i q in cc bad)
      step false e rest (inr k) = ap suc (rest k)

-- the places of the numbers
pub has-place : (xs : List ℕ) (i : ℕ) → Has xs i → (k : ℕ) × (k < length xs) × (get_or xs k 0 ≡ i)
has-place [] i h = absurd h
has-place (x ∷ xs) i (inl q) = (0, omega arith, q)
has-place (x ∷ xs) i (inr h) = let w = has-place xs i h in (suc w.0, (let g = w.1 in omega arith), w.2)

-- the number at a place is one of the list
pub place-has : (xs : List ℕ) (k : ℕ) → k < length xs → Has xs (get_or xs k 0)
place-has [] k h = absurd (omega arith)
place-has (x ∷ xs) zero h = inl refl
place-has (x ∷ xs) (suc k) h = inr (place-has xs k (omega arith))

-- different places have different numbers
pub different : (xs : List ℕ) → Distinct xs → (j k : ℕ) → j < length xs → k < length xs → get_or xs j 0 ≡ get_or xs k 0 → j ≡ k
different [] d j k h g e = absurd (omega arith)
different (x ∷ xs) d zero zero h g e = refl
different (x ∷ xs) d zero (suc k) h g e = absurd (each-has (λ y. x ≢ y) xs (get_or xs k 0) d.0 (place-has xs k (omega arith)) e)
different (x ∷ xs) d (suc j) zero h g e = absurd (each-has (λ y. x ≢ y) xs (get_or xs j 0) d.0 (place-has xs j (omega arith)) (sym e))
different (x ∷ xs) d (suc j) (suc k) h g e = ap suc (different xs d.1 j k (omega arith) (omega arith) e)

-- the numbers below n
pub has-numbers_below : (n i : ℕ) → i < n → Has (numbers_below n) i
has-numbers_below zero i h = absurd (omega arith)
has-numbers_below (suc n) i h = elim (cases i n h) [ inl l ↦ has-left (numbers_below n) (n ∷ []) i (has-numbers_below n i l) | inr e ↦ has-right (numbers_below n) (n ∷ []) i (inl (sym e)) ]
  where
    cases : (i n : ℕ) → i < suc n → (i < n) ⊎ (i ≡ n)
    cases i n h = grind arith

-- the numbers below n are different
pub distinct-numbers_below : (n : ℕ) → Distinct (numbers_below n)
distinct-numbers_below zero = tt
distinct-numbers_below (suc n) = distinct-append (numbers_below n) (n ∷ []) (distinct-numbers_below n) (tt, tt) (each-weaker (λ i. i < n) (λ i. Each (λ y. i ≢ y) (n ∷ [])) (λ i h. ((λ e. omega arith), tt)) (numbers_below n) (numbers_are_below n))

-- ---- places

-- a place of the first list
pub place-left : (xs ys : List ℕ) (k : ℕ) → k < length xs → get_or (xs ++ ys) k 0 ≡ get_or xs k 0
place-left [] ys k h = absurd (omega arith)
place-left (x ∷ xs) ys zero h = refl
place-left (x ∷ xs) ys (suc k) h = place-left xs ys k (omega arith)

-- a place of the second list
pub place-right : (xs ys : List ℕ) (j k : ℕ) → j ≡ length xs + k → get_or (xs ++ ys) j 0 ≡ get_or ys k 0
place-right [] ys j k e = ap (λ z. get_or ys z 0) (let w : j ≡ k = omega arith in w)
place-right (x ∷ xs) ys zero k e = absurd (omega arith)
place-right (x ∷ xs) ys (suc j) k e = place-right xs ys j k (omega arith)

-- 0 and the numbers above it
shift : (m : ℕ) → numbers_below (suc m) ≡ 0 ∷ map suc (numbers_below m)
shift zero = refl
shift (suc m) = ap (λ z. z ++ suc m ∷ []) (shift m) ∙ ap (λ z. 0 ∷ z) (sym (map-append suc (numbers_below m) (m ∷ [])))

-- a list by its places
pub map-places : {X : Type 0} (f : ℕ → X) (ys : List ℕ) → map (λ i. f (get_or ys i 0)) (numbers_below (length ys)) ≡ map f ys
map-places f [] = refl
map-places f (y ∷ ys) =
    ap (map (λ i. f (get_or (y ∷ ys) i 0))) (shift (length ys))
    ∙ ap (λ z. f y ∷ z) (map-map (λ i. f (get_or (y ∷ ys) i 0)) suc (numbers_below (length ys)) ∙ map-places f ys)

-- ---- the first numbers of a list

-- a number at a place, whatever stands past the end
pub place-here : (xs : List ℕ) (k j : ℕ) → k < length xs → j ≡ get_or xs k j → Has xs j
place-here [] k j h e = absurd (omega arith)
place-here (x ∷ xs) zero j h e = inl (sym e)
place-here (x ∷ xs) (suc k) j h e = inr (place-here xs k j (omega arith) e)

-- what holds of each holds of each of the first k
pub each-take : (P : ℕ → Type 0) (k : ℕ) (xs : List ℕ) → Each P xs → Each P (take k xs)
each-take P zero xs e = tt
each-take P (suc k) [] e = tt
each-take P (suc k) (x ∷ xs) e = (e.0, each-take P k xs e.1)

-- the first k of different numbers are different
pub distinct-take : (k : ℕ) (xs : List ℕ) → Distinct xs → Distinct (take k xs)
distinct-take zero xs d = tt
distinct-take (suc k) [] d = tt
distinct-take (suc k) (x ∷ xs) d = (each-take (λ y. x ≢ y) k xs d.0, distinct-take k xs d.1)

-- what holds of each, by places
pub each-all : (P : ℕ → Type 0) (xs : List ℕ) → Each P xs → All P xs
each-all P [] e k d h = absurd (omega arith)
each-all P (x ∷ xs) e zero d h = e.0
each-all P (x ∷ xs) e (suc k) d h = each-all P xs e.1 k d (omega arith)
