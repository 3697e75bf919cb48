-- The number of a monomial, variable by variable.
use Rattle.std.proofs.Common.{◌≡◌, ℕ, zero, suc, ◌+◌, ◌-◌, ◌<◌, ◌≤◌, ◌⊎◌, inl, inr, List, [], ◌∷◌, ◌++◌, map, length, get_or, set, take, drop, sum, refl, sym, ap, ap₂, subst, ◌∙◌, add-one, drop-cons, arith}
use Rattle.std.specs.List.{range_with_len}
use Rattle.std.proofs.lemmas.List.FromFn.{length-map-range_with_len, get_or-map-range_with_len}
use Rattle.mono_exp.specs.Exponents.{exponents, IsIn, monomials_below, rank_of}
use Rattle.mono_exp.proofs.Lists.{sum-cons, Each}
use Rattle.mono_exp.proofs.Counting.{count_below, count-more, count-none, count-one, count-le, place, place-cons, place-none, place_below, rank_is_place}
use Rattle.mono_exp.proofs.Table.{count-small, length-monomials_below}

pub length-exponents : (n : ℕ) (e : List ℕ) → length (exponents n e) ≡ n
length-exponents n e = length-map-range_with_len (λ i. get_or e i 0) 0 n

pub get_or-exponents : (n : ℕ) (e : List ℕ) (i : ℕ) → i < n → get_or (exponents n e) i 0 ≡ get_or e i 0
get_or-exponents n e i h = get_or-map-range_with_len (λ i. get_or e i 0) 0 n i i 0 h (let z : 0 + i ≡ i = omega arith in z)

shifted : (f : ℕ → ℕ) (a n : ℕ) → map f (range_with_len (a + 1) n) ≡ map (λ i. f (i + 1)) (range_with_len a n)
shifted f a zero = refl
shifted f a (suc n) = ap (λ z. f (a + 1) ∷ z) (shifted f (a + 1) n)

same_map : (f g : ℕ → ℕ) → ((i : ℕ) → f i ≡ g i) → (xs : List ℕ) → map f xs ≡ map g xs
same_map f g h [] = refl
same_map f g h (x ∷ xs) = ap₂ (λ y ys. y ∷ ys) (h x) (same_map f g h xs)

pub exponents-cons : (n x : ℕ) (e : List ℕ) → exponents (suc n) (x ∷ e) ≡ x ∷ exponents n e
exponents-cons n x e =
    ap (λ z. x ∷ z) (shifted (λ i. get_or (x ∷ e) i 0) 0 n ∙ same_map (λ i. get_or (x ∷ e) (i + 1) 0) (λ i. get_or e i 0) (λ i. ap (λ k. get_or (x ∷ e) k 0) (let z : i + 1 ≡ suc i = omega arith in z)) (range_with_len 0 n))

sum-zeros : (e : List ℕ) → ((i : ℕ) → get_or e i 0 ≡ 0) → sum e ≡ 0
sum-zeros [] h = refl
sum-zeros (x ∷ e) h = sum-cons x e ∙ ap₂ (λ y z. y + z) (h 0) (sum-zeros e (λ i. h (suc i)))

sum-exponents-none : (n a : ℕ) → sum (map (λ i. get_or [] i 0) (range_with_len a n)) ≡ 0
sum-exponents-none zero a = refl
sum-exponents-none (suc n) a = sum-cons 0 (map (λ i. get_or [] i 0) (range_with_len (a + 1) n)) ∙ ap (λ z. 0 + z) (sum-exponents-none n (a + 1))

-- no other variables, the same degree
pub sum-exponents : (n : ℕ) (e : List ℕ) → IsIn n e → sum (exponents n e) ≡ sum e
sum-exponents zero e h = sym (sum-zeros e (λ i. h i (omega arith)))
sum-exponents (suc n) [] h = sum-exponents-none (suc n) 0
sum-exponents (suc n) (x ∷ e) h = ap sum (exponents-cons n x e) ∙ sum-cons x (exponents n e) ∙ ap (λ z. x + z) (sum-exponents n e (λ i g. h (suc i) (omega arith))) ∙ sym (sum-cons x e)

pub exponents-take : (n : ℕ) (e : List ℕ) → n ≤ length e → exponents n e ≡ take n e
exponents-take zero e h = refl
exponents-take (suc n) [] h = absurd (omega arith)
exponents-take (suc n) (x ∷ e) h = exponents-cons n x e ∙ ap (λ z. x ∷ z) (exponents-take n e (omega arith))

-- ---- one variable after the other

at_drop : (a : List ℕ) (i : ℕ) → i < length a → drop i a ≡ get_or a i 0 ∷ drop (i + 1) a
at_drop a i h = rw (add-one, drop-cons a i 0)

length-drop-at : (a : List ℕ) (i : ℕ) → length (drop i a) ≡ length a - i
length-drop-at [] zero = let e : 0 ≡ 0 - 0 = omega arith in e
length-drop-at [] (suc i) = let e : 0 ≡ 0 - suc i = omega arith in e
length-drop-at (x ∷ a) zero = let e : suc (length a) ≡ suc (length a) - 0 = omega arith in e
length-drop-at (x ∷ a) (suc i) = length-drop-at a i ∙ (let e : length a - i ≡ suc (length a) - suc i = omega arith in e)

pub sum-drop : (a : List ℕ) (i : ℕ) → i < length a → sum (drop i a) ≡ get_or a i 0 + sum (drop (i + 1) a)
sum-drop a i h = ap sum (at_drop a i h) ∙ sum-cons (get_or a i 0) (drop (i + 1) a)

pub place-drop : (a : List ℕ) (i n : ℕ) → i < n → length a ≡ n → place (drop i a) ≡ count_below (n - i) (sum (drop i a)) + place (drop (i + 1) a)
place-drop a i n h l =
    let h' : i < length a = omega arith in
    let tail : length (drop (i + 1) a) ≡ length a - (i + 1) = length-drop-at a (i + 1) in
    let long : suc (length (drop (i + 1) a)) ≡ n - i = omega arith in
    ap place (at_drop a i h') ∙ place-cons (get_or a i 0) (drop (i + 1) a)
    ∙ ap₂ (λ k d. count_below k d + place (drop (i + 1) a)) long (sym (sum-drop a i h'))

drop-end : (a : List ℕ) → drop (length a) a ≡ []
drop-end [] = refl
drop-end (x ∷ a) = drop-end a

pub place-end : (a : List ℕ) (n : ℕ) → length a ≡ n → place (drop n a) ≡ 0
place-end a n l = ap place (ap (λ k. drop k a) (sym l) ∙ drop-end a) ∙ place-none

-- the next number is within the table's numbers
pub number_fits : (a : List ℕ) (i n number f : ℕ) → i < n → n ≤ 8 → length a ≡ n → sum a ≤ 17 → number + place (drop i a) ≡ place a → f ≡ count_below (n - i) (sum (drop i a)) → number + f ≤ 1081575
number_fits a i n number f h g l d e q =
    let p = place-drop a i n h l in
    let b = place_below a in
    let b' : place a < count_below n (suc (sum a)) = subst (λ k. place a < count_below k (suc (sum a))) l b in
    let c = count-small n (suc (sum a)) g (omega arith) in
    omega arith

sum-drop-le : (a : List ℕ) (i : ℕ) → sum (drop i a) ≤ sum a
sum-drop-le [] zero = omega arith
sum-drop-le [] (suc i) = omega arith
sum-drop-le (x ∷ a) zero = omega arith
sum-drop-le (x ∷ a) (suc i) = let e = sum-cons x a in let r = sum-drop-le a i in omega arith

pub sum-drop-small : (a : List ℕ) (i : ℕ) → sum a ≤ 17 → sum (drop i a) ≤ 17
sum-drop-small a i h = let r = sum-drop-le a i in omega arith

-- ---- back from a number to its monomial

-- what the first exponents add to the place of a monomial with k more variables of degree s
abbrev pub front_place : List ℕ → ℕ → ℕ → ℕ
front_place [] k s = 0
front_place (x ∷ xs) k s = count_below (suc (length xs + k)) (x + sum xs + s) + front_place xs k s

length-push : (xs : List ℕ) (x : ℕ) → length (xs ++ x ∷ []) ≡ suc (length xs)
length-push [] x = refl
length-push (y ∷ xs) x = ap suc (length-push xs x)

pub sum-push : (xs : List ℕ) (x : ℕ) → sum (xs ++ x ∷ []) ≡ sum xs + x
sum-push [] x = sum-cons x [] ∙ (let e : x + 0 ≡ 0 + x = omega arith in e)
sum-push (y ∷ xs) x = sum-cons y (xs ++ x ∷ []) ∙ ap (λ z. y + z) (sum-push xs x) ∙ (let e = sum-cons y xs in let q : y + (sum xs + x) ≡ sum (y ∷ xs) + x = omega arith in q)

front_place-push : (xs : List ℕ) (x k s : ℕ) → front_place (xs ++ x ∷ []) k s ≡ front_place xs (suc k) (x + s) + count_below (suc k) (x + s)
front_place-push [] x k s =
    let a : 0 + k ≡ k = omega arith in
    let b : x + 0 + s ≡ x + s = omega arith in
    ap₂ (λ i j. count_below (suc i) j + 0) a b ∙ (let e : count_below (suc k) (x + s) + 0 ≡ 0 + count_below (suc k) (x + s) = omega arith in e)
front_place-push (y ∷ xs) x k s =
    let l = length-push xs x in
    let m = sum-push xs x in
    let a : length (xs ++ x ∷ []) + k ≡ length xs + suc k = omega arith in
    let b : y + sum (xs ++ x ∷ []) + s ≡ y + sum xs + (x + s) = omega arith in
    ap₂ (λ i j. count_below (suc i) j + front_place (xs ++ x ∷ []) k s) a b
    ∙ ap (λ z. count_below (suc (length xs + suc k)) (y + sum xs + (x + s)) + z) (front_place-push xs x k s)
    ∙ (let e : count_below (suc (length xs + suc k)) (y + sum xs + (x + s)) + (front_place xs (suc k) (x + s) + count_below (suc k) (x + s))
    ≡ (count_below (suc (length xs + suc k)) (y + sum xs + (x + s)) + front_place xs (suc k) (x + s)) + count_below (suc k) (x + s) = omega arith in e)

front_place-all : (xs : List ℕ) → front_place xs 0 0 ≡ place xs
front_place-all [] = sym place-none
front_place-all (x ∷ xs) =
    let a : length xs + 0 ≡ length xs = omega arith in
    let b : x + sum xs + 0 ≡ x + sum xs = omega arith in
    ap₂ (λ i j. count_below (suc i) j + front_place xs 0 0) a b ∙ ap (λ z. count_below (suc (length xs)) (x + sum xs) + z) (front_place-all xs) ∙ sym (place-cons x xs)

take-set-next : (e : List ℕ) (i x : ℕ) → i < length e → take (i + 1) (set e i x) ≡ take i e ++ x ∷ []
take-set-next e i x h = ap (λ k. take k (set e i x)) (let z : i + 1 ≡ suc i = omega arith in z) ∙ go e i h
  where
    go : (e : List ℕ) (i : ℕ) → i < length e → take (suc i) (set e i x) ≡ take i e ++ x ∷ []
    go [] i h = absurd (omega arith)
    go (y ∷ e) zero h = refl
    go (y ∷ e) (suc i) h = ap (λ z. y ∷ z) (go e i (omega arith))

-- the first i exponents are found, and the others have degree d and number `left` among those in m variables
pub record Found (r : ℕ) (e : List ℕ) (i m left d : ℕ) : Type 0 where
  pub long : length e ≡ 8
  pub clear : (k : ℕ) → i ≤ k → get_or e k 0 ≡ 0
  pub placed : front_place (take i e) m d + left ≡ r
  pub degree : sum (take i e) + d ≤ 17
  pub reached : count_below m d ≤ left
  pub next : left < count_below m (d + 1)

pub found_rest : (m d left rest : ℕ) → left < count_below m (d + 1) → count_below m rest ≤ left → rest ≤ d
found_rest m d left rest h g = step (cases rest d)
  where
    cases : (rest d : ℕ) → (rest ≤ d) ⊎ (d + 1 ≤ rest)
    cases rest d = grind arith

    step : (rest ≤ d) ⊎ (d + 1 ≤ rest) → rest ≤ d
    step (inl l) = l
    step (inr l) = let c = count-le m (d + 1) rest l in absurd (omega arith)

-- the number among those in one variable less
pub found_left : (m d left : ℕ) → left < count_below (suc m) (d + 1) → count_below (suc m) d ≤ left → left - count_below (suc m) d < count_below m (d + 1)
found_left m d left h g =
    let e : d + 1 ≡ suc d = omega arith in
    let c = count-more m d in
    let h' : left < count_below (suc m) (suc d) = subst (λ k. left < count_below (suc m) k) e h in
    subst (λ k. left - count_below (suc m) d < count_below m k) (sym e) (omega arith)

pub found_more : (r : ℕ) (e : List ℕ) (i m left d rest : ℕ) → i < 8 → Found r e i (suc m) left d → count_below m rest ≤ left - count_below (suc m) d → left - count_below (suc m) d < count_below m (rest + 1)
    → Found r (set e i (d - rest)) (i + 1) m (left - count_below (suc m) d) rest
found_more r e i m left d rest h f reached next =
    let low = found_rest m d (left - count_below (suc m) d) rest (found_left m d left f.next f.reached) reached in
    let long = f.long in
    let within : i < length e = omega arith in
    let back : (d - rest) + rest ≡ d = omega arith in
    record {
      long = Rattle.std.proofs.Common.length-set e i (d - rest) ∙ f.long;
      clear = cleared e i (d - rest) within f.clear;
      placed =
          ap (λ z. front_place z m rest + (left - count_below (suc m) d)) (take-set-next e i (d - rest) within)
          ∙ ap (λ z. z + (left - count_below (suc m) d)) (front_place-push (take i e) (d - rest) m rest ∙ ap (λ s. front_place (take i e) (suc m) s + count_below (suc m) s) back)
          ∙ (let p = f.placed in let q = f.reached in let z : front_place (take i e) (suc m) d + count_below (suc m) d + (left - count_below (suc m) d) ≡ r = omega arith in z);
      degree =
          let q = ap sum (take-set-next e i (d - rest) within) ∙ sum-push (take i e) (d - rest) in
          let p = f.degree in
          omega arith;
      reached = reached;
      next = next;
    }
  where
    cleared : (e : List ℕ) (i x : ℕ) → i < length e → ((k : ℕ) → i ≤ k → get_or e k 0 ≡ 0) → (k : ℕ) → i + 1 ≤ k → get_or (set e i x) k 0 ≡ 0
    cleared [] i x h c k g = absurd (omega arith)
    cleared (y ∷ e) zero x h c zero g = absurd (omega arith)
    cleared (y ∷ e) zero x h c (suc k) g = c (suc k) (omega arith)
    cleared (y ∷ e) (suc i) x h c zero g = absurd (omega arith)
    cleared (y ∷ e) (suc i) x h c (suc k) g = cleared e i x (omega arith) (λ k h. c (suc k) (omega arith)) k (omega arith)

none_at : (e : List ℕ) → Each (λ x. x ≡ 0) e → (k : ℕ) → get_or e k 0 ≡ 0
none_at [] a k = refl
none_at (x ∷ e) a zero = a.0
none_at (x ∷ e) a (suc k) = none_at e a.1 k

pub found_start : (r d n : ℕ) → n ≤ 8 → d ≤ 17 → count_below n d ≤ r → r < count_below n (d + 1) → Found r (0 ∷ 0 ∷ 0 ∷ 0 ∷ 0 ∷ 0 ∷ 0 ∷ 0 ∷ []) 0 n r d
found_start r d n h g reached next = record {
  long = refl;
  clear = λ k z. none_at (0 ∷ 0 ∷ 0 ∷ 0 ∷ 0 ∷ 0 ∷ 0 ∷ 0 ∷ []) (refl, (refl, (refl, (refl, (refl, (refl, (refl, (refl, tt)))))))) k;
  placed = let e : 0 + r ≡ r = omega arith in e;
  degree = let e : 0 + d ≤ 17 = omega arith in e;
  reached = reached;
  next = next;
}

end_none : (d : ℕ) → count_below 0 d ≤ 0 → d ≡ 0
end_none zero h = refl
end_none (suc d) h = let c = count-one d in absurd (omega arith)

-- all exponents are found
pub found_all : (r : ℕ) (e : List ℕ) (n left d : ℕ) → n ≤ 8 → Found r e n 0 left d → (rank_of n (exponents n e) ≡ r) × (sum e ≤ 17)
found_all r e n left d h f =
    let nothing : left ≡ 0 = (let q = f.next in let o = count-one d in let s : d + 1 ≡ suc d = omega arith in let q' : left < count_below 0 (suc d) = subst (λ k. left < count_below 0 k) s q in omega arith) in
    let none : d ≡ 0 = end_none d (let q = f.reached in omega arith) in
    let long = f.long in
    let taken : exponents n e ≡ take n e = exponents-take n e (omega arith) in
    let total : sum (exponents n e) ≡ sum e = sum-exponents n e f.clear in (
      rank_is_place n (exponents n e) (length-exponents n e) ∙ ap place taken ∙ sym (front_place-all (take n e))
          ∙ (let p = f.placed in let p' : front_place (take n e) 0 0 + left ≡ r = subst (λ k. front_place (take n e) 0 k + left ≡ r) none p in let z : front_place (take n e) 0 0 ≡ r = omega arith in z),
      (let p = f.degree in let t = ap sum taken in let z : sum e ≤ 17 = omega arith in z),
    )

-- no monomial has a degree below 0
pub degree_positive : (n d number : ℕ) → number < length (monomials_below n d) → 1 ≤ d
degree_positive n zero number h = let e = length-monomials_below n 0 in let z = count-none n in absurd (omega arith)
degree_positive n (suc d) number h = omega arith

-- the parts of a step from the variable i to the next one
module _ (n i r left d first : ℕ) (e : List ℕ) (h : i < n) (f : Found r e i (n - i) left d) (q : first ≡ length (monomials_below (n - i) d)) where
  one_less : n - i ≡ suc (n - i - 1)
  one_less = omega arith

  found : Found r e i (suc (n - i - 1)) left d
  found = subst (λ m. Found r e i m left d) one_less f

  counted : first ≡ count_below (suc (n - i - 1)) d
  counted = q ∙ length-monomials_below (n - i) d ∙ ap (λ m. count_below m d) one_less

  pub first_fits : first ≤ left
  first_fits = let c = counted in let x = found.reached in omega arith

  left_next : left - first < count_below (n - i - 1) (d + 1)
  left_next = subst (λ k. left - k < count_below (n - i - 1) (d + 1)) (sym counted) (found_left (n - i - 1) d left found.next found.reached)

  pub small_rest : d ≤ 17
  small_rest = let x = found.degree in omega arith

  pub left_within : left - first < length (monomials_below (n - i - 1) (d + 1))
  left_within = let l = left_next in let all = length-monomials_below (n - i - 1) (d + 1) in omega arith

  pub rest_fits : (rest : ℕ) → length (monomials_below (n - i - 1) rest) ≤ left - first → rest ≤ d
  rest_fits rest low = found_rest (n - i - 1) d (left - first) rest left_next (let all = length-monomials_below (n - i - 1) rest in omega arith)

  pub found_next : (rest : ℕ) → n ≤ 8 → length (monomials_below (n - i - 1) rest) ≤ left - first → left - first < length (monomials_below (n - i - 1) (rest + 1))
      → Found r (set e i (d - rest)) (i + 1) (n - (i + 1)) (left - first) rest
  found_next rest g low up =
      let m : n - i - 1 ≡ n - (i + 1) = omega arith in
      let reached : count_below (n - i - 1) rest ≤ left - count_below (suc (n - i - 1)) d = (let a = length-monomials_below (n - i - 1) rest in let c = counted in omega arith) in
      let next : left - count_below (suc (n - i - 1)) d < count_below (n - i - 1) (rest + 1) = (let a = length-monomials_below (n - i - 1) (rest + 1) in let c = counted in omega arith) in
      subst (λ k. Found r (set e i (d - rest)) (i + 1) k (left - first) rest) m
      (subst (λ k. Found r (set e i (d - rest)) (i + 1) (n - i - 1) (left - k) rest) (sym counted) (found_more r e i (n - i - 1) left d rest (omega arith) found reached next))

-- at the first variable
pub found_first : (r d n : ℕ) → n ≤ 8 → d ≤ 17 → length (monomials_below n d) ≤ r → r < length (monomials_below n (d + 1)) → Found r (0 ∷ 0 ∷ 0 ∷ 0 ∷ 0 ∷ 0 ∷ 0 ∷ 0 ∷ []) 0 (n - 0) r d
found_first r d n h g low up =
    let m : n ≡ n - 0 = omega arith in
    let a = length-monomials_below n d in
    let b = length-monomials_below n (d + 1) in
    subst (λ k. Found r (0 ∷ 0 ∷ 0 ∷ 0 ∷ 0 ∷ 0 ∷ 0 ∷ 0 ∷ []) 0 k r d) m (found_start r d n h g (omega arith) (omega arith))

-- past the last one
pub found_last : (r n i left d : ℕ) (e : List ℕ) → n ≤ 8 → i ≡ n → Found r e i (n - i) left d → (rank_of n (exponents n e) ≡ r) × (sum e ≤ 17)
found_last r n i left d e h q f =
    let m : n - i ≡ 0 = omega arith in
    found_all r e n left d h (subst (λ k. Found r e n k left d) m (subst (λ k. Found r e k (n - i) left d) q f))
