-- Lists of numbers, and what holds of each element.
use Rattle.std.proofs.Common.{◌≡◌, ℕ, zero, suc, ◌+◌, ◌<◌, ◌≤◌, ◌⊎◌, inl, inr, Bool, true, false, cond, ltb, List, [], ◌∷◌, ◌++◌, map, length, get_or, sum, refl, sym, ap, ap₂, subst, ◌∙◌, append_assoc, arith}
use Rattle.std.specs.List.{filter, flat_map}
use Rattle.std.proofs.lemmas.Bool.{lt-ltb, le-ltb}
use Rattle.std.proofs.lemmas.List.{map-append}
use Rattle.std.proofs.lemmas.List.Sums.{sum_by-cons}
use Rattle.mono_exp.specs.Exponents.{numbers_below}

-- what holds of each element, by recursion
abbrev pub Each : {X : Type 0} → (X → Type 0) → List X → Type 0
Each P [] = Unit {0}
Each P (x ∷ xs) = P x × Each P xs

pub each-append : {X : Type 0} (P : X → Type 0) (xs ys : List X) → Each P xs → Each P ys → Each P (xs ++ ys)
each-append P [] ys a b = b
each-append P (x ∷ xs) ys a b = (a.0, each-append P xs ys a.1 b)

pub each-map : {X Y : Type 0} (P : Y → Type 0) (f : X → Y) (xs : List X) → Each (λ x. P (f x)) xs → Each P (map f xs)
each-map P f [] a = tt
each-map P f (x ∷ xs) a = (a.0, each-map P f xs a.1)

pub each-weaker : {X : Type 0} (P Q : X → Type 0) → ((x : X) → P x → Q x) → (xs : List X) → Each P xs → Each Q xs
each-weaker P Q f [] a = tt
each-weaker P Q f (x ∷ xs) a = (f x a.0, each-weaker P Q f xs a.1)

pub each-flat_map : {X Y : Type 0} (P : X → Type 0) (Q : Y → Type 0) (f : X → List Y) → ((x : X) → P x → Each Q (f x)) → (xs : List X) → Each P xs → Each Q (flat_map f xs)
each-flat_map P Q f h [] a = tt
each-flat_map P Q f h (x ∷ xs) a = each-append Q (f x) (flat_map f xs) (h x a.0) (each-flat_map P Q f h xs a.1)

pub each-at : {X : Type 0} (P : X → Type 0) (xs : List X) (i : ℕ) (d : X) → i < length xs → Each P xs → P (get_or xs i d)
each-at P [] i d h a = absurd (omega arith)
each-at P (x ∷ xs) zero d h a = a.0
each-at P (x ∷ xs) (suc i) d h a = each-at P xs i d (omega arith) a.1

-- two functions that agree at each element
pub map-same : {X Y : Type 0} (P : X → Type 0) (f g : X → Y) → ((x : X) → P x → f x ≡ g x) → (xs : List X) → Each P xs → map f xs ≡ map g xs
map-same P f g h [] a = refl
map-same P f g h (x ∷ xs) a = ap₂ (λ y ys. y ∷ ys) (h x a.0) (map-same P f g h xs a.1)

pub map-map : {X Y Z : Type 0} (f : Y → Z) (g : X → Y) (xs : List X) → map f (map g xs) ≡ map (λ x. f (g x)) xs
map-map f g [] = refl
map-map f g (x ∷ xs) = ap (λ ys. f (g x) ∷ ys) (map-map f g xs)

pub flat_map-append : {X Y : Type 0} (g : X → List Y) (xs ys : List X) → flat_map g (xs ++ ys) ≡ flat_map g xs ++ flat_map g ys
flat_map-append g [] ys = refl
flat_map-append g (x ∷ xs) ys = ap (λ z. g x ++ z) (flat_map-append g xs ys) ∙ sym (append_assoc (g x) (flat_map g xs) (flat_map g ys))

pub map-flat_map : {X Y Z : Type 0} (f : Y → Z) (g : X → List Y) (xs : List X) → map f (flat_map g xs) ≡ flat_map (λ x. map f (g x)) xs
map-flat_map f g [] = refl
map-flat_map f g (x ∷ xs) = map-append f (g x) (flat_map g xs) ∙ ap (λ z. map f (g x) ++ z) (map-flat_map f g xs)

pub flat_map-same : {X Y : Type 0} (P : X → Type 0) (f g : X → List Y) → ((x : X) → P x → f x ≡ g x) → (xs : List X) → Each P xs → flat_map f xs ≡ flat_map g xs
flat_map-same P f g h [] a = refl
flat_map-same P f g h (x ∷ xs) a = ap₂ (λ y z. y ++ z) (h x a.0) (flat_map-same P f g h xs a.1)

pub numbers_are_below : (n : ℕ) → Each (λ i. i < n) (numbers_below n)
numbers_are_below zero = tt
numbers_are_below (suc n) = each-append (λ i. i < suc n) (numbers_below n) (n ∷ []) (each-weaker (λ i. i < n) (λ i. i < suc n) (λ i h. omega arith) (numbers_below n) (numbers_are_below n)) (omega arith, tt)

pub numbers_below-add : (c b : ℕ) → numbers_below (c + b) ≡ numbers_below c ++ map (λ i. c + i) (numbers_below b)
numbers_below-add c zero =
    let e : c + 0 ≡ c = omega arith in
    ap numbers_below e ∙ sym (append-none (numbers_below c))
  where
    append-none : (xs : List ℕ) → xs ++ [] ≡ xs
    append-none [] = refl
    append-none (x ∷ xs) = ap (λ z. x ∷ z) (append-none xs)
numbers_below-add c (suc b) =
    let e : c + suc b ≡ suc (c + b) = omega arith in
    ap numbers_below e
    ∙ ap (λ z. z ++ (c + b) ∷ []) (numbers_below-add c b)
    ∙ append_assoc (numbers_below c) (map (λ i. c + i) (numbers_below b)) ((c + b) ∷ [])
    ∙ ap (λ z. numbers_below c ++ z) (sym (map-append (λ i. c + i) (numbers_below b) (b ∷ [])))

pub length-numbers_below : (n : ℕ) → length (numbers_below n) ≡ n
length-numbers_below zero = refl
length-numbers_below (suc n) = more (numbers_below n) ∙ ap suc (length-numbers_below n)
  where
    more : (xs : List ℕ) → length (xs ++ n ∷ []) ≡ suc (length xs)
    more [] = refl
    more (x ∷ xs) = ap suc (more xs)

pub get_or-numbers_below : (n i d : ℕ) → i < n → get_or (numbers_below n) i d ≡ i
get_or-numbers_below zero i d h = absurd (omega arith)
get_or-numbers_below (suc n) i d h = step (get_or-numbers_below n i d) (lesser i n h)
  where
    lesser : (i n : ℕ) → i < suc n → (i < n) ⊎ (i ≡ n)
    lesser i n h = grind arith

    front : (xs : List ℕ) (i : ℕ) → i < length xs → get_or (xs ++ n ∷ []) i d ≡ get_or xs i d
    front [] i h = absurd (omega arith)
    front (x ∷ xs) zero h = refl
    front (x ∷ xs) (suc i) h = front xs i (omega arith)

    last : (xs : List ℕ) → get_or (xs ++ n ∷ []) (length xs) d ≡ n
    last [] = refl
    last (x ∷ xs) = last xs

    step : (i < n → get_or (numbers_below n) i d ≡ i) → (i < n) ⊎ (i ≡ n) → get_or (numbers_below n ++ n ∷ []) i d ≡ i
    step before (inl l) = front (numbers_below n) i (subst (λ k. i < k) (sym (length-numbers_below n)) l) ∙ before l
    step before (inr e) = ap (λ k. get_or (numbers_below n ++ n ∷ []) k d) (e ∙ sym (length-numbers_below n)) ∙ last (numbers_below n) ∙ sym e

-- the numbers below n that are less than k
pub filter-numbers_below : (n k : ℕ) → k ≤ n → filter (λ r. ltb r k) (numbers_below n) ≡ numbers_below k
filter-numbers_below zero k h = let e : 0 ≡ k = omega arith in ap numbers_below e
filter-numbers_below (suc n) k h = split (numbers_below n) ∙ step (filter-numbers_below n k) (most k n h)
  where
    most : (k n : ℕ) → k ≤ suc n → (k ≤ n) ⊎ (k ≡ suc n)
    most k n h = grind arith

    split : (xs : List ℕ) → filter (λ r. ltb r k) (xs ++ n ∷ []) ≡ filter (λ r. ltb r k) xs ++ cond (ltb n k) (n ∷ []) []
    split [] = refl
    split (x ∷ xs) = one (ltb x k) (split xs)
      where
        one : (b : Bool) → filter (λ r. ltb r k) (xs ++ n ∷ []) ≡ filter (λ r. ltb r k) xs ++ cond (ltb n k) (n ∷ []) []
            → cond b (x ∷ filter (λ r. ltb r k) (xs ++ n ∷ [])) (filter (λ r. ltb r k) (xs ++ n ∷ [])) ≡ cond b (x ∷ filter (λ r. ltb r k) xs) (filter (λ r. ltb r k) xs) ++ cond (ltb n k) (n ∷ []) []
        one true e = ap (λ z. x ∷ z) e
        one false e = e

    all : (xs : List ℕ) → Each (λ i. i < n) xs → n < k → filter (λ r. ltb r k) xs ≡ xs
    all [] a l = refl
    all (x ∷ xs) a l =
        let in_range : x < k = omega (arith, a.0) in
        ap (λ b. cond b (x ∷ filter (λ r. ltb r k) xs) (filter (λ r. ltb r k) xs)) (lt-ltb x k in_range) ∙ ap (λ z. x ∷ z) (all xs a.1 l)

    append-none : (xs : List ℕ) → xs ++ [] ≡ xs
    append-none [] = refl
    append-none (x ∷ xs) = ap (λ z. x ∷ z) (append-none xs)

    step : (k ≤ n → filter (λ r. ltb r k) (numbers_below n) ≡ numbers_below k) → (k ≤ n) ⊎ (k ≡ suc n) → filter (λ r. ltb r k) (numbers_below n) ++ cond (ltb n k) (n ∷ []) [] ≡ numbers_below k
    step before (inl l) = ap (λ b. filter (λ r. ltb r k) (numbers_below n) ++ cond b (n ∷ []) []) (le-ltb n k l) ∙ append-none (filter (λ r. ltb r k) (numbers_below n)) ∙ before l
    step before (inr e) =
        let l : n < k = omega arith in
        ap₂ (λ xs b. xs ++ cond b (n ∷ []) []) (all (numbers_below n) (numbers_are_below n) l) (lt-ltb n k l) ∙ ap numbers_below (sym e)

pub sum-cons : (x : ℕ) (xs : List ℕ) → sum (x ∷ xs) ≡ x + sum xs
sum-cons x xs = sum_by-cons (λ x. x) x xs

pub length-filter-map : {X Y : Type 0} (p : Y → Bool) (f : X → Y) (xs : List X) → length (filter (λ x. p (f x)) xs) ≡ length (filter p (map f xs))
length-filter-map p f [] = refl
length-filter-map p f (x ∷ xs) = step (p (f x)) (length-filter-map p f xs)
  where
    step : (b : Bool) → length (filter (λ x. p (f x)) xs) ≡ length (filter p (map f xs))
        → length (cond b (x ∷ filter (λ x. p (f x)) xs) (filter (λ x. p (f x)) xs)) ≡ length (cond b (f x ∷ filter p (map f xs)) (filter p (map f xs)))
    step true e = ap suc e
    step false e = e

pub filter-same : {X : Type 0} (P : X → Type 0) (p q : X → Bool) → ((x : X) → P x → p x ≡ q x) → (xs : List X) → Each P xs → filter p xs ≡ filter q xs
filter-same P p q h [] a = refl
filter-same P p q h (x ∷ xs) a = ap₂ (λ b z. cond b (x ∷ z) z) (h x a.0) (filter-same P p q h xs a.1)
