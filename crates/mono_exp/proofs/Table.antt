-- A table of numbers of monomials, row by row from the recursion that the numbers obey.
use Rattle.std.proofs.Common.{◌≡◌, ℕ, zero, suc, ◌+◌, ◌-◌, ◌<◌, ◌≤◌, ◌⊎◌, inl, inr, Bool, true, false, ◌&&◌, eqb, eqb-true, List, [], ◌∷◌, length, get_or, refl, sym, ap, ap₂, subst, ◌∙◌, arith}
use Rattle.mono_exp.proofs.Lists.{length-numbers_below}
use Rattle.mono_exp.specs.Exponents.{monomials_below}
use Rattle.mono_exp.specs.declared.number.TheConstants.{FIRST}
use Rattle.mono_exp.proofs.Counting.{count_below, count-more, count-none, count-one, count-le, places, place}
use Rattle.std.proofs.lemmas.List.{length-map}

-- up to d, each number is the sum of the one before it and the one above it
abbrev follows : List ℕ → List ℕ → ℕ → Bool
follows above row zero = eqb (get_or row 0 0) 0
follows above row (suc d) = follows above row d && eqb (get_or row (suc d) 0) (get_or row d 0 + get_or above (suc d) 0)

abbrev all_follow : List ℕ → List (List ℕ) → Bool
all_follow above [] = true
all_follow above (row ∷ rows) = follows above row 18 && all_follow row rows

and_left : (a b : Bool) → (a && b) ≡ true → a ≡ true
and_left true b h = refl
and_left false b h = h

and_right : (a b : Bool) → (a && b) ≡ true → b ≡ true
and_right true b h = h
and_right false b h = let bad : ⊥ = cc h in absurd bad

-- the row counts the monomials in n variables, up to degree 18
abbrev Counts : ℕ → List ℕ → Type 0
Counts n row = (d : ℕ) → d ≤ 18 → get_or row d 0 ≡ count_below n d

row_up_to : (n : ℕ) (above row : List ℕ) → Counts n above → (d : ℕ) → d ≤ 18 → follows above row d ≡ true → get_or row d 0 ≡ count_below (suc n) d
row_up_to n above row a zero h f = eqb-true (get_or row 0 0) 0 f ∙ sym (count-none (suc n))
row_up_to n above row a (suc d) h f =
    eqb-true (get_or row (suc d) 0) (get_or row d 0 + get_or above (suc d) 0) (and_right (follows above row d) _ f)
    ∙ ap₂ (λ x y. x + y) (row_up_to n above row a d (omega arith) (and_left (follows above row d) _ f)) (a (suc d) h)
    ∙ sym (count-more n d)

front : (above row : List ℕ) (c d : ℕ) → d ≤ c → follows above row c ≡ true → follows above row d ≡ true
front above row zero d h f = let e : 0 ≡ d = omega arith in subst (λ k. follows above row k ≡ true) e f
front above row (suc c) d h f = step (front above row c d) (cases d c h)
  where
    cases : (d c : ℕ) → d ≤ suc c → (d ≤ c) ⊎ (suc c ≡ d)
    cases d c h = grind arith

    step : (d ≤ c → follows above row c ≡ true → follows above row d ≡ true) → (d ≤ c) ⊎ (suc c ≡ d) → follows above row d ≡ true
    step before (inl l) = before l (and_left (follows above row c) _ f)
    step before (inr e) = subst (λ k. follows above row k ≡ true) e f

rows_count : (n : ℕ) (above : List ℕ) (rows : List (List ℕ)) → Counts n above → all_follow above rows ≡ true → (k : ℕ) → k < suc (length rows) → Counts (n + k) (get_or (above ∷ rows) k [])
rows_count n above rows a f zero h = let e : n ≡ n + 0 = omega arith in subst (λ m. Counts m above) e a
rows_count n above [] a f (suc k) h = absurd (omega arith)
rows_count n above (row ∷ rows) a f (suc k) h =
    let e : suc n + k ≡ n + suc k = omega arith in
    let next : Counts (suc n) row = λ d g. row_up_to n above row a d g (front above row 18 d g (and_left (follows above row 18) (all_follow row rows) f)) in
    subst (λ m. Counts m (get_or (row ∷ rows) k [])) e (rows_count (suc n) row rows next (and_right (follows above row 18) (all_follow row rows) f) k (omega arith))

abbrev ones_list : ℕ → List ℕ
ones_list zero = []
ones_list (suc k) = 1 ∷ ones_list k

get_or-ones : (k d : ℕ) → suc d ≤ k → get_or (ones_list k) d 0 ≡ 1
get_or-ones zero d h = absurd (omega arith)
get_or-ones (suc k) zero h = refl
get_or-ones (suc k) (suc d) h = get_or-ones k d (omega arith)

-- without variables there is the monomial 1 alone
zero_row : Counts 0 (0 ∷ ones_list 18)
zero_row zero h = sym (count-none 0)
zero_row (suc d) h = get_or-ones 18 d h ∙ sym (count-one d)

pub table_counts : (n d : ℕ) → n ≤ 8 → d ≤ 18 → get_or (get_or FIRST n []) d 0 ≡ count_below n d
table_counts n d h g = rows_count 0 (get_or FIRST 0 []) (Rattle.std.proofs.Common.drop 1 FIRST) zero_row refl n (omega arith) d g ∙ ap (λ m. count_below m d) (let e : 0 + n ≡ n = omega arith in e)

-- more variables, more monomials
count-vars : (n d : ℕ) → count_below n d ≤ count_below (suc n) d
count-vars n zero = let a = count-none n in let b = count-none (suc n) in omega arith
count-vars n (suc d) = let a = count-more n d in omega arith

count-vars-le : (m n d : ℕ) → count_below m d ≤ count_below (n + m) d
count-vars-le m zero d = let e : 0 + m ≡ m = omega arith in subst (λ k. count_below m d ≤ count_below k d) (sym e) (omega arith)
count-vars-le m (suc n) d =
    let e : suc n + m ≡ suc (n + m) = omega arith in
    let a = count-vars-le m n d in
    let b = count-vars (n + m) d in
    subst (λ k. count_below m d ≤ count_below k d) (sym e) (omega arith)

pub count-small : (n d : ℕ) → n ≤ 8 → d ≤ 18 → count_below n d ≤ 1081575
count-small n d h g =
    let e : (8 - n) + n ≡ 8 = omega arith in
    let a = count-le n d 18 g in
    let b : count_below n 18 ≤ count_below 8 18 = subst (λ k. count_below n 18 ≤ count_below k 18) e (count-vars-le n (8 - n) 18) in
    let top : 1081575 ≡ count_below 8 18 = table_counts 8 18 (omega arith) (omega arith) in
    omega arith

-- as many monomials have degree below d
pub length-monomials_below : (n d : ℕ) → length (monomials_below n d) ≡ count_below n d
length-monomials_below n d = sym (length-map (monomials_below n d) place) ∙ ap length (places n d) ∙ length-numbers_below (count_below n d)
