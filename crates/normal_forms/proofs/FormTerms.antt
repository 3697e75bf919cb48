-- The terms of a form: their monomials differ, and they are those of the family's sum and the squares.
use Rattle.std.proofs.Common.{◌≡◌, ℕ, zero, suc, ◌+◌, ◌<◌, ◌≤◌, ◌⊎◌, inl, inr, Bool, true, false, cond, ◌&&◌, ◌||◌, List, [], ◌∷◌, ◌++◌, length, map, take, drop, get_or, replicate, sum, eqb-true, eq-eqb, leb-true, refl, sym, ap, ap₂, subst, ◌∙◌, true≢false, add-one, append_assoc, arith}
use Rattle.std.specs.Prelude.{◌==◌, not, nat_le}
use Rattle.std.specs.Str.{bytes_eq}
use Rattle.std.specs.List.{AllByRecursion, list_any, zip}
use Rattle.std.proofs.Math.ListN.{get_or-append}
use Rattle.std.proofs.lemmas.List.{take_more, map-append, get_or-drop, length-replicate}
use Rattle.std.proofs.lemmas.Slice.Eq.{bytes_eq-Decides}
use Rattle.mono_exp.specs.declared.exponent.Exp.{Exp}
use Rattle.normal_forms.specs.declared.family.Family.{Family}
use Rattle.normal_forms.specs.declared.family.Family.TheVariants as families
use Rattle.normal_forms.specs.Monomials.{in_eight, numbers_below, is_residual, is_square, square_of}
use Rattle.normal_forms.specs.Families.{is_family, sum_of}
use Rattle.normal_forms.specs.Distinct.{are_distinct, exponents_in}
use Rattle.normal_forms.proofs.Padded.{get_or-in_eight, get_or-zeros}
use Rattle.normal_forms.proofs.Residual.{residual_in}

-- ---- pairs of lists

pub zip-firsts : {E : Type 0} (P : Exp → Type 0) (ks : List Exp) (vs : List E) → AllByRecursion P ks → AllByRecursion (λ t. P t.0) (zip ks vs)
zip-firsts P [] vs a = tt
zip-firsts P (k ∷ ks) [] a = tt
zip-firsts P (k ∷ ks) (v ∷ vs) a = (a.0, zip-firsts P ks vs a.1)

pub zip-seconds : {E : Type 0} (P : E → Type 0) (ks : List Exp) (vs : List E) → AllByRecursion P vs → AllByRecursion (λ t. P t.1) (zip ks vs)
zip-seconds P [] vs a = tt
zip-seconds P (k ∷ ks) [] a = tt
zip-seconds P (k ∷ ks) (v ∷ vs) a = (a.0, zip-seconds P ks vs a.1)

pub exponents-zip : {E : Type 0} (ks : List Exp) (vs : List E) → length ks ≡ length vs → exponents_in (zip ks vs) ≡ map (λ a. a.e) ks
exponents-zip [] vs l = refl
exponents-zip (k ∷ ks) [] l = absurd (omega arith)
exponents-zip (k ∷ ks) (v ∷ vs) l = ap (λ es. k.e ∷ es) (exponents-zip ks vs (omega arith))

zip-push : {E : Type 0} (ks : List Exp) (vs : List E) (k : Exp) (v : E) → length ks ≡ length vs → zip (ks ++ k ∷ []) (vs ++ v ∷ []) ≡ zip ks vs ++ (k, v) ∷ []
zip-push [] [] k v l = refl
zip-push [] (x ∷ vs) k v l = absurd (omega arith)
zip-push (x ∷ ks) [] k v l = absurd (omega arith)
zip-push (x ∷ ks) (y ∷ vs) k v l = ap (λ ts. (x, y) ∷ ts) (zip-push ks vs k v (omega arith))

pub all-append : {X : Type 0} (P : X → Type 0) (xs ys : List X) → AllByRecursion P xs → AllByRecursion P ys → AllByRecursion P (xs ++ ys)
all-append P [] ys a b = b
all-append P (x ∷ xs) ys a b = (a.0, all-append P xs ys a.1 b)

pub length-map-numbers : {X : Type 0} (f : ℕ → X) (n : ℕ) → length (map f (numbers_below n)) ≡ n
length-map-numbers f zero = refl
length-map-numbers f (suc n) = ap length (map-append f (numbers_below n) (n ∷ [])) ∙ pushed (map f (numbers_below n)) ∙ ap suc (length-map-numbers f n)
  where
    pushed : (xs : List _) → length (xs ++ f n ∷ []) ≡ suc (length xs)
    pushed [] = refl
    pushed (x ∷ xs) = ap suc (pushed xs)

pub all-numbers : {X : Type 0} (P : X → Type 0) (f : ℕ → X) (n : ℕ) → ((i : ℕ) → i < n → P (f i)) → AllByRecursion P (map f (numbers_below n))
all-numbers P f zero h = tt
all-numbers P f (suc n) h =
    subst (AllByRecursion P) (sym (map-append f (numbers_below n) (n ∷ [])))
    (all-append P (map f (numbers_below n)) (f n ∷ []) (all-numbers P f n (λ i l. h i (omega arith))) (h n (omega arith), tt))

-- a loop that appends the squares
pub squares-push : {E : Type 0} (f : ℕ → Exp) (start olds news : List (Exp × E)) (xs : List E) (i : ℕ) (d : E) → i < length xs → olds ≡ start ++ zip (map f (numbers_below i)) (take i xs) → news ≡ olds ++ (f i, get_or xs i d) ∷ []
    → news ≡ start ++ zip (map f (numbers_below (i + 1))) (take (i + 1) xs)
squares-push {E = E} f start olds news xs i d l so_far new =
    let numbers : map f (numbers_below (i + 1)) ≡ map f (numbers_below i) ++ f i ∷ [] = rw add-one (map-append f (numbers_below i) (i ∷ [])) in
    let long : length (map f (numbers_below i)) ≡ length (take i xs) = length-map-numbers f i ∙ sym (length_taken xs i (omega arith)) in
    new ∙ ap (λ z. z ++ (f i, get_or xs i d) ∷ []) so_far ∙ append_assoc start (zip (map f (numbers_below i)) (take i xs)) ((f i, get_or xs i d) ∷ [])
    ∙ ap (λ z. start ++ z) (sym (ap₂ zip numbers (take_more xs i d l) ∙ zip-push (map f (numbers_below i)) (take i xs) (f i) (get_or xs i d) long))
  where
    length_taken : (xs : List E) (i : ℕ) → i ≤ length xs → length (take i xs) ≡ i
    length_taken xs zero h = refl
    length_taken [] (suc i) h = absurd (omega arith)
    length_taken (x ∷ xs) (suc i) h = ap suc (length_taken xs i (omega arith))

-- ---- different monomials

abbrev pub Differs : List ℕ → List ℕ → Type 0
Differs a b = bytes_eq a b ≡ false

pub differs_at : (a b : List ℕ) (i : ℕ) → (get_or a i 0 ≡ get_or b i 0 → ⊥) → Differs a b
differs_at a b i h = step (bytes_eq a b) refl
  where
    step : (t : Bool) → bytes_eq a b ≡ t → bytes_eq a b ≡ false
    step true e = absurd (h (ap (λ z. get_or z i 0) ((bytes_eq-Decides a b).0 e)))
    step false e = e

none_any : (e : List ℕ) (es : List (List ℕ)) → AllByRecursion (Differs e) es → list_any (bytes_eq e) es ≡ false
none_any e [] a = refl
none_any e (x ∷ es) a = ap₂ (λ p q. p || q) a.0 (none_any e es a.1)

any-append : (e : List ℕ) (xs ys : List (List ℕ)) → list_any (bytes_eq e) (xs ++ ys) ≡ (list_any (bytes_eq e) xs || list_any (bytes_eq e) ys)
any-append e [] ys = refl
any-append e (x ∷ xs) ys = ap (λ b. bytes_eq e x || b) (any-append e xs ys) ∙ regroup (bytes_eq e x)
  where
    regroup : (a : Bool) → (a || (list_any (bytes_eq e) xs || list_any (bytes_eq e) ys)) ≡ ((a || list_any (bytes_eq e) xs) || list_any (bytes_eq e) ys)
    regroup true = refl
    regroup false = refl

-- two lists of different monomials that have none in common
pub distinct-append : (xs ys : List (List ℕ)) → are_distinct xs ≡ true → are_distinct ys ≡ true → AllByRecursion (λ x. AllByRecursion (Differs x) ys) xs → are_distinct (xs ++ ys) ≡ true
distinct-append [] ys dx dy a = dy
distinct-append (x ∷ xs) ys dx dy a =
    step (list_any (bytes_eq x) xs) refl (distinct-append xs ys (second (list_any (bytes_eq x) xs) dx) dy a.1)
  where
    second : (b : Bool) → (not b && are_distinct xs) ≡ true → are_distinct xs ≡ true
    second true h = absurd (true≢false (sym h))
    second false h = h

    step : (b : Bool) → list_any (bytes_eq x) xs ≡ b → are_distinct (xs ++ ys) ≡ true → (not (list_any (bytes_eq x) (xs ++ ys)) && are_distinct (xs ++ ys)) ≡ true
    step true e rest = absurd (true≢false (sym (sym (ap (λ b. not b && are_distinct xs) e) ∙ dx)))
    step false e rest = ap₂ (λ p q. not p && q) (any-append x xs ys ∙ ap₂ (λ p q. p || q) e (none_any x ys a.0)) rest

-- ---- the squares

each_below_8 : (P : ℕ → Type 0) → P 0 → P 1 → P 2 → P 3 → P 4 → P 5 → P 6 → P 7 → (j : ℕ) → j < 8 → P j
each_below_8 P a b c d e f g h zero l = a
each_below_8 P a b c d e f g h (suc zero) l = b
each_below_8 P a b c d e f g h (suc (suc zero)) l = c
each_below_8 P a b c d e f g h (suc (suc (suc zero))) l = d
each_below_8 P a b c d e f g h (suc (suc (suc (suc zero)))) l = e
each_below_8 P a b c d e f g h (suc (suc (suc (suc (suc zero))))) l = f
each_below_8 P a b c d e f g h (suc (suc (suc (suc (suc (suc zero)))))) l = g
each_below_8 P a b c d e f g h (suc (suc (suc (suc (suc (suc (suc zero))))))) l = h
each_below_8 P a b c d e f g h (suc (suc (suc (suc (suc (suc (suc (suc j)))))))) l = absurd (omega arith)

square_sum : (j : ℕ) → j < 8 → sum (square_of j).e ≡ 2
square_sum j l = each_below_8 (λ j. sum (square_of j).e ≡ 2) refl refl refl refl refl refl refl refl j l

pub square_long : (j : ℕ) → j < 8 → length (square_of j).e ≡ 8
square_long j l = each_below_8 (λ j. length (square_of j).e ≡ 8) refl refl refl refl refl refl refl refl j l

pub square_at : (j : ℕ) → j < 8 → get_or (square_of j).e j 0 ≡ 2
square_at j l = each_below_8 (λ j. get_or (square_of j).e j 0 ≡ 2) refl refl refl refl refl refl refl refl j l

any_two : (xs : List ℕ) (i : ℕ) → get_or xs i 0 ≡ 2 → list_any (λ e. e == 2) xs ≡ true
any_two [] i h = absurd (let bad : ⊥ = omega arith in bad)
any_two (x ∷ xs) zero h = ap (λ b. b || list_any (λ e. e == 2) xs) (eq-eqb x 2 h)
any_two (x ∷ xs) (suc i) h = step (x == 2) (any_two xs i h)
  where
    step : (b : Bool) → list_any (λ e. e == 2) xs ≡ true → (b || list_any (λ e. e == 2) xs) ≡ true
    step true e = refl
    step false e = e

pub square_is_square : (c i : ℕ) → c + i < 8 → is_square c (square_of (c + i)) ≡ true
square_is_square c i l =
    ap₂ (λ a b. a && b) (eq-eqb (sum (square_of (c + i)).e) 2 (square_sum (c + i) l))
    (any_two (drop c (square_of (c + i)).e) i (get_or-drop c (square_of (c + i)).e i 0 ∙ square_at (c + i) l))

pub square_not_residual : (c i : ℕ) → c + i < 8 → is_residual c (square_of (c + i)) ≡ false
square_not_residual c i l = step (is_residual c (square_of (c + i))) refl
  where
    step : (b : Bool) → is_residual c (square_of (c + i)) ≡ b → is_residual c (square_of (c + i)) ≡ false
    step true e = absurd (let z = residual_in c (square_of (c + i)) e (c + i) (omega arith) in let two = square_at (c + i) l in let bad : ⊥ = omega arith in bad)
    step false e = e

square_zero : (i j : ℕ) → i < j → j < 8 → get_or (square_of j).e i 0 ≡ 0
square_zero i j l h =
    let long : length (replicate {A = ℕ} j 0) ≡ j = length-replicate j 0 in
    get_or-in_eight (replicate j 0 ++ 2 ∷ []) i (omega arith) ∙ get_or-append (replicate j 0) (2 ∷ []) 0 i (omega arith) ∙ get_or-zeros j i

two_squares : (i j : ℕ) → i < j → j < 8 → Differs (square_of i).e (square_of j).e
two_squares i j l h =
    let two = square_at i (omega arith) in
    let none = square_zero i j l h in
    differs_at (square_of i).e (square_of j).e i (λ e. omega arith)

-- the squares of k variables from number c on
abbrev pub squares_from : ℕ → ℕ → List Exp
squares_from c k = map (λ i. square_of (c + i)) (numbers_below k)

abbrev pub entries : List Exp → List (List ℕ)
entries xs = map (λ a. a.e) xs

entries-append : (xs ys : List Exp) → entries (xs ++ ys) ≡ entries xs ++ entries ys
entries-append xs ys = map-append (λ (a : Exp). a.e) xs ys

pub all-entries : (P : List ℕ → Type 0) (xs : List Exp) → AllByRecursion (λ a. P a.e) xs → AllByRecursion P (entries xs)
all-entries P [] a = tt
all-entries P (x ∷ xs) a = (a.0, all-entries P xs a.1)

pub squares_distinct : (c k : ℕ) → c + k ≤ 8 → are_distinct (entries (squares_from c k)) ≡ true
squares_distinct c zero h = refl
squares_distinct c (suc k) h =
    ap are_distinct (ap entries (map-append (λ i. square_of (c + i)) (numbers_below k) (k ∷ [])) ∙ entries-append (squares_from c k) (square_of (c + k) ∷ []))
    ∙ distinct-append (entries (squares_from c k)) ((square_of (c + k)).e ∷ []) (squares_distinct c k (omega arith)) refl
    (all-entries (λ x. AllByRecursion (Differs x) ((square_of (c + k)).e ∷ [])) (squares_from c k)
    (all-numbers (λ (a : Exp). AllByRecursion (Differs a.e) ((square_of (c + k)).e ∷ [])) (λ i. square_of (c + i)) k (λ i l. (two_squares (c + i) (c + k) (omega arith) (omega arith), tt))))

-- ---- the monomials of a family's sum

abbrev of_sum : List (List ℕ) → List (List ℕ)
of_sum es = entries (map in_eight es)

pub and_true : (a b : Bool) → (a && b) ≡ true → (a ≡ true) × (b ≡ true)
and_true true b h = (refl, h)
and_true false b h = absurd (true≢false (sym h))

or_true : (a b : Bool) → (a || b) ≡ true → (a ≡ true) ⊎ (b ≡ true)
or_true true b h = inl refl
or_true false b h = inr h

le_of : (a b : ℕ) → nat_le a b ≡ true → a ≤ b
le_of a b h = leb-true a b h

-- T(2,q,r) with q neither 3 nor 4 has q at least 5
long_second : (p q r : ℕ) → is_family (families.T p q r) ≡ true → (p == 2) ≡ true → (q == 3) ≡ false → (q == 4) ≡ false → 5 ≤ q
long_second p q r h e2 e3 e4 =
    elim (or_true ((p == 2) && ((q == 3) && nat_le 7 r)) _ h) [
      | inl k ↦ absurd (true≢false (sym (and_true (q == 3) (nat_le 7 r) (and_true (p == 2) ((q == 3) && nat_le 7 r) k).1).0 ∙ e3))
      | inr k ↦ elim (or_true ((p == 2) && ((q == 4) && nat_le 5 r)) _ k) [
        | inl k ↦ absurd (true≢false (sym (and_true (q == 4) (nat_le 5 r) (and_true (p == 2) ((q == 4) && nat_le 5 r) k).1).0 ∙ e4))
        | inr k ↦ elim (or_true ((p == 2) && (nat_le 5 q && nat_le q r)) _ k) [
          | inl k ↦ le_of 5 q (and_true (nat_le 5 q) (nat_le q r) (and_true (p == 2) (nat_le 5 q && nat_le q r) k).1).0
          | inr k ↦ let three = le_of 3 p (and_true (nat_le 3 p) _ k).0 in let two = eqb-true p 2 e2 in absurd (let bad : ⊥ = omega arith in bad)
        ]
      ]
    ]

-- T(p,q,r) in three variables has p and q at least 3
long_first : (p q r : ℕ) → is_family (families.T p q r) ≡ true → (p == 2) ≡ false → (3 ≤ p) × (3 ≤ q)
long_first p q r h e2 =
    elim (or_true ((p == 2) && ((q == 3) && nat_le 7 r)) _ h) [
      | inl k ↦ absurd (true≢false (sym (and_true (p == 2) ((q == 3) && nat_le 7 r) k).0 ∙ e2))
      | inr k ↦ elim (or_true ((p == 2) && ((q == 4) && nat_le 5 r)) _ k) [
        | inl k ↦ absurd (true≢false (sym (and_true (p == 2) ((q == 4) && nat_le 5 r) k).0 ∙ e2))
        | inr k ↦ elim (or_true ((p == 2) && (nat_le 5 q && nat_le q r)) _ k) [
          | inl k ↦ absurd (true≢false (sym (and_true (p == 2) (nat_le 5 q && nat_le q r) k).0 ∙ e2))
          | inr k ↦ let all = and_true (nat_le 3 p) (nat_le p q && (nat_le q r && nat_le 4 r)) k in let three = le_of 3 p all.0 in let more = le_of p q (and_true (nat_le p q) (nat_le q r && nat_le 4 r) all.1).0 in
              (three, omega arith)
        ]
      ]
    ]

distinct_three : (a b c : List ℕ) → Differs a b → Differs a c → Differs b c → are_distinct (a ∷ b ∷ c ∷ []) ≡ true
distinct_three a b c ab ac bc = rw (ab, ac, bc) refl

distinct_four : (a b c d : List ℕ) → Differs a b → Differs a c → Differs a d → Differs b c → Differs b d → Differs c d → are_distinct (a ∷ b ∷ c ∷ d ∷ []) ≡ true
distinct_four a b c d ab ac ad bc bd cd = rw (ab, ac, ad, bc, bd, cd) refl

abbrev hyperbolic : Bool → Bool → Bool → ℕ → ℕ → ℕ → List (List ℕ)
hyperbolic a b d p q r =
    cond a (cond b ((3 ∷ 0 ∷ []) ∷ (2 ∷ 2 ∷ []) ∷ (0 ∷ r ∷ []) ∷ []) (cond d ((4 ∷ 0 ∷ []) ∷ (2 ∷ 2 ∷ []) ∷ (0 ∷ r ∷ []) ∷ []) ((2 ∷ 2 ∷ []) ∷ (q ∷ 0 ∷ []) ∷ (0 ∷ r ∷ []) ∷ [])))
    ((1 ∷ 1 ∷ 1 ∷ []) ∷ (p ∷ 0 ∷ 0 ∷ []) ∷ (0 ∷ q ∷ 0 ∷ []) ∷ (0 ∷ 0 ∷ r ∷ []) ∷ [])

-- the monomials of a family's sum differ
pub sum_distinct : (f : Family) → is_family f ≡ true → are_distinct (of_sum (sum_of f)) ≡ true
sum_distinct (families.A m) h = step (m == 1)
  where
    step : (b : Bool) → are_distinct (of_sum (cond b [] (((m + 1) ∷ []) ∷ []))) ≡ true
    step true = refl
    step false = refl
sum_distinct (families.T p q r) h = step (p == 2) (q == 3) (q == 4) refl refl refl
  where
    step : (a b d : Bool) → (p == 2) ≡ a → (q == 3) ≡ b → (q == 4) ≡ d → are_distinct (of_sum (hyperbolic a b d p q r)) ≡ true
    step true true d ea eb ed = refl
    step true false true ea eb ed = refl
    step true false false ea eb ed =
        let long = long_second p q r h ea eb ed in
        distinct_three (in_eight (2 ∷ 2 ∷ [])).e (in_eight (q ∷ 0 ∷ [])).e (in_eight (0 ∷ r ∷ [])).e
        (differs_at (in_eight (2 ∷ 2 ∷ [])).e (in_eight (q ∷ 0 ∷ [])).e 1 (λ e. omega arith)) refl
        (differs_at (in_eight (q ∷ 0 ∷ [])).e (in_eight (0 ∷ r ∷ [])).e 0 (λ e. omega arith))
    step false b d ea eb ed =
        let long = long_first p q r h ea in
        let at_least = long.0 in
        let at_least_too = long.1 in
        distinct_four (in_eight (1 ∷ 1 ∷ 1 ∷ [])).e (in_eight (p ∷ 0 ∷ 0 ∷ [])).e (in_eight (0 ∷ q ∷ 0 ∷ [])).e (in_eight (0 ∷ 0 ∷ r ∷ [])).e
        (differs_at (in_eight (1 ∷ 1 ∷ 1 ∷ [])).e (in_eight (p ∷ 0 ∷ 0 ∷ [])).e 1 (λ e. omega arith)) refl refl
        (differs_at (in_eight (p ∷ 0 ∷ 0 ∷ [])).e (in_eight (0 ∷ q ∷ 0 ∷ [])).e 0 (λ e. omega arith))
        (differs_at (in_eight (p ∷ 0 ∷ 0 ∷ [])).e (in_eight (0 ∷ 0 ∷ r ∷ [])).e 0 (λ e. omega arith))
        (differs_at (in_eight (0 ∷ q ∷ 0 ∷ [])).e (in_eight (0 ∷ 0 ∷ r ∷ [])).e 1 (λ e. omega arith))
sum_distinct _ h = refl
