-- Lists of monomials: their numbers, those that a test keeps, and the first of a table.
use Rattle.std.proofs.Common.{Some, ◌≡◌, ℕ, zero, suc, ◌+◌, ◌<◌, Bool, true, false, cond, List, [], ◌∷◌, length, get_or, map, refl, sym, ap, subst, ◌∙◌, arith}
use Rattle.std.specs.List.{filter, All, find}
use Rattle.std.specs.Prelude.{unwrap_or}
use Rattle.mono_exp.specs.declared.exponent.Exp.{Exp}
use Rattle.mono_exp.specs.Exponents.{exponents, monomials_below, rank_of}
use Rattle.mono_exp.proofs.Lists.{map-map, Each, get_or-numbers_below}
use Rattle.mono_exp.proofs.Counting.{place, count_below, places, rank_is_place}
use Rattle.mono_exp.proofs.Table.{length-monomials_below}
use Rattle.mono_exp.proofs.NumberLemmas.{length-exponents}
use Rattle.jacobian_row.proofs.MultipleOrder.{Pairwise}

-- the number of a monomial in n variables
abbrev number_of : ℕ → Exp → ℕ
number_of n a = rank_of n (exponents n a.e)

pub get_or-images : {X Y : Type 0} (f : X → Y) (xs : List X) (i : ℕ) (d : X) (e : Y) → i < length xs → get_or (map f xs) i e ≡ f (get_or xs i d)
get_or-images f [] i d e h = absurd (omega arith)
get_or-images f (x ∷ xs) zero d e h = refl
get_or-images f (x ∷ xs) (suc i) d e h = get_or-images f xs i d e (omega arith)

pub length-images : {X Y : Type 0} (f : X → Y) (xs : List X) → length (map f xs) ≡ length xs
length-images f [] = refl
length-images f (x ∷ xs) = ap suc (length-images f xs)

-- the number of a monomial of the list is its place
module _ (n d : ℕ) (ms : List Exp) (list : map (λ a. exponents n a.e) ms ≡ monomials_below n d) where
  pub count-list : length ms ≡ length (monomials_below n d)
  count-list = sym (length-images (λ (a : Exp). exponents n a.e) ms) ∙ ap length list

  pub number-at : (i : ℕ) (a : Exp) → i < length ms → number_of n (get_or ms i a) ≡ i
  number-at i a h =
      rank_is_place n (exponents n (get_or ms i a).e) (length-exponents n (get_or ms i a).e)
      ∙ sym (get_or-images (λ (b : Exp). place (exponents n b.e)) ms i a 0 h)
      ∙ ap (λ xs. get_or xs i 0) (sym (map-map place (λ (b : Exp). exponents n b.e) ms) ∙ ap (map place) list ∙ places n d)
      ∙ get_or-numbers_below (count_below n d) i 0 (let e = count-list in let f = length-monomials_below n d in omega arith)

rise : (n : ℕ) (ms : List Exp) (s : ℕ) → ((i : ℕ) (a : Exp) → i < length ms → number_of n (get_or ms i a) ≡ s + i) → Pairwise (λ a b. number_of n a < number_of n b) ms
rise n [] s h = tt
rise n (a ∷ ms) s h = (each ms (suc s) (let e = h 0 a (omega arith) in let l : number_of n a < suc s = omega arith in l) (λ i b k. h (suc i) b (omega arith) ∙ (let q : s + suc i ≡ suc s + i = omega arith in q)), rise n ms (suc s) (λ i b k. h (suc i) b (omega arith) ∙ (let q : s + suc i ≡ suc s + i = omega arith in q)))
  where
    each : (bs : List Exp) (t : ℕ) → number_of n a < t → ((i : ℕ) (b : Exp) → i < length bs → number_of n (get_or bs i b) ≡ t + i) → Each (λ b. number_of n a < number_of n b) bs
    each [] t l k = tt
    each (b ∷ bs) t l k = ((let e = k 0 b (omega arith) in omega arith), each bs (suc t) (omega arith) (λ i x q. k (suc i) x (omega arith) ∙ (let z : t + suc i ≡ suc t + i = omega arith in z)))

pub numbers_rise : (n d : ℕ) (ms : List Exp) → map (λ a. exponents n a.e) ms ≡ monomials_below n d → Pairwise (λ a b. number_of n a < number_of n b) ms
numbers_rise n d ms list = rise n ms 0 (λ i a h. number-at n d ms list i a h ∙ (let e : i ≡ 0 + i = omega arith in e))

-- ---- those that a test keeps

-- the images of those whose images pass are the images that pass
pub images-kept : {X Y : Type 0} (p : Y → Bool) (f : X → Y) (xs : List X) → map f (filter (λ x. p (f x)) xs) ≡ filter p (map f xs)
images-kept p f [] = refl
images-kept {X} {Y} p f (x ∷ xs) = step (p (f x)) (images-kept p f xs)
  where
    step : (b : Bool) → map f (filter (λ x. p (f x)) xs) ≡ filter p (map f xs) → map f (cond b (x ∷ filter (λ x. p (f x)) xs) (filter (λ x. p (f x)) xs)) ≡ cond b (f x ∷ filter p (map f xs)) (filter p (map f xs))
    step true e = ap (λ (ys : List Y). f x ∷ ys) e
    step false e = e

module _ {X : Type 0} (p : X → Bool) where
  pub kept_all : (P : X → Type 0) (xs : List X) → All P xs → All P (filter p xs)
  kept_all P [] all = all
  kept_all P (x ∷ xs) all = step (p x) (kept_all P xs (λ j d h. all (suc j) d (omega arith)))
    where
      step : (b : Bool) → All P (filter p xs) → All P (cond b (x ∷ filter p xs) (filter p xs))
      step true rest zero d h = all 0 x (omega arith)
      step true rest (suc j) d h = rest j d (omega arith)
      step false rest j d h = rest j d h

  pub kept_pass : (xs : List X) → All (λ x. p x ≡ true) (filter p xs)
  kept_pass [] = λ j d h. absurd (omega arith)
  kept_pass (x ∷ xs) = step (p x) refl (kept_pass xs)
    where
      step : (b : Bool) → p x ≡ b → All (λ x. p x ≡ true) (filter p xs) → All (λ x. p x ≡ true) (cond b (x ∷ filter p xs) (filter p xs))
      step true e rest zero d h = e
      step true e rest (suc j) d h = rest j d (omega arith)
      step false e rest j d h = rest j d h

  -- an element that passes is kept
  pub kept_has : (xs : List X) (i : ℕ) (d : X) → i < length xs → p (get_or xs i d) ≡ true → (j : ℕ) × ((j < length (filter p xs)) × (get_or (filter p xs) j d ≡ get_or xs i d))
  kept_has [] i d h e = absurd (omega arith)
  kept_has (x ∷ xs) zero d h e = subst (λ b. (j : ℕ) × ((j < length (cond b (x ∷ filter p xs) (filter p xs))) × (get_or (cond b (x ∷ filter p xs) (filter p xs)) j d ≡ x))) (sym e) (0, (omega arith, refl))
  kept_has (x ∷ xs) (suc i) d h e = step (p x) (kept_has xs i d (omega arith) e)
    where
      step : (b : Bool) → (j : ℕ) × ((j < length (filter p xs)) × (get_or (filter p xs) j d ≡ get_or xs i d)) → (j : ℕ) × ((j < length (cond b (x ∷ filter p xs) (filter p xs))) × (get_or (cond b (x ∷ filter p xs) (filter p xs)) j d ≡ get_or xs i d))
      step true f = (suc f.0, (let l = f.1.0 in omega arith, f.1.1))
      step false f = f

  -- the first that passes
  pub found_first : (xs : List X) (j : ℕ) (d e : X) → j < length xs → p (get_or xs j d) ≡ true → ((i : ℕ) → i < j → p (get_or xs i d) ≡ false) → unwrap_or (find p xs) e ≡ get_or xs j d
  found_first [] j d e h here before = absurd (omega arith)
  found_first (x ∷ xs) zero d e h here before = ap (λ b. unwrap_or (cond b (Some x) (find p xs)) e) here
  found_first (x ∷ xs) (suc j) d e h here before = ap (λ b. unwrap_or (cond b (Some x) (find p xs)) e) (before 0 (omega arith)) ∙ found_first xs j d e (omega arith) here (λ i l. before (suc i) (omega arith))
