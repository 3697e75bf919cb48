-- Exponents with zeros up to eight places.
use Rattle.std.proofs.Common.{◌≡◌, ℕ, zero, suc, ◌+◌, ◌-◌, ◌<◌, ◌≤◌, ◌⊎◌, inl, inr, List, [], ◌∷◌, ◌++◌, length, take, get_or, replicate, refl, sym, ◌∙◌, arith}
use Rattle.std.proofs.Math.ListN.{get_or-append}
use Rattle.std.proofs.Math.Seq.{get_or-append_right}
use Rattle.std.proofs.lemmas.Bool.{cases_lt}
use Rattle.std.proofs.lemmas.List.{get_or-take, get_or_past, length-replicate, length-append, length-take}
use Rattle.poly_law.proofs.ExpLists.{exps_are}
use Rattle.mono_exp.specs.Exponents.{IsIn}
use Rattle.jet_law.specs.Terms.{exp_of}
use Rattle.jet_law.specs.Canonical.{monomial_in}
use Rattle.jet_law.proofs.TermLemmas.{at-exp_of}
use Rattle.normal_forms.specs.Monomials.{in_eight, square_of}

-- a list of zeros has 0 everywhere
pub get_or-zeros : (n i : ℕ) → get_or (replicate {A = ℕ} n 0) i 0 ≡ 0
get_or-zeros zero i = refl
get_or-zeros (suc n) zero = refl
get_or-zeros (suc n) (suc i) = get_or-zeros n i

take_past : (n : ℕ) (xs : List ℕ) (i : ℕ) → n ≤ i → get_or (take n xs) i 0 ≡ 0
take_past zero xs i h = refl
take_past (suc n) [] i h = refl
take_past (suc n) (x ∷ xs) zero h = absurd (omega arith)
take_past (suc n) (x ∷ xs) (suc i) h = take_past n xs i (omega arith)

-- eight places
pub length-in_eight : (e : List ℕ) → length (in_eight e).e ≡ 8
length-in_eight e =
    let a : length (e ++ replicate 8 0) ≡ length e + length (replicate {A = ℕ} 8 0) = length-append e (replicate 8 0) in
    let b : length (replicate {A = ℕ} 8 0) ≡ 8 = length-replicate {A = ℕ} 8 0 in
    omega (arith, length-take 8 (e ++ replicate 8 0))

-- the exponents are the same in the first eight places
pub get_or-in_eight : (e : List ℕ) (i : ℕ) → i < 8 → get_or (in_eight e).e i 0 ≡ get_or e i 0
get_or-in_eight e i h = get_or-take 8 (e ++ replicate 8 0) i 0 h ∙ step (cases_lt i (length e))
  where
    step : (i < length e) ⊎ (length e ≤ i) → get_or (e ++ replicate 8 0) i 0 ≡ get_or e i 0
    step (inl l) = get_or-append e (replicate 8 0) 0 i l
    step (inr l) = get_or-append_right e (replicate 8 0) i 0 l ∙ get_or-zeros 8 (i - length e) ∙ sym (get_or_past e i 0 l)

-- c exponents are those of a monomial in c variables
pub in_eight-in : (c : ℕ) (e : List ℕ) → length e ≤ c → IsIn c (in_eight e).e
in_eight-in c e short i h = step (cases_lt i 8)
  where
    step : (i < 8) ⊎ (8 ≤ i) → get_or (in_eight e).e i 0 ≡ 0
    step (inl l) = get_or-in_eight e i l ∙ get_or_past e i 0 (omega arith)
    step (inr l) = take_past 8 (e ++ replicate 8 0) i l

pub exp_of-in_eight : (c : ℕ) (e : List ℕ) → c ≤ 8 → exp_of c (in_eight e) ≡ monomial_in c e
exp_of-in_eight c e few = (exps_are c).same_at (exp_of c (in_eight e)) (monomial_in c e) λ i h.
    at-exp_of c (in_eight e) i h ∙ get_or-in_eight e i (omega arith) ∙ sym ((exps_are c).at_make (λ i. get_or e i 0) i h)

short : (i n : ℕ) → i < n → length (replicate {A = ℕ} i 0 ++ 2 ∷ []) ≤ n
short i n h =
    let a : length (replicate {A = ℕ} i 0 ++ 2 ∷ []) ≡ length (replicate {A = ℕ} i 0) + 1 = length-append (replicate i 0) (2 ∷ []) in
    let b : length (replicate {A = ℕ} i 0) ≡ i = length-replicate i 0 in
    omega arith

-- the square of a variable below n is a monomial in n variables
pub square-in : (n i : ℕ) → i < n → IsIn n (square_of i).e
square-in n i h = in_eight-in n (replicate i 0 ++ 2 ∷ []) (short i n h)
