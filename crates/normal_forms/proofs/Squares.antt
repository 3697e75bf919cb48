-- Tests on the squares of all square variables, and on the residual terms.
use Rattle.std.proofs.Common.{◌≡◌, ℕ, zero, suc, ◌+◌, ◌-◌, ◌<◌, Bool, true, false, ◌&&◌, ◌||◌, ◌⊎◌, inl, inr, List, [], ◌∷◌, refl, sym, ap, ◌∙◌, arith}
use Rattle.std.specs.List.{list_all, list_any}
use Rattle.std.specs.Str.{bytes_eq}
use Rattle.std.proofs.lemmas.Bool.{cases_lt}
use Rattle.std.proofs.lemmas.List.Folds.{list_all-append, list_all-map}
use Rattle.mono_exp.specs.declared.exponent.Exp.{Exp}
use Rattle.normal_forms.specs.Monomials.{numbers_below, is_one_of, monomials_in, square_of, square_variables, is_residual, is_square, is_split}

and_true : (a : Bool) → (a && true) ≡ a
and_true true = refl
and_true false = refl

-- the test of the numbers below k + 1
pub numbers_more : (p : ℕ → Bool) (k : ℕ) → list_all p (numbers_below k) ≡ true → p k ≡ true → list_all p (numbers_below (k + 1)) ≡ true
numbers_more p k so_far new =
    let next : k + 1 ≡ suc k = omega arith in
    ap (λ (i : ℕ). list_all p (numbers_below i)) next ∙ list_all-append p (numbers_below k) (k ∷ []) ∙ ap (λ (b : Bool). b && (p k && true)) so_far ∙ and_true (p k) ∙ new

k_cases : (k n : ℕ) → k < suc n → (k < n) ⊎ (k ≡ n)
k_cases k n lt = elim (cases_lt k n) [ inl less ↦ inl less | inr not_less ↦ inr (omega (arith, lt, not_less)) ]

false_left : (a b : Bool) → a ≡ false → (a && b) ≡ false
false_left true b e = absurd cc
false_left false b e = refl

false_right : (a b : Bool) → b ≡ false → (a && b) ≡ false
false_right true b e = e
false_right false b e = refl

last_or : (p : ℕ → Bool) (n k : ℕ) (rest : Bool) → p k ≡ false → (k < n → rest ≡ false) → k < suc n → (rest && (p n && true)) ≡ false
last_or p n k rest e earlier lt = elim (k_cases k n lt) [
  | inl less ↦ false_left rest (p n && true) (earlier less)
  | inr same ↦ false_right rest (p n && true) (false_left (p n) true (ap p (sym same) ∙ e))
]

-- one number below n fails
pub numbers_fail : (p : ℕ → Bool) (n k : ℕ) → k < n → p k ≡ false → list_all p (numbers_below n) ≡ false
numbers_fail p zero k lt e = absurd (omega (arith, lt))
numbers_fail p (suc n) k lt e =
    list_all-append p (numbers_below n) (n ∷ []) ∙ last_or p n k (list_all p (numbers_below n)) e (λ l. numbers_fail p n k l e) lt

-- the monomials of terms, one after the other
pub among_terms : {E : Type 0} (m : Exp) (terms : List (Exp × E)) → is_one_of (monomials_in terms) m ≡ list_any (λ t. bytes_eq m.e t.0.e) terms
among_terms m [] = refl
among_terms m (t ∷ ts) = ap (λ (b : Bool). bytes_eq m.e t.0.e || b) (among_terms m ts)

-- the squares of the square variables, by the numbers below n - c
pub by_numbers : (p : ℕ → Bool) (n c : ℕ) → list_all p (square_variables n c) ≡ list_all (λ i. p (c + i)) (numbers_below (n - c))
by_numbers p n c = list_all-map p (λ i. c + i) (numbers_below (n - c))

-- both tests together say whether terms are split
pub split_is : {E : Type 0} (n c : ℕ) (terms : List (Exp × E)) (a b : Bool) → a ≡ list_all (λ t. is_residual c t.0 || is_square c t.0) terms
    → b ≡ list_all (λ i. is_one_of (monomials_in terms) (square_of i)) (square_variables n c) → (a && b) ≡ is_split n c terms
unfolding is_split
split_is n c terms a b ea eb =
    ap (λ (z : Bool). z && b) (ea ∙ sym (list_all-map (λ m. is_residual c m || is_square c m) (λ t. t.0) terms))
    ∙ ap (λ (z : Bool). list_all (λ m. is_residual c m || is_square c m) (monomials_in terms) && z) eb
