-- The list of multiples, degree by degree, monomial by monomial, variable by variable.
use Rattle.std.proofs.Common.{◌≡◌, ℕ, suc, ◌+◌, ◌<◌, ◌≤◌, cond, leb, List, [], ◌∷◌, ◌++◌, length, take, get_or, map, sum, refl, sym, ap, ap₂, ◌∙◌, append_assoc, append-nil, arith}
use Rattle.std.specs.List.{filter, flat_map}
use Rattle.std.proofs.lemmas.Bool.{le-leb, lt-leb}
use Rattle.std.proofs.lemmas.List.{take_more, map-append}
use Rattle.mono_exp.specs.declared.exponent.Exp.{Exp}
use Rattle.mono_exp.specs.Exponents.{exponents, monomials_of, monomials_below, numbers_below}
use Rattle.mono_exp.proofs.Lists.{Each, each-weaker, each-flat_map, numbers_are_below}
use Rattle.mono_exp.proofs.Counting.{IsOf, monomials_are_of}
use Rattle.jet_law.proofs.Gather.{filter-append, flat_map-append}
use Rattle.jacobian_row.specs.Multiples.{monomials_between, pairs_between, pair_of}
use Rattle.jacobian_row.specs.declared.multiple.Multiple.{Multiple}

-- ---- the multiples by one monomial
pub variable_step : (n : ℕ) (all : List Multiple) (u : Multiple) (done : List (List ℕ × ℕ)) (v : ℕ) → u.variable ≡ v → map (pair_of n) all ≡ done ++ map (λ i. (exponents n u.factor.e, i)) (numbers_below v)
    → map (pair_of n) (all ++ (u ∷ [])) ≡ done ++ map (λ i. (exponents n u.factor.e, i)) (numbers_below (v + 1))
variable_step n all u done v e before =
    let f : ℕ → List ℕ × ℕ = λ i. (exponents n u.factor.e, i) in
    map-append (pair_of n) all (u ∷ []) ∙ ap₂ (λ xs i. xs ++ (f i ∷ [])) before e ∙ append_assoc done (map f (numbers_below v)) (f v ∷ [])
    ∙ ap (λ ys. done ++ ys) (sym (map-append f (numbers_below v) (v ∷ [])) ∙ ap (λ k. map f (numbers_below k)) (let q : suc v ≡ v + 1 = omega arith in q))

-- ---- those by the monomials of a degree
abbrev pub blocks : ℕ → List (List ℕ) → List (List ℕ × ℕ)
blocks n monomials = flat_map (λ a. map (λ i. (a, i)) (numbers_below n)) monomials

pub factor_step : (n : ℕ) (factors : List Exp) (j : ℕ) (a d : Exp) (done now next : List (List ℕ × ℕ)) → j < length factors → a ≡ get_or factors j d → now ≡ done ++ blocks n (map (λ b. exponents n b.e) (take j factors))
    → next ≡ now ++ map (λ i. (exponents n a.e, i)) (numbers_below n) → next ≡ done ++ blocks n (map (λ b. exponents n b.e) (take (j + 1) factors))
factor_step n factors j a d done now next within read before e =
    let es = map (λ (b : Exp). exponents n b.e) in
    let row = map (λ i. (exponents n a.e, i)) (numbers_below n) in
    e ∙ ap (λ ys. ys ++ row) before ∙ append_assoc done (blocks n (es (take j factors))) row
    ∙ ap (λ ys. done ++ ys)
    (sym (ap (blocks n) (ap es (take_more factors j d within ∙ ap (λ b. take j factors ++ (b ∷ [])) (sym read)) ∙ map-append (λ b. exponents n b.e) (take j factors) (a ∷ []))
    ∙ flat_map-append (λ a. map (λ i. (a, i)) (numbers_below n)) (es (take j factors)) (exponents n a.e ∷ []) ∙ ap (λ ys. blocks n (es (take j factors)) ++ ys) (append-nil row)))

-- ---- and by those of all degrees
abbrev pub from_low : ℕ → List (List ℕ) → List (List ℕ)
from_low low monomials = filter (λ a. leb low (sum a)) monomials

-- no monomial has a degree below 0
pub below-none : (n : ℕ) → monomials_below n 0 ≡ []
unfolding monomials_below
below-none n = refl

pub below-split : (n d : ℕ) → monomials_below n (suc d) ≡ monomials_below n d ++ monomials_of n d
unfolding monomials_below
below-split n d = flat_map-append (monomials_of n) (numbers_below d) (d ∷ []) ∙ ap (λ z. monomials_below n d ++ z) (append-nil (monomials_of n d))

all_kept : (low : ℕ) (xs : List (List ℕ)) → Each (λ a. low ≤ sum a) xs → from_low low xs ≡ xs
all_kept low [] h = refl
all_kept low (x ∷ xs) h = ap (λ b. cond b (x ∷ from_low low xs) (from_low low xs)) (le-leb low (sum x) h.0) ∙ ap (λ ys. x ∷ ys) (all_kept low xs h.1)

none_kept : (low : ℕ) (xs : List (List ℕ)) → Each (λ a. sum a < low) xs → from_low low xs ≡ []
none_kept low [] h = refl
none_kept low (x ∷ xs) h = ap (λ b. cond b (x ∷ from_low low xs) (from_low low xs)) (lt-leb low (sum x) h.0) ∙ none_kept low xs h.1

below_are_low : (n d : ℕ) → Each (λ a. sum a < d) (monomials_below n d)
unfolding monomials_below
below_are_low n d =
    each-flat_map (λ j. j < d) (λ a. sum a < d) (monomials_of n)
    (λ j h. each-weaker (IsOf n j) (λ a. sum a < d) (λ a o. let e = o.degree in omega arith) (monomials_of n j) (monomials_are_of n j)) (numbers_below d) (numbers_are_below d)

pub degrees_none : (n low : ℕ) → from_low low (monomials_below n low) ≡ []
degrees_none n low = none_kept low (monomials_below n low) (below_are_low n low)

pub degree_step : (n low d : ℕ) (now next : List (List ℕ × ℕ)) → low ≤ d → now ≡ blocks n (from_low low (monomials_below n d)) → next ≡ now ++ blocks n (monomials_of n d) → next ≡ blocks n (from_low low (monomials_below n (d + 1)))
degree_step n low d now next h before e =
    e ∙ ap (λ ys. ys ++ blocks n (monomials_of n d)) before
    ∙ sym (ap (λ k. blocks n (from_low low (monomials_below n k))) (let q : d + 1 ≡ suc d = omega arith in q)
    ∙ ap (λ xs. blocks n (from_low low xs)) (below-split n d)
    ∙ ap (blocks n) (filter-append (λ a. leb low (sum a)) (monomials_below n d) (monomials_of n d)
    ∙ ap (λ ys. from_low low (monomials_below n d) ++ ys) (all_kept low (monomials_of n d) (each-weaker (IsOf n d) (λ a. low ≤ sum a) (λ a o. let e = o.degree in omega arith) (monomials_of n d) (monomials_are_of n d))))
    ∙ flat_map-append (λ a. map (λ i. (a, i)) (numbers_below n)) (from_low low (monomials_below n d)) (monomials_of n d))

pub degrees_all : (n low high d : ℕ) (now : List (List ℕ × ℕ)) → d ≡ high + 1 → now ≡ blocks n (from_low low (monomials_below n d)) → now ≡ pairs_between n low high
unfolding monomials_between
degrees_all n low high d now e before = before ∙ ap (λ k. blocks n (from_low low (monomials_below n k))) (e ∙ (let q : high + 1 ≡ suc high = omega arith in q))
