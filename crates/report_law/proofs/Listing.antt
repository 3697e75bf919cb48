-- Lists of monomials by the lists of their exponents.
use Rattle.std.proofs.Common.{◌≡◌, ℕ, ◌<◌, ◌≤◌, ◌⊎◌, inl, inr, List, [], ◌∷◌, map, length, get_or, refl, sym, ap, ap₂, ◌∙◌, arith}
use Rattle.std.specs.List.{AllByRecursion}
use Rattle.std.proofs.lemmas.Bool.{cases_lt}
use Rattle.std.proofs.lemmas.List.{ext_get_or, get_or_past}
use Rattle.mono_exp.specs.declared.exponent.Exp.{Exp}
use Rattle.mono_exp.specs.Exponents.{exponents, monomials_of}
use Rattle.mono_exp.proofs.Lists.{Each, each-weaker}
use Rattle.mono_exp.proofs.Counting.{IsOf, monomials_are_of}
use Rattle.mono_exp.proofs.NumberLemmas.{length-exponents, get_or-exponents}
use Rattle.determinacy.specs.Tests.{IsMonomialIn}
use Rattle.normal_forms.specs.Monomials.{in_eight}
use Rattle.normal_forms.proofs.Padded.{get_or-in_eight, length-in_eight}

-- ---- a monomial by its exponents

-- eight exponents, those past the first n zero, are the first n with zeros up to eight places
pub padded : (n : ℕ) (a : Exp) → IsMonomialIn n a → in_eight (exponents n a.e) ≡ a
padded n a h =
    ap (λ (e : List ℕ). record { e = e }) (ext_get_or 0 (in_eight (exponents n a.e)).e a.e (length-in_eight (exponents n a.e) ∙ sym h.long) (λ i l.
    let eight = length-in_eight (exponents n a.e) in
    get_or-in_eight (exponents n a.e) i (omega arith) ∙ step i (cases_lt i n)))
  where
    step : (i : ℕ) → (i < n) ⊎ (n ≤ i) → get_or (exponents n a.e) i 0 ≡ get_or a.e i 0
    step i (inl l) = get_or-exponents n a.e i l
    step i (inr l) = get_or_past (exponents n a.e) i 0 (let e = length-exponents n a.e in omega arith) ∙ sym (h.unused i l)

-- monomials by the list of their exponents
pub listed_as : (n : ℕ) (ms : List Exp) (list : List (List ℕ)) → AllByRecursion (IsMonomialIn n) ms → map (λ a. exponents n a.e) ms ≡ list → ms ≡ map in_eight list
listed_as n ms list all e = sym (go ms all) ∙ ap (map in_eight) e
  where
    go : (ms : List Exp) → AllByRecursion (IsMonomialIn n) ms → map in_eight (map (λ a. exponents n a.e) ms) ≡ ms
    go [] all = refl
    go (a ∷ ms) all = ap₂ (λ x (xs : List Exp). x ∷ xs) (padded n a all.0) (go ms all.1)

-- the first n of eight places are the n exponents that were put there
kept_exponents : (n : ℕ) (e : List ℕ) → n ≤ 8 → length e ≡ n → exponents n (in_eight e).e ≡ e
kept_exponents n e h long =
    ext_get_or 0 (exponents n (in_eight e).e) e (length-exponents n (in_eight e).e ∙ sym long)
    (λ i l. let less = length-exponents n (in_eight e).e in get_or-exponents n (in_eight e).e i (omega arith) ∙ get_or-in_eight e i (omega arith))

-- monomials by lists of n exponents have these exponents
pub kept_list : (n : ℕ) (list : List (List ℕ)) → n ≤ 8 → Each (λ m. length m ≡ n) list → map (λ a. exponents n a.e) (map in_eight list) ≡ list
kept_list n [] h all = refl
kept_list n (e ∷ es) h all = ap₂ (λ x (xs : List (List ℕ)). x ∷ xs) (kept_exponents n e h all.0) (kept_list n es h all.1)

-- monomials are all of degree d in n variables where their exponents are
pub of_degree : (n d : ℕ) (ms : List Exp) → AllByRecursion (IsMonomialIn n) ms → map (λ a. exponents n a.e) ms ≡ monomials_of n d → ms ≡ map in_eight (monomials_of n d)
of_degree n d ms all e = listed_as n ms (monomials_of n d) all e

-- and the other way round
pub degree_of : (n d : ℕ) (ms : List Exp) → n ≤ 8 → ms ≡ map in_eight (monomials_of n d) → map (λ a. exponents n a.e) ms ≡ monomials_of n d
degree_of n d ms h e =
    ap (map (λ (a : Exp). exponents n a.e)) e
    ∙ kept_list n (monomials_of n d) h (each-weaker (IsOf n d) (λ m. length m ≡ n) (λ m o. o.long) (monomials_of n d) (monomials_are_of n d))
