-- The list of all monomials of a degree is whole and in order; numbers keep the order.
use Rattle.std.proofs.Common.{◌≡◌, ℕ, suc, ◌+◌, ◌-◌, ◌<◌, ◌≤◌, List, [], ◌∷◌, ◌++◌, length, get_or, sum, sym, ap, ap₂, subst, ◌∙◌, append-nil, arith}
use Rattle.std.proofs.lemmas.List.{get_or-map}
use Rattle.mono_exp.specs.Exponents.{numbers_below, monomials_of, monomials_below, rank_of}
use Rattle.mono_exp.specs.Laws.{MonomialsAreWhole, MonomialsRise, RanksRise, RanksDiffer}
use Rattle.mono_exp.proofs.Lists.{each-at, flat_map-append, get_or-numbers_below}
use Rattle.mono_exp.proofs.Counting.{IsOf, count_below, place, places, place-before, before-place, place-injective, place_at_least, place_below, rank_is_place, monomials_are_of}
use Rattle.mono_exp.proofs.Table.{length-monomials_below}

get_or-behind : (xs ys : List (List ℕ)) (i : ℕ) (d : List ℕ) → get_or (xs ++ ys) (length xs + i) d ≡ get_or ys i d
get_or-behind [] ys i d = ap (λ k. get_or ys k d) (let e : 0 + i ≡ i = omega arith in e)
get_or-behind (x ∷ xs) ys i d = ap (λ k. get_or (x ∷ (xs ++ ys)) k d) (let e : suc (length xs) + i ≡ suc (length xs + i) = omega arith in e) ∙ get_or-behind xs ys i d

length-behind : (xs ys : List (List ℕ)) → length (xs ++ ys) ≡ length xs + length ys
length-behind [] ys = let e : length ys ≡ 0 + length ys = omega arith in e
length-behind (x ∷ xs) ys = let r = length-behind xs ys in let e : suc (length (xs ++ ys)) ≡ suc (length xs) + length ys = omega arith in e

below-split : (n d : ℕ) → monomials_below n (suc d) ≡ monomials_below n d ++ monomials_of n d
unfolding monomials_below
below-split n d = flat_map-append (monomials_of n) (numbers_below d) (d ∷ []) ∙ ap (λ z. monomials_below n d ++ z) (append-nil (monomials_of n d))

length-of : (n d : ℕ) → count_below n d + length (monomials_of n d) ≡ count_below n (suc d)
length-of n d =
    ap (λ k. k + length (monomials_of n d)) (sym (length-monomials_below n d)) ∙ sym (length-behind (monomials_below n d) (monomials_of n d))
    ∙ ap length (sym (below-split n d)) ∙ length-monomials_below n (suc d)

-- the place of the i-th monomial of the list
place-of : (n d i : ℕ) (e : List ℕ) → i < length (monomials_of n d) → place (get_or (monomials_of n d) i e) ≡ count_below n d + i
place-of n d i e h =
    let long = length-of n d in
    let before = length-monomials_below n d in
    let all = length-monomials_below n (suc d) in
    let within : count_below n d + i < count_below n (suc d) = omega arith in
    ap place (sym (get_or-behind (monomials_below n d) (monomials_of n d) i e) ∙ ap₂ (λ xs k. get_or xs (k + i) e) (sym (below-split n d)) before)
    ∙ sym (get_or-map place (monomials_below n (suc d)) (count_below n d + i) e 0 (omega arith))
    ∙ ap (λ z. get_or z (count_below n d + i) 0) (places n (suc d))
    ∙ get_or-numbers_below (count_below n (suc d)) (count_below n d + i) 0 within

is-of : (n d i : ℕ) (e : List ℕ) → i < length (monomials_of n d) → IsOf n d (get_or (monomials_of n d) i e)
is-of n d i e h = each-at (IsOf n d) (monomials_of n d) i e h (monomials_are_of n d)

pub rise : MonomialsRise
rise n d i j e less h =
    let h' : i < length (monomials_of n d) = omega arith in
    let a = is-of n d i e h' in
    let b = is-of n d j e h in
    let pa = place-of n d i e h' in
    let pb = place-of n d j e h in
    place-before (get_or (monomials_of n d) i e) (get_or (monomials_of n d) j e) (a.long ∙ sym b.long) (omega arith)

pub whole : MonomialsAreWhole
whole n d m l s =
    let low : count_below n d ≤ place m = subst (λ k. count_below n k ≤ place m) s (subst (λ k. count_below k (sum m) ≤ place m) l (place_at_least m)) in
    let up : place m < count_below n (suc d) = subst (λ k. place m < count_below n (suc k)) s (subst (λ k. place m < count_below k (suc (sum m))) l (place_below m)) in
    let long = length-of n d in
    let i = place m - count_below n d in
    let h : place m - count_below n d < length (monomials_of n d) = omega arith in
    let a = is-of n d (place m - count_below n d) m h in
    let p = place-of n d (place m - count_below n d) m h in
    (i, h, place-injective (get_or (monomials_of n d) (place m - count_below n d) m) m (a.long ∙ sym l) (omega arith))

pub ranks-rise : RanksRise
ranks-rise n a b la lb =
    let pa = rank_is_place n a la in
    let pb = rank_is_place n b lb in (
      (λ h. let x = before-place a b (la ∙ sym lb) h in let z : rank_of n a < rank_of n b = omega arith in z),
      (λ h. place-before a b (la ∙ sym lb) (omega arith)),
    )

pub ranks-differ : RanksDiffer
ranks-differ n a b la lb e = place-injective a b (la ∙ sym lb) (sym (rank_is_place n a la) ∙ e ∙ rank_is_place n b lb)
