-- What holds of all multiples holds of each monomial of their degrees and each variable.
use Rattle.std.proofs.Common.{◌≡◌, ℕ, suc, ◌<◌, ◌≤◌, Bool, true, false, cond, leb, le-leb, List, [], ◌∷◌, ◌++◌, length, map, sum, refl, sym, subst, ◌∙◌, arith}
use Rattle.std.specs.List.{filter, flat_map}
use Rattle.poly_law.specs.Exps.{degree}
use Rattle.poly_law.specs.ExpList.{ExpList, exps}
use Rattle.mono_exp.specs.Exponents.{monomials_of, monomials_below, numbers_below}
use Rattle.mono_exp.proofs.Lists.{Each, each-at, get_or-numbers_below, length-numbers_below}
use Rattle.mono_exp.proofs.OrderLaws.{whole}
use Rattle.jacobian_row.specs.Multiples.{monomials_between, pairs_between}
use Rattle.jacobian_row.proofs.NumberLemmas.{sum-entries}

pub each_front : {X : Type 0} (P : X → Type 0) (xs ys : List X) → Each P (xs ++ ys) → Each P xs × Each P ys
each_front P [] ys h = (tt, h)
each_front P (x ∷ xs) ys h = let rest = each_front P xs ys h.1 in ((h.0, rest.0), rest.1)

each_unflat : {X Y : Type 0} (P : Y → Type 0) (f : X → List Y) (xs : List X) → Each P (flat_map f xs) → Each (λ x. Each P (f x)) xs
each_unflat P f [] h = tt
each_unflat P f (x ∷ xs) h = let both = each_front P (f x) (flat_map f xs) h in (both.0, each_unflat P f xs both.1)

pub each_unmap : {X Y : Type 0} (P : Y → Type 0) (f : X → Y) (xs : List X) → Each P (map f xs) → Each (λ x. P (f x)) xs
each_unmap P f [] h = tt
each_unmap P f (x ∷ xs) h = (h.0, each_unmap P f xs h.1)

each_unfilter : {X : Type 0} (P : X → Type 0) (p : X → Bool) (xs : List X) → Each P (filter p xs) → Each (λ x. p x ≡ true → P x) xs
each_unfilter P p [] h = tt
each_unfilter {X} P p (x ∷ xs) h = step (λ k. each_unfilter P p xs k) (p x) refl h
  where
    step : (Each P (filter p xs) → Each (λ x. p x ≡ true → P x) xs) → (b : Bool) → p x ≡ b → Each P (cond b (x ∷ filter p xs) (filter p xs)) → (p x ≡ true → P x) × Each (λ x. p x ≡ true → P x) xs
    step rest true e k = ((λ q. k.0), rest k.1)
    step rest false e k = ((λ q. let bad : ⊥ = (let z : false ≡ true = sym e ∙ q in cc z) in absurd bad), rest k)

at_number : (P : ℕ → Type 0) (n i : ℕ) → i < n → Each P (numbers_below n) → P i
at_number P n i h all = subst P (get_or-numbers_below n i 0 h) (each-at P (numbers_below n) i 0 (let e = length-numbers_below n in omega arith) all)

-- a monomial of degree d is in the list of those
at_monomial : (P : List ℕ → Type 0) (n d : ℕ) (a : List ℕ) → length a ≡ n → sum a ≡ d → Each P (monomials_of n d) → P a
at_monomial P n d a long degree all = let found = whole n d a long degree in subst P found.2 (each-at P (monomials_of n d) found.0 a found.1 all)

-- each monomial of these degrees with each variable is one of the pairs
pub at_pair : (P : List ℕ × ℕ → Type 0) (n low high : ℕ) → Each P (pairs_between n low high) → (a : ExpList n) (i : ℕ) → low ≤ degree (exps n) a → degree (exps n) a ≤ high → i < n → P (a.entries, i)
unfolding monomials_between monomials_below
at_pair P n low high all a i from to within =
    let by_monomial = each_unflat P (λ a. map (λ i. (a, i)) (numbers_below n)) (filter (λ a. leb low (sum a)) (monomials_below n (suc high))) all in
    let kept = each_unfilter (λ a. Each P (map (λ i. (a, i)) (numbers_below n))) (λ a. leb low (sum a)) (monomials_below n (suc high)) by_monomial in
    let by_degree = each_unflat (λ a. leb low (sum a) ≡ true → Each P (map (λ i. (a, i)) (numbers_below n))) (monomials_of n) (numbers_below (suc high)) kept in
    let total = sum-entries n a in
    let here = at_number (λ j. Each (λ a. leb low (sum a) ≡ true → Each P (map (λ i. (a, i)) (numbers_below n))) (monomials_of n j)) (suc high) (sum a.entries) (omega arith) by_degree in
    let block = at_monomial (λ a. leb low (sum a) ≡ true → Each P (map (λ i. (a, i)) (numbers_below n))) n (sum a.entries) a.entries a.long refl here (le-leb low (sum a.entries) (omega arith)) in
    at_number (λ i. P (a.entries, i)) n i within (each_unmap P (λ i. (a.entries, i)) (numbers_below n) block)
