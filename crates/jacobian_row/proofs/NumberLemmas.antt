-- The numbers of monomials, and of their products with one monomial.
use Rattle.std.proofs.Common.{◌≡◌, ℕ, zero, suc, ◌+◌, ◌<◌, ◌≤◌, ◌⊎◌, inl, inr, Bool, true, false, ◌&&◌, ◌||◌, ltb, eqb, List, [], ◌∷◌, length, get_or, sum, refl, sym, ap, ap₂, subst, ◌∙◌, arith}
use Rattle.std.proofs.lemmas.Bool.{lt-ltb, eq-eqb}
use Rattle.std.proofs.lemmas.List.{get_or_past, ext_get_or}
use Rattle.poly_law.specs.Exps.{plus, degree}
use Rattle.poly_law.specs.ExpList.{ExpList, exps}
use Rattle.poly_law.proofs.ExpLists.{exps_are, same_entries}
use Rattle.poly_law.proofs.ExpLaws
use Rattle.mono_exp.specs.declared.exponent.Exp.{Exp}
use Rattle.mono_exp.specs.Exponents.{exponents, IsIn, is_before, is_greater_first, monomials_below}
use Rattle.mono_exp.proofs.Lists.{sum-cons}
use Rattle.mono_exp.proofs.Counting.{count_below, count-le, place, place_below, before-place, place-injective, rank_is_place}
use Rattle.mono_exp.proofs.NumberLemmas.{length-exponents, sum-exponents, exponents-cons}
use Rattle.mono_exp.proofs.Table.{length-monomials_below}
use Rattle.jet_law.specs.Terms.{exp_of}
use Rattle.jet_law.proofs.TermLemmas.{at-exp_of, degree-exp_of}
use Rattle.jacobian_row.specs.Numbers.{number, count_to}

-- exponents as a monomial of code
abbrev code : {n : ℕ} → ExpList n → Exp
code x = record { e = x.entries }

pub exp_of-entries : (n : ℕ) (x : ExpList n) → exp_of n (record { e = x.entries }) ≡ x
exp_of-entries n x = (exps_are n).same_at (exp_of n (record { e = x.entries })) x (λ i h. at-exp_of n (record { e = x.entries }) i h)

pub entries_in : (n : ℕ) (x : ExpList n) → IsIn n x.entries
entries_in n x i h = get_or_past x.entries i 0 (let l = x.long in omega arith)

pub sum-entries : (n : ℕ) (x : ExpList n) → sum x.entries ≡ degree (exps n) x
sum-entries n x = sym (degree-exp_of n (record { e = x.entries }) (entries_in n x)) ∙ ap (degree (exps n)) (exp_of-entries n x)

-- a number is a place
pub number-place : (n : ℕ) (x : ExpList n) → number n x ≡ place x.entries
number-place n x = rank_is_place n x.entries x.long

pub number_injective : (n : ℕ) (x y : ExpList n) → number n x ≡ number n y → x ≡ y
number_injective n x y e = same_entries n x y (place-injective x.entries y.entries (x.long ∙ sym y.long) (sym (number-place n x) ∙ e ∙ number-place n y))

-- a monomial of degree at most k has a number below their count
pub number_below : (n k : ℕ) (x : ExpList n) → degree (exps n) x ≤ k → number n x < count_to n k
number_below n k x h =
    let low : place x.entries < count_below n (suc (degree (exps n) x)) =
    subst (λ d. place x.entries < count_below n (suc d)) (sum-entries n x) (subst (λ m. place x.entries < count_below m (suc (sum x.entries))) x.long (place_below x.entries)) in
    let up = count-le n (suc (degree (exps n) x)) (suc k) (omega arith) in
    let all = length-monomials_below n (suc k) in
    let p = number-place n x in
    omega arith

pub count_small : (n k : ℕ) → k ≤ 17 → count_to n k ≤ length (monomials_below n 18)
count_small n k h = let a = length-monomials_below n (suc k) in let b = length-monomials_below n 18 in let c = count-le n (suc k) 18 (omega arith) in omega arith

-- ---- order of monomials in n variables
none_greater : (a b : List ℕ) → IsIn 0 a → IsIn 0 b → is_greater_first a b ≡ true → ⊥
none_greater [] b ha hb e = let bad : false ≡ true = e in cc bad
none_greater (x ∷ a) [] ha hb e = let bad : false ≡ true = e in cc bad
none_greater (x ∷ a) (y ∷ b) ha hb e = step (ha 0 (omega arith)) (hb 0 (omega arith)) (none_greater a b (λ i h. ha (suc i) (omega arith)) (λ i h. hb (suc i) (omega arith))) e
  where
    step : x ≡ 0 → y ≡ 0 → (is_greater_first a b ≡ true → ⊥) → (ltb y x || (eqb x y && is_greater_first a b)) ≡ true → ⊥
    step zx zy rest e = rest (sym (ap₂ (λ p q. p || (q && is_greater_first a b)) (ap₂ ltb zy zx) (ap₂ eqb zx zy)) ∙ e)

first_in : (n : ℕ) (a b : List ℕ) → IsIn n a → IsIn n b → is_greater_first a b ≡ true → is_greater_first (exponents n a) (exponents n b) ≡ true
first_in zero a b ha hb e = absurd (none_greater a b ha hb e)
first_in (suc n) [] b ha hb e = let bad : ⊥ = cc e in absurd bad
first_in (suc n) (x ∷ a) [] ha hb e = let bad : ⊥ = cc e in absurd bad
first_in (suc n) (x ∷ a) (y ∷ b) ha hb e =
    ap₂ is_greater_first (exponents-cons n x a) (exponents-cons n y b)
    ∙ step (ltb y x) (eqb x y) (first_in n a b (λ i h. ha (suc i) (omega arith)) (λ i h. hb (suc i) (omega arith))) e
  where
    step : (t u : Bool) → (is_greater_first a b ≡ true → is_greater_first (exponents n a) (exponents n b) ≡ true) → (t || (u && is_greater_first a b)) ≡ true → (t || (u && is_greater_first (exponents n a) (exponents n b))) ≡ true
    step true u rest e = refl
    step false true rest e = rest e
    step false false rest e = e

pub before_in : (n : ℕ) (a b : List ℕ) → IsIn n a → IsIn n b → is_before a b ≡ true → is_before (exponents n a) (exponents n b) ≡ true
before_in n a b ha hb e =
    ap₂ (λ x y. ltb x y || (eqb x y && is_greater_first (exponents n a) (exponents n b))) (sum-exponents n a ha) (sum-exponents n b hb)
    ∙ step (ltb (sum a) (sum b)) (eqb (sum a) (sum b)) (first_in n a b ha hb) e
  where
    step : (t u : Bool) → (is_greater_first a b ≡ true → is_greater_first (exponents n a) (exponents n b) ≡ true) → (t || (u && is_greater_first a b)) ≡ true → (t || (u && is_greater_first (exponents n a) (exponents n b))) ≡ true
    step true u rest e = refl
    step false true rest e = rest e
    step false false rest e = e

-- ---- order of products
zip_add : List ℕ → List ℕ → List ℕ
zip_add [] b = []
zip_add (x ∷ a) [] = []
zip_add (x ∷ a) (y ∷ b) = (x + y) ∷ zip_add a b

length-zip_add : (a b : List ℕ) → length a ≡ length b → length (zip_add a b) ≡ length a
unfolding zip_add
length-zip_add [] b e = refl
length-zip_add (x ∷ a) [] e = let bad : ⊥ = omega (arith, e) in absurd bad
length-zip_add (x ∷ a) (y ∷ b) e = ap suc (length-zip_add a b (let e' : suc (length a) ≡ suc (length b) = e in omega arith))

at-zip_add : (a b : List ℕ) (i : ℕ) → length a ≡ length b → get_or (zip_add a b) i 0 ≡ get_or a i 0 + get_or b i 0
unfolding zip_add
at-zip_add [] [] i e = let z : 0 ≡ 0 + 0 = omega arith in z
at-zip_add [] (y ∷ b) i e = let bad : ⊥ = omega (arith, e) in absurd bad
at-zip_add (x ∷ a) [] i e = let bad : ⊥ = omega (arith, e) in absurd bad
at-zip_add (x ∷ a) (y ∷ b) zero e = refl
at-zip_add (x ∷ a) (y ∷ b) (suc i) e = at-zip_add a b i (let e' : suc (length a) ≡ suc (length b) = e in omega arith)

sum-zip_add : (a b : List ℕ) → length a ≡ length b → sum (zip_add a b) ≡ sum a + sum b
unfolding zip_add
sum-zip_add [] [] e = let z : 0 ≡ 0 + 0 = omega arith in z
sum-zip_add [] (y ∷ b) e = let bad : ⊥ = omega (arith, e) in absurd bad
sum-zip_add (x ∷ a) [] e = let bad : ⊥ = omega (arith, e) in absurd bad
sum-zip_add (x ∷ a) (y ∷ b) e =
    let r = sum-zip_add a b (let e' : suc (length a) ≡ suc (length b) = e in omega arith) in
    let p = sum-cons (x + y) (zip_add a b) in
    let q = sum-cons x a in
    let s = sum-cons y b in
    let z : sum ((x + y) ∷ zip_add a b) ≡ sum (x ∷ a) + sum (y ∷ b) = omega arith in
    z

first-zip_add : (d a b : List ℕ) → length d ≡ length a → length d ≡ length b → is_greater_first a b ≡ true → is_greater_first (zip_add d a) (zip_add d b) ≡ true
unfolding zip_add
first-zip_add [] [] b la lb e = let bad : ⊥ = cc e in absurd bad
first-zip_add [] (x ∷ a) b la lb e = let bad : ⊥ = omega (arith, la) in absurd bad
first-zip_add (z ∷ d) [] b la lb e = let bad : ⊥ = omega (arith, la) in absurd bad
first-zip_add (z ∷ d) (x ∷ a) [] la lb e = let bad : ⊥ = omega (arith, lb) in absurd bad
first-zip_add (z ∷ d) (x ∷ a) (y ∷ b) la lb e =
    step (three x y) (first-zip_add d a b (let e' : suc (length d) ≡ suc (length a) = la in omega arith) (let e' : suc (length d) ≡ suc (length b) = lb in omega arith))
  where
    three : (x y : ℕ) → (y < x) ⊎ ((x ≡ y) ⊎ (x < y))
    three x y = grind arith

    not_less : (p q : ℕ) → p ≤ q → ltb q p ≡ false
    not_less p q h = Rattle.std.proofs.lemmas.Bool.le-ltb q p h

    differ : (p q : ℕ) → (p ≡ q → ⊥) → eqb p q ≡ false
    differ p q h = Rattle.std.proofs.Common.ne_eqb p q h

    step : (y < x) ⊎ ((x ≡ y) ⊎ (x < y)) → (is_greater_first a b ≡ true → is_greater_first (zip_add d a) (zip_add d b) ≡ true) → (ltb (z + y) (z + x) || (eqb (z + x) (z + y) && is_greater_first (zip_add d a) (zip_add d b))) ≡ true
    step (inl h) rest = ap (λ t. t || (eqb (z + x) (z + y) && is_greater_first (zip_add d a) (zip_add d b))) (lt-ltb (z + y) (z + x) (omega arith))
    step (inr (inl h)) rest =
        ap₂ (λ t u. t || (u && is_greater_first (zip_add d a) (zip_add d b))) (not_less (z + x) (z + y) (omega arith)) (eq-eqb (z + x) (z + y) (omega arith))
        ∙ rest (sym (ap₂ (λ t u. t || (u && is_greater_first a b)) (not_less x y (omega arith)) (eq-eqb x y h)) ∙ e)
    step (inr (inr h)) rest =
        let none : false ≡ true = sym (ap₂ (λ t u. t || (u && is_greater_first a b)) (not_less x y (omega arith)) (differ x y (λ q. omega arith))) ∙ e in
        let bad : ⊥ = cc none in absurd bad

plus-zip_add : (n : ℕ) (a x : ExpList n) → (plus (exps n) a x).entries ≡ zip_add a.entries x.entries
plus-zip_add n a x =
    let same : length a.entries ≡ length x.entries = a.long ∙ sym x.long in
    ext_get_or 0 (plus (exps n) a x).entries (zip_add a.entries x.entries) ((plus (exps n) a x).long ∙ sym a.long ∙ sym (length-zip_add a.entries x.entries same))
    (λ i h. ExpLaws.at-plus (exps n) (exps_are n) a x i (let l = (plus (exps n) a x).long in omega arith) ∙ sym (at-zip_add a.entries x.entries i same))

before-zip_add : (d a b : List ℕ) → length d ≡ length a → length d ≡ length b → is_before a b ≡ true → is_before (zip_add d a) (zip_add d b) ≡ true
before-zip_add d a b la lb e =
    ap₂ (λ x y. ltb x y || (eqb x y && is_greater_first (zip_add d a) (zip_add d b))) (sum-zip_add d a la) (sum-zip_add d b lb) ∙ step (three (sum a) (sum b))
  where
    three : (x y : ℕ) → (x < y) ⊎ ((x ≡ y) ⊎ (y < x))
    three x y = grind arith

    step : (sum a < sum b) ⊎ ((sum a ≡ sum b) ⊎ (sum b < sum a)) → (ltb (sum d + sum a) (sum d + sum b) || (eqb (sum d + sum a) (sum d + sum b) && is_greater_first (zip_add d a) (zip_add d b))) ≡ true
    step (inl h) = ap (λ t. t || (eqb (sum d + sum a) (sum d + sum b) && is_greater_first (zip_add d a) (zip_add d b))) (lt-ltb (sum d + sum a) (sum d + sum b) (omega arith))
    step (inr (inl h)) =
        ap₂ (λ t u. t || (u && is_greater_first (zip_add d a) (zip_add d b))) (Rattle.std.proofs.lemmas.Bool.le-ltb (sum d + sum a) (sum d + sum b) (omega arith)) (eq-eqb (sum d + sum a) (sum d + sum b) (omega arith))
        ∙ first-zip_add d a b la lb (sym (ap₂ (λ t u. t || (u && is_greater_first a b)) (Rattle.std.proofs.lemmas.Bool.le-ltb (sum a) (sum b) (omega arith)) (eq-eqb (sum a) (sum b) h)) ∙ e)
    step (inr (inr h)) =
        let none : false ≡ true = sym (ap₂ (λ t u. t || (u && is_greater_first a b)) (Rattle.std.proofs.lemmas.Bool.le-ltb (sum a) (sum b) (omega arith)) (Rattle.std.proofs.Common.ne_eqb (sum a) (sum b) (λ q. omega arith))) ∙ e in
        let bad : ⊥ = cc none in absurd bad

-- a monomial before another has the lower number
pub number_rises : (n : ℕ) (x y : Exp) → IsIn n x.e → IsIn n y.e → is_before x.e y.e ≡ true → number n (exp_of n x) < number n (exp_of n y)
number_rises n x y hx hy e =
    let h = before-place (exponents n x.e) (exponents n y.e) (length-exponents n x.e ∙ sym (length-exponents n y.e)) (before_in n x.e y.e hx hy e) in
    let p = number-place n (exp_of n x) in
    let q = number-place n (exp_of n y) in
    omega arith

-- and so have their products with a monomial
pub product_rises : (n : ℕ) (a : ExpList n) (x y : Exp) → IsIn n x.e → IsIn n y.e → is_before x.e y.e ≡ true → number n (plus (exps n) a (exp_of n x)) < number n (plus (exps n) a (exp_of n y))
product_rises n a x y hx hy e =
    let lx : length a.entries ≡ length (exponents n x.e) = a.long ∙ sym (length-exponents n x.e) in
    let ly : length a.entries ≡ length (exponents n y.e) = a.long ∙ sym (length-exponents n y.e) in
    let b = before-zip_add a.entries (exponents n x.e) (exponents n y.e) lx ly (before_in n x.e y.e hx hy e) in
    let ex = plus-zip_add n a (exp_of n x) in
    let ey = plus-zip_add n a (exp_of n y) in
    let h = before-place (zip_add a.entries (exponents n x.e)) (zip_add a.entries (exponents n y.e)) (length-zip_add a.entries (exponents n x.e) lx ∙ sym (length-zip_add a.entries (exponents n y.e) ly)) b in
    let p : number n (plus (exps n) a (exp_of n x)) ≡ place (zip_add a.entries (exponents n x.e)) = number-place n (plus (exps n) a (exp_of n x)) ∙ ap place ex in
    let q : number n (plus (exps n) a (exp_of n y)) ≡ place (zip_add a.entries (exponents n y.e)) = number-place n (plus (exps n) a (exp_of n y)) ∙ ap place ey in
    omega arith
