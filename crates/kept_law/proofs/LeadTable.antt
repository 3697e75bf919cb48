-- The table of the leads: entries in the part's own variables alone, of the weighted degrees that a lead needs; and what this says of the reduction of a grade in more variables.
use Rattle.std.proofs.Common.{◌≡◌, ℕ, zero, suc, ◌+◌, ◌*◌, ◌<◌, ◌≤◌, ◌⊎◌, inl, inr, Bool, true, false, ◌&&◌, ◌||◌, cond, eqb, eqb-true, leb, leb-true, List, [], ◌∷◌, get_or, length, drop, sum, refl, sym, ap, ap₂, subst, ◌∙◌, arith}
use Rattle.std.specs.Prelude.{Contains}
use Rattle.std.specs.List.{list_all, AllByRecursion}
use Rattle.std.proofs.lemmas.List.Sums.{AllPass-from_list_all}
use Rattle.ring_theory.specs.Scalars.{Scalars}
use Rattle.poly_law.specs.Exps.{plus, none, variable, degree, all_to}
use Rattle.poly_law.specs.ExpList.{ExpList, exps}
use Rattle.poly_law.specs.Polynomials.{Polynomial}
use Rattle.poly_law.proofs.ExpLists.{exps_are}
use Rattle.poly_law.proofs.ExpLaws
use Rattle.poly_law.proofs.Place
use Rattle.mono_exp.specs.Exponents.{weighted_degree_of}
use Rattle.mono_exp.proofs.Lists.{Each, sum-cons}
use Rattle.jet_law.specs.Canonical.{monomial_in}
use Rattle.germ_law.proofs.Canonical
use Rattle.kill_law.specs.declared.lead.Entry.{Entry}
use Rattle.kill_law.specs.declared.lead.Lead.{Lead}
use Rattle.kill_law.specs.declared.part.Part.{Part}
use Rattle.kill_law.specs.declared.part.Part.TheVariants as parts
use Rattle.kill_law.specs.Table.{row}
use Rattle.kill_law.specs.Kill.{cofactor, tail_of}
use Rattle.kill_law.specs.Taken.{is_of_grade, terms_of_grade}
use Rattle.kill_law.specs.Reductions.{taken}
use Rattle.kept_law.proofs.Agreeing.{and_left, and_right}
use Rattle.kept_law.proofs.KillTerms

-- ---- the table

-- no exponent past the first ones
abbrev is_own : ℕ → List ℕ → Bool
is_own c e = list_all (λ k. eqb k 0) (drop c e)

abbrev fits_tail : List ℕ → Lead → Entry → Bool
fits_tail ws l e = eqb (weighted_degree_of ws e.monomial) (weighted_degree_of ws l.monomial) && is_own (length ws) e.monomial

abbrev fits_cofactor : List ℕ → ℕ → Lead → ℕ → Entry → Bool
fits_cofactor ws d l i e = eqb (weighted_degree_of ws e.monomial + d) (weighted_degree_of ws l.monomial + get_or ws i 0) && is_own (length ws) e.monomial

abbrev is_empty : List Entry → Bool
is_empty [] = true
is_empty (e ∷ es) = false

abbrev fits_cofactors : List ℕ → ℕ → Lead → ℕ → Bool
fits_cofactors ws d l i = list_all (fits_cofactor ws d l i) (cofactor l i)

-- of a part with at least two variables
abbrev fits : List ℕ → ℕ → Lead → Bool
fits ws d l = list_all (fits_tail ws l) (tail_of l) && (all_to (length ws) (fits_cofactors ws d l) && (leb 2 (length ws) && (leb 3 (length ws) || is_empty (cofactor l 2))))

leads_fit : (p : Part) → list_all (fits (row p).weights (row p).degree) (row p).leads ≡ true
unfolding row
leads_fit parts.D4 = refl
leads_fit parts.D = refl
leads_fit parts.J = refl
leads_fit parts.X9 = refl
leads_fit parts.X = refl
leads_fit parts.Y = refl
leads_fit parts.Z = refl
leads_fit parts.W = refl
leads_fit parts.P8 = refl
leads_fit parts.Q = refl
leads_fit parts.S = refl
leads_fit parts.U = refl
leads_fit parts.T = refl
leads_fit parts.E6 = refl
leads_fit parts.E7 = refl
leads_fit parts.E8 = refl
leads_fit parts.J10 = refl
leads_fit parts.E12 = refl
leads_fit parts.E13 = refl
leads_fit parts.E14 = refl
leads_fit parts.Z11 = refl
leads_fit parts.Z12 = refl
leads_fit parts.Z13 = refl
leads_fit parts.W12 = refl
leads_fit parts.W13 = refl
leads_fit parts.Q10 = refl
leads_fit parts.Q11 = refl
leads_fit parts.Q12 = refl
leads_fit parts.S11 = refl
leads_fit parts.S12 = refl
leads_fit parts.U12 = refl
leads_fit parts.JT = refl

pub passes : {A : Type 0} (p : A → Bool) (xs : List A) (x : A) → list_all p xs ≡ true → Contains xs x → p x ≡ true
passes p xs x h k = subst (λ z. p z ≡ true) k.2 (AllPass-from_list_all p xs h k.0 x k.1)

pub each_passes : {A : Type 0} (p : A → Bool) (P : A → Type 0) → ((x : A) → p x ≡ true → P x) → (xs : List A) → list_all p xs ≡ true → Each P xs
each_passes p P f [] h = tt
each_passes p P f (x ∷ xs) h = (f x (and_left (p x) (list_all p xs) h), each_passes p P f xs (and_right (p x) (list_all p xs) h))

-- ---- weighted degrees

pub drop-none : (e : List ℕ) → drop 0 e ≡ e
drop-none [] = refl
drop-none (k ∷ e) = refl

weight-next : (w : ℕ) (ws e : List ℕ) → weighted_degree_of (w ∷ ws) e ≡ w * get_or e 0 0 + weighted_degree_of ws (drop 1 e)
weight-next w ws [] = let a : w * 0 ≡ 0 = omega arith in let b = empty ws in omega arith
  where
    empty : (ws : List ℕ) → weighted_degree_of ws [] ≡ 0
    empty [] = refl
    empty (w ∷ ws) = refl
weight-next w ws (k ∷ e) = ap (λ z. w * k + weighted_degree_of ws z) (sym (drop-none e))

get-drop : (e : List ℕ) (i : ℕ) → get_or (drop 1 e) i 0 ≡ get_or e (suc i) 0
get-drop [] i = refl
get-drop (k ∷ e) i = ap (λ z. get_or z i 0) (drop-none e)

weight-sum : (ws e f g : List ℕ) → ((i : ℕ) → i < length ws → get_or g i 0 ≡ get_or e i 0 + get_or f i 0) → weighted_degree_of ws g ≡ weighted_degree_of ws e + weighted_degree_of ws f
weight-sum [] e f g h = refl
weight-sum (w ∷ ws) e f g h =
    let first : get_or g 0 0 ≡ get_or e 0 0 + get_or f 0 0 = h 0 (omega arith) in
    let rest = weight-sum ws (drop 1 e) (drop 1 f) (drop 1 g) (λ i q. get-drop g i ∙ h (suc i) (omega arith) ∙ sym (ap₂ (λ y z. y + z) (get-drop e i) (get-drop f i))) in
    let split : w * (get_or e 0 0 + get_or f 0 0) ≡ w * get_or e 0 0 + w * get_or f 0 0 = grind arith in
    let whole = ap (λ z. w * z) first in
    let a = weight-next w ws e in
    let b = weight-next w ws f in
    let d = weight-next w ws g in
    omega arith

weight-empty : (ws : List ℕ) → weighted_degree_of ws [] ≡ 0
weight-empty [] = refl
weight-empty (w ∷ ws) = refl

pub weight-same : (ws e f : List ℕ) → ((i : ℕ) → i < length ws → get_or f i 0 ≡ get_or e i 0) → weighted_degree_of ws f ≡ weighted_degree_of ws e
weight-same ws e f h = let a = weight-sum ws e [] f (λ i q. let b = h i q in let z : get_or {A = ℕ} [] i 0 ≡ 0 = refl in omega arith) in let b = weight-empty ws in omega arith

-- with all weights 1 it is the sum of the exponents
pub weight-ones : (ws e : List ℕ) → AllByRecursion (λ w. w ≡ 1) ws → length e ≡ length ws → weighted_degree_of ws e ≡ sum e
weight-ones [] [] h l = refl
weight-ones [] (k ∷ e) h l = absurd (omega arith)
weight-ones (w ∷ ws) [] h l = absurd (omega arith)
weight-ones (w ∷ ws) (k ∷ e) h l =
    let rest = weight-ones ws e h.1 (omega arith) in
    let one : w * k ≡ 1 * k = ap (λ z. z * k) h.0 in
    let s = sum-cons k e in
    omega arith

weight-zero : (ws e : List ℕ) → ((k : ℕ) → k < length ws → get_or e k 0 ≡ 0) → weighted_degree_of ws e ≡ 0
weight-zero ws e h = weight-same ws [] e h ∙ weight-empty ws

-- the weight of exponents that are 1 at i alone
weight-unit : (ws e : List ℕ) (i : ℕ) → i < length ws → get_or e i 0 ≡ 1 → ((k : ℕ) → k < length ws → (k ≡ i → ⊥) → get_or e k 0 ≡ 0) → weighted_degree_of ws e ≡ get_or ws i 0
weight-unit [] e i h one zeros = absurd (omega arith)
weight-unit (w ∷ ws) e zero h one zeros =
    let next = weight-next w ws e in
    let rest = weight-zero ws (drop 1 e) (λ k g. get-drop e k ∙ zeros (suc k) (omega arith) (λ z. omega arith)) in
    let first : w * get_or e 0 0 ≡ w * 1 = ap (λ z. w * z) one in
    omega arith
weight-unit (w ∷ ws) e (suc i) h one zeros =
    let next = weight-next w ws e in
    let rest = weight-unit ws (drop 1 e) i (omega arith) (get-drop e i ∙ one) (λ k g ne. get-drop e k ∙ zeros (suc k) (omega arith) (λ z. ne (omega arith))) in
    let first : w * get_or e 0 0 ≡ w * 0 = ap (λ z. w * z) (zeros 0 (omega arith) (λ z. omega arith)) in
    omega arith

pub own_zero : (c : ℕ) (e : List ℕ) → is_own c e ≡ true → (i : ℕ) → c ≤ i → get_or e i 0 ≡ 0
own_zero zero [] h i g = refl
own_zero zero (k ∷ e) h zero g = eqb-true k 0 (and_left (eqb k 0) (list_all (λ k. eqb k 0) e) h)
own_zero zero (k ∷ e) h (suc i) g = own_zero zero e (ap (list_all (λ k. eqb k 0)) (drop-none e) ∙ and_right (eqb k 0) (list_all (λ k. eqb k 0) e) h) i (omega arith)
own_zero (suc c) [] h i g = refl
own_zero (suc c) (k ∷ e) h zero g = absurd (omega arith)
own_zero (suc c) (k ∷ e) h (suc i) g = own_zero c e h i (omega arith)

-- ---- the reduction

module _ (n : ℕ) (p : Part) (inside : length (row p).weights ≤ n) where
  abbrev ws : List ℕ
  ws = (row p).weights

  abbrev pub wd : ExpList n → ℕ
  wd m = weighted_degree_of ws m.entries

  -- no variable but the part's own
  abbrev pub IsOwn : ExpList n → Type 0
  IsOwn m = (w : ℕ) → length ws ≤ w → w < n → (exps n).at m w ≡ 0

  pub wd-plus : (a b : ExpList n) → wd (plus (exps n) a b) ≡ wd a + wd b
  wd-plus a b = weight-sum ws a.entries b.entries (plus (exps n) a b).entries (λ i h. ExpLaws.at-plus (exps n) (exps_are n) a b i (omega arith))

  at-monomial : (e : List ℕ) (i : ℕ) → i < n → (exps n).at (monomial_in n e) i ≡ get_or e i 0
  at-monomial e i h = (exps_are n).at_make (λ i. get_or e i 0) i h

  wd-monomial : (e : List ℕ) → wd (monomial_in n e) ≡ weighted_degree_of ws e
  wd-monomial e = weight-same ws e (monomial_in n e).entries (λ i h. at-monomial e i (omega arith))

  -- a monomial of the grade g in the part's variables
  abbrev pub OfGrade : ℕ → ExpList n → Type 0
  OfGrade g m = IsOwn m × (wd m ≡ g)

  -- one that is taken from variable i in the grade g
  abbrev pub OfShare : ℕ → ℕ → ExpList n → Type 0
  OfShare g i m = IsOwn m × (wd m + (row p).degree ≡ g + get_or ws i 0)

  own_rest : (rest : ExpList n) (m : ExpList n) → IsOwn (plus (exps n) rest m) → IsOwn rest
  own_rest rest m h w past g = let a = ExpLaws.at-plus (exps n) (exps_are n) rest m w g in let b = h w past g in omega arith

  own_plus : (rest : ExpList n) (e : List ℕ) → IsOwn rest → is_own (length ws) e ≡ true → IsOwn (plus (exps n) rest (monomial_in n e))
  own_plus rest e h q w past g =
      let a = ExpLaws.at-plus (exps n) (exps_are n) rest (monomial_in n e) w g in
      let b = h w past g in
      let d = at-monomial e w g in
      let z = own_zero (length ws) e q w past in
      omega arith

  -- the weight of one of the part's variables
  pub wd-variable : (i : ℕ) → i < length ws → wd (variable (exps n) i) ≡ get_or ws i 0
  wd-variable i h = weight-unit ws (variable (exps n) i).entries i h (ExpLaws.at-variable (exps n) (exps_are n) i i (omega arith) ∙ ExpLaws.unit_yes i i refl)
      (λ k g ne. ExpLaws.at-variable (exps n) (exps_are n) i k (omega arith) ∙ ExpLaws.unit_no k i ne)

  -- what has a weight has a degree
  pub degree-positive : (m : ExpList n) → 1 ≤ wd m → 1 ≤ degree (exps n) m
  degree-positive m h = elim (ExpLaws.zero_or_not (degree (exps n) m)) [
    | inr p ↦ p
    | inl z ↦ (let e : wd m ≡ 0 = ap wd (ExpLaws.none_of_degree (exps n) (exps_are n) m z)
        ∙ weight-same ws [] (none (exps n)).entries (λ i g. ExpLaws.at-none (exps n) (exps_are n) i (omega arith)) ∙ weight-empty ws in absurd (omega arith))
  ]

  -- with all weights 1 the degree of a monomial in the part's variables is its weighted degree
  pub degree-own : AllByRecursion (λ w. w ≡ 1) ws → (m : ExpList n) → IsOwn m → degree (exps n) m ≡ wd m
  degree-own ones m own =
      let b = Place.restrict (exps n) (exps_are n) (exps (length ws)) (exps_are (length ws)) inside m in
      ap (degree (exps n)) (Place.placed-restrict (exps n) (exps_are n) (exps (length ws)) (exps_are (length ws)) inside m own)
      ∙ Place.degree-placed (exps n) (exps_are n) (exps (length ws)) (exps_are (length ws)) inside b
      ∙ Canonical.degree-entries (length ws) b
      ∙ sym (weight-ones ws b.entries ones b.long)
      ∙ weight-same ws m.entries b.entries (λ i h. (exps_are (length ws)).at_make ((exps n).at m) i h)

  -- own monomials alone
  pub own_tails : (l : Lead) → Contains (row p).leads l → (rest : ExpList n) → IsOwn (plus (exps n) rest (monomial_in n l.monomial)) → Each (λ e. IsOwn (plus (exps n) rest (monomial_in n e.monomial))) (tail_of l)
  own_tails l among rest q =
      each_passes (fits_tail ws l) (λ e. IsOwn (plus (exps n) rest (monomial_in n e.monomial)))
      (λ e h. own_plus rest e.monomial (own_rest rest (monomial_in n l.monomial) q) (and_right (eqb (weighted_degree_of ws e.monomial) (weighted_degree_of ws l.monomial)) (is_own (length ws) e.monomial) h)) (tail_of l)
      (and_left (list_all (fits_tail ws l) (tail_of l)) (all_to (length ws) (fits_cofactors ws (row p).degree l) && (leb 2 (length ws) && (leb 3 (length ws) || is_empty (cofactor l 2))))
      (passes (fits ws (row p).degree) (row p).leads l (leads_fit p) among))

  module _ (g : ℕ) where
    tails_fit : (l : Lead) → Contains (row p).leads l → (rest : ExpList n) → OfGrade g (plus (exps n) rest (monomial_in n l.monomial)) → Each (λ e. OfGrade g (plus (exps n) rest (monomial_in n e.monomial))) (tail_of l)
    tails_fit l among rest q =
        each_passes (fits_tail ws l) (λ e. OfGrade g (plus (exps n) rest (monomial_in n e.monomial))) one (tail_of l)
        (and_left (list_all (fits_tail ws l) (tail_of l)) (all_to (length ws) (fits_cofactors ws (row p).degree l) && (leb 2 (length ws) && (leb 3 (length ws) || is_empty (cofactor l 2))))
        (passes (fits ws (row p).degree) (row p).leads l (leads_fit p) among))
      where
        one : (e : Entry) → fits_tail ws l e ≡ true → OfGrade g (plus (exps n) rest (monomial_in n e.monomial))
        one e h =
            let same = eqb-true (weighted_degree_of ws e.monomial) (weighted_degree_of ws l.monomial) (and_left (eqb (weighted_degree_of ws e.monomial) (weighted_degree_of ws l.monomial)) (is_own (length ws) e.monomial) h) in
            let a = wd-plus rest (monomial_in n e.monomial) in
            let b = wd-plus rest (monomial_in n l.monomial) in
            let d = wd-monomial e.monomial in
            let k = wd-monomial l.monomial in
            let t = q.1 in
            (own_plus rest e.monomial (own_rest rest (monomial_in n l.monomial) q.0) (and_right (eqb (weighted_degree_of ws e.monomial) (weighted_degree_of ws l.monomial)) (is_own (length ws) e.monomial) h), omega arith)

    cofactors_fit : (i : ℕ) → i < length ws → (l : Lead) → Contains (row p).leads l → (rest : ExpList n) → OfGrade g (plus (exps n) rest (monomial_in n l.monomial))
        → Each (λ e. OfShare g i (plus (exps n) rest (monomial_in n e.monomial))) (cofactor l i)
    cofactors_fit i own l among rest q =
        each_passes (fits_cofactor ws (row p).degree l i) (λ e. OfShare g i (plus (exps n) rest (monomial_in n e.monomial))) one (cofactor l i)
        (ExpLaws.all_to_at (length ws) (fits_cofactors ws (row p).degree l)
        (and_left (all_to (length ws) (fits_cofactors ws (row p).degree l)) (leb 2 (length ws) && (leb 3 (length ws) || is_empty (cofactor l 2)))
        (and_right (list_all (fits_tail ws l) (tail_of l)) (all_to (length ws) (fits_cofactors ws (row p).degree l) && (leb 2 (length ws) && (leb 3 (length ws) || is_empty (cofactor l 2))))
        (passes (fits ws (row p).degree) (row p).leads l (leads_fit p) among))) i own)
      where
        one : (e : Entry) → fits_cofactor ws (row p).degree l i e ≡ true → OfShare g i (plus (exps n) rest (monomial_in n e.monomial))
        one e h =
            let test = eqb (weighted_degree_of ws e.monomial + (row p).degree) (weighted_degree_of ws l.monomial + get_or ws i 0) in
            let same = eqb-true (weighted_degree_of ws e.monomial + (row p).degree) (weighted_degree_of ws l.monomial + get_or ws i 0) (and_left test (is_own (length ws) e.monomial) h) in
            let a = wd-plus rest (monomial_in n e.monomial) in
            let b = wd-plus rest (monomial_in n l.monomial) in
            let d = wd-monomial e.monomial in
            let k = wd-monomial l.monomial in
            let t = q.1 in
            (own_plus rest e.monomial (own_rest rest (monomial_in n l.monomial) q.0) (and_right test (is_own (length ws) e.monomial) h), omega arith)

    -- the other variables have no cofactors
    cofactors_none : (i : ℕ) → length ws ≤ i → (l : Lead) → Contains (row p).leads l → cofactor l i ≡ []
    cofactors_none i past l among = by_place i past
      where
        last : (leb 2 (length ws) && (leb 3 (length ws) || is_empty (cofactor l 2))) ≡ true
        last = and_right (all_to (length ws) (fits_cofactors ws (row p).degree l)) (leb 2 (length ws) && (leb 3 (length ws) || is_empty (cofactor l 2)))
            (and_right (list_all (fits_tail ws l) (tail_of l)) (all_to (length ws) (fits_cofactors ws (row p).degree l) && (leb 2 (length ws) && (leb 3 (length ws) || is_empty (cofactor l 2))))
            (passes (fits ws (row p).degree) (row p).leads l (leads_fit p) among))

        two : 2 ≤ length ws
        two = leb-true 2 (length ws) (and_left (leb 2 (length ws)) (leb 3 (length ws) || is_empty (cofactor l 2)) last)

        nothing : (es : List Entry) → is_empty es ≡ true → es ≡ []
        nothing [] h = refl
        nothing (e ∷ es) h = let bad : ⊥ = cc h in absurd bad

        third : (b : Bool) → leb 3 (length ws) ≡ b → (b || is_empty (cofactor l 2)) ≡ true → length ws ≤ 2 → cofactor l 2 ≡ []
        third true q h low = let y = leb-true 3 (length ws) q in absurd (omega arith)
        third false q h low = nothing (cofactor l 2) h

        by_place : (i : ℕ) → length ws ≤ i → cofactor l i ≡ []
        by_place zero h = absurd (let y = two in omega arith)
        by_place (suc zero) h = absurd (let y = two in omega arith)
        by_place (suc (suc zero)) h = third (leb 3 (length ws)) refl (and_right (leb 2 (length ws)) (leb 3 (length ws) || is_empty (cofactor l 2)) last) h
        by_place (suc (suc (suc i))) h = refl

    -- own cofactors: of the own variables, and none of the others
    own_cofactors_at : (i : ℕ) → (i < length ws) ⊎ (length ws ≤ i) → (l : Lead) → Contains (row p).leads l → (rest : ExpList n) → IsOwn (plus (exps n) rest (monomial_in n l.monomial))
        → Each (λ e. IsOwn (plus (exps n) rest (monomial_in n e.monomial))) (cofactor l i)
    own_cofactors_at i (inr past) l among rest q = subst (Each (λ (e : Entry). IsOwn (plus (exps n) rest (monomial_in n e.monomial)))) (sym (cofactors_none i past l among)) tt
    own_cofactors_at i (inl less) l among rest q =
        each_passes (fits_cofactor ws (row p).degree l i) (λ e. IsOwn (plus (exps n) rest (monomial_in n e.monomial)))
        (λ e h. own_plus rest e.monomial (own_rest rest (monomial_in n l.monomial) q)
        (and_right (eqb (weighted_degree_of ws e.monomial + (row p).degree) (weighted_degree_of ws l.monomial + get_or ws i 0)) (is_own (length ws) e.monomial) h)) (cofactor l i)
        (ExpLaws.all_to_at (length ws) (fits_cofactors ws (row p).degree l)
        (and_left (all_to (length ws) (fits_cofactors ws (row p).degree l)) (leb 2 (length ws) && (leb 3 (length ws) || is_empty (cofactor l 2)))
        (and_right (list_all (fits_tail ws l) (tail_of l)) (all_to (length ws) (fits_cofactors ws (row p).degree l) && (leb 2 (length ws) && (leb 3 (length ws) || is_empty (cofactor l 2))))
        (passes (fits ws (row p).degree) (row p).leads l (leads_fit p) among))) i less)

    -- the terms of the grade
    module _ {V : Type 0} (s : Scalars V) (letters : List V) where
      abbrev pub graded : Polynomial n V → Polynomial n V
      graded f = terms_of_grade n s letters p g f

      pub all_graded : (f : Polynomial n V) → Each (λ (t : ExpList n × V). OfGrade g t.0) (graded f)
      all_graded [] = tt
      all_graded (t ∷ f) = step (is_of_grade n s letters ws g t.0) refl (all_graded f)
        where
          step : (b : Bool) → is_of_grade n s letters ws g t.0 ≡ b → Each (λ (t : ExpList n × V). OfGrade g t.0) (graded f) → Each (λ (t : ExpList n × V). OfGrade g t.0) (cond b (t ∷ graded f) (graded f))
          step true q k = (
            (
              (λ w past h. own_zero (length ws) t.0.entries (and_right (eqb (weighted_degree_of ws t.0.entries) g) (is_own (length ws) t.0.entries) q) w past),
              eqb-true (weighted_degree_of ws t.0.entries) g (and_left (eqb (weighted_degree_of ws t.0.entries) g) (is_own (length ws) t.0.entries) q),
            ),
            k,
          )
          step false q k = k

      -- what is taken from variable i
      abbrev pub takes : Polynomial n V → ℕ → Polynomial n V
      takes f i = taken s letters (3 * length (graded f)) (row p).leads (graded f) i

      pub takes_share : (f : Polynomial n V) (i : ℕ) → i < length ws → Each (λ (t : ExpList n × V). OfShare g i t.0) (takes f i)
      takes_share f i own = KillTerms.all-taken s letters (row p).leads (OfGrade g) (OfShare g i) i tails_fit (cofactors_fit i own) (3 * length (graded f)) (graded f) (all_graded f)

      pub takes_none : (f : Polynomial n V) (i : ℕ) → length ws ≤ i → takes f i ≡ []
      takes_none f i past =
          nothing (takes f i)
          (KillTerms.all-taken s letters (row p).leads (OfGrade g) (λ m. ⊥) i tails_fit
          (λ l among rest q. subst (Each (λ (e : Entry). ⊥)) (sym (cofactors_none i past l among)) tt) (3 * length (graded f)) (graded f) (all_graded f))
        where
          nothing : (h : Polynomial n V) → Each (λ (t : ExpList n × V). ⊥) h → h ≡ []
          nothing [] a = refl
          nothing (t ∷ h) a = absurd a.0

less_or_past : (i k : ℕ) → (i < k) ⊎ (k ≤ i)
less_or_past i k = grind arith

pub own_cofactors : (n : ℕ) (p : Part) (inside : length (row p).weights ≤ n) (i : ℕ) (l : Lead) → Contains (row p).leads l → (rest : ExpList n) → IsOwn n p inside (plus (exps n) rest (monomial_in n l.monomial))
    → Each (λ e. IsOwn n p inside (plus (exps n) rest (monomial_in n e.monomial))) (cofactor l i)
own_cofactors n p inside i l among rest q = own_cofactors_at n p inside 0 i (less_or_past i (length (row p).weights)) l among rest q
