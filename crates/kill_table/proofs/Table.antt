-- What the table of the leads says of variables and weighted degrees, by computation, and what follows for the entries of a lead.
use Rattle.std.proofs.Common.{◌≡◌, ℕ, zero, suc, ◌+◌, ◌*◌, ◌<◌, ◌≤◌, ◌⊎◌, inl, inr, Bool, true, ◌&&◌, leb, ltb, eqb, eqb-true, ltb-true, List, [], ◌∷◌, ◌++◌, length, get_or, drop, refl, sym, ap, ap₂, subst, ◌∙◌, arith}
use Rattle.std.specs.Prelude.{Contains, All}
use Rattle.std.specs.List.{list_all}
use Rattle.std.proofs.lemmas.Bool.{leb-true}
use Rattle.std.proofs.lemmas.List.Sums.{AllPass-from_list_all}
use Rattle.std.proofs.lemmas.List.Elements.{Contains-append_left, Contains-append_right}
use Rattle.ring_theory.specs.Scalars.{Meaning}
use Rattle.mono_exp.specs.Exponents.{IsIn, weighted_degree_of}
use Rattle.kill_law.specs.declared.lead.Entry.{Entry}
use Rattle.kill_law.specs.declared.lead.Lead.{Lead}
use Rattle.kill_law.specs.declared.part.Part.{Part}
use Rattle.kill_law.specs.declared.part.Part.TheVariants as parts
use Rattle.kill_law.specs.Table.{Row, row}
use Rattle.kill_law.specs.Kill.{cofactor, tail_of}
use Rattle.kill_law.specs.Leads.{entries_of}
use Rattle.kill_law.proofs.LeadEquations.{and_left, and_right}
use Rattle.kill_leads.proofs.FirstLeads.{at-among}
use Rattle.kill_table.specs.declared.reduction.Step.{Step}
use Rattle.kill_table.specs.Divisors.{HasNonzeroDivisors}
use Rattle.kill_table.specs.Steps.{IsReady, IsWeighed}

-- only the first c variables occur
abbrev has_only : ℕ → List ℕ → Bool
has_only c e = list_all (λ k. eqb k 0) (drop c e)

abbrev entry_fits : List ℕ → Lead → Entry → Bool
entry_fits ws l e = has_only (length ws) e.monomial && leb (weighted_degree_of ws e.monomial) (weighted_degree_of ws l.monomial)

abbrev tail_fits : List ℕ → Lead → Entry → Bool
tail_fits ws l e = eqb (weighted_degree_of ws e.monomial) (weighted_degree_of ws l.monomial)

abbrev cofactor_fits : List ℕ → ℕ → Lead → ℕ → Entry → Bool
cofactor_fits ws d l i e = ltb i (length ws) && eqb (weighted_degree_of ws e.monomial + d) (weighted_degree_of ws l.monomial + get_or ws i 0)

abbrev cofactors_fit : List ℕ → ℕ → Lead → Bool
cofactors_fit ws d l = list_all (cofactor_fits ws d l 0) (cofactor l 0) && (list_all (cofactor_fits ws d l 1) (cofactor l 1) && list_all (cofactor_fits ws d l 2) (cofactor l 2))

abbrev lead_fits : List ℕ → ℕ → Lead → Bool
lead_fits ws d l = has_only (length ws) l.monomial && (list_all (entry_fits ws l) (entries_of l) && (list_all (tail_fits ws l) (tail_of l) && cofactors_fit ws d l))

abbrev weight_fits : ℕ → ℕ → Bool
weight_fits d w = ltb 0 w && leb w d

abbrev leads_fit : Row → Bool
leads_fit r = list_all (has_only (length r.weights)) r.form && list_all (lead_fits r.weights r.degree) r.leads

abbrev variables_fit : Row → Bool
variables_fit r = leb (length r.weights) 3 && ltb 0 (length r.weights)

abbrev row_fits : Row → Bool
row_fits r = list_all (weight_fits r.degree) r.weights && (variables_fit r && leads_fit r)

all_fit : (p : Part) → row_fits (row p) ≡ true
unfolding row
all_fit parts.D4 = refl
all_fit parts.D = refl
all_fit parts.J = refl
all_fit parts.X9 = refl
all_fit parts.X = refl
all_fit parts.Y = refl
all_fit parts.Z = refl
all_fit parts.W = refl
all_fit parts.P8 = refl
all_fit parts.Q = refl
all_fit parts.S = refl
all_fit parts.U = refl
all_fit parts.T = refl
all_fit parts.E6 = refl
all_fit parts.E7 = refl
all_fit parts.E8 = refl
all_fit parts.J10 = refl
all_fit parts.E12 = refl
all_fit parts.E13 = refl
all_fit parts.E14 = refl
all_fit parts.Z11 = refl
all_fit parts.Z12 = refl
all_fit parts.Z13 = refl
all_fit parts.W12 = refl
all_fit parts.W13 = refl
all_fit parts.Q10 = refl
all_fit parts.Q11 = refl
all_fit parts.Q12 = refl
all_fit parts.S11 = refl
all_fit parts.S12 = refl
all_fit parts.U12 = refl
all_fit parts.JT = refl

pub passes : {A : Type 0} (p : A → Bool) (xs : List A) (x : A) → list_all p xs ≡ true → Contains xs x → p x ≡ true
passes p xs x h k = subst (λ z. p z ≡ true) k.2 (AllPass-from_list_all p xs h k.0 x k.1)

-- ---- variables

all_zero : (e : List ℕ) → list_all (λ k. eqb k 0) e ≡ true → (i : ℕ) → get_or e i 0 ≡ 0
all_zero [] h i = refl
all_zero (x ∷ e) h zero = eqb-true x 0 (and_left (eqb x 0) (list_all (λ k. eqb k 0) e) h)
all_zero (x ∷ e) h (suc i) = all_zero e (and_right (eqb x 0) (list_all (λ k. eqb k 0) e) h) i

pub only-in : (c : ℕ) (e : List ℕ) → list_all (λ k. eqb k 0) (drop c e) ≡ true → IsIn c e
only-in zero [] h i g = refl
only-in zero (x ∷ e) h i g = all_zero (x ∷ e) h i
only-in (suc c) [] h i g = refl
only-in (suc c) (x ∷ e) h zero g = absurd (omega arith)
only-in (suc c) (x ∷ e) h (suc i) g = only-in c e h i (omega arith)

pub more-in : (c n : ℕ) (e : List ℕ) → c ≤ n → IsIn c e → IsIn n e
more-in c n e h a i g = a i (omega arith)

-- ---- the table

module _ (p : Part) where
  abbrev ws : List ℕ
  ws = (row p).weights

  abbrev d : ℕ
  d = (row p).degree

  abbrev c : ℕ
  c = length ws

  weights_good : list_all (weight_fits d) ws ≡ true
  weights_good = and_left (list_all (weight_fits d) ws) (variables_fit (row p) && leads_fit (row p)) (all_fit p)

  rest_fit : (variables_fit (row p) && leads_fit (row p)) ≡ true
  rest_fit = and_right (list_all (weight_fits d) ws) (variables_fit (row p) && leads_fit (row p)) (all_fit p)

  leads_good : list_all (lead_fits ws d) (row p).leads ≡ true
  leads_good = and_right (list_all (has_only c) (row p).form) (list_all (lead_fits ws d) (row p).leads) (and_right (variables_fit (row p)) (leads_fit (row p)) rest_fit)

  pub at-most-3 : c ≤ 3
  at-most-3 = leb-true c 3 (and_left (leb c 3) (ltb 0 c) (and_left (variables_fit (row p)) (leads_fit (row p)) rest_fit))

  pub given : 0 < c
  given = ltb-true 0 c (and_right (leb c 3) (ltb 0 c) (and_left (variables_fit (row p)) (leads_fit (row p)) rest_fit))

  -- the monomials of the form
  pub form-in : (e : List ℕ) → Contains (row p).form e → IsIn c e
  form-in e k = only-in c e (passes (has_only c) (row p).form e (and_left (list_all (has_only c) (row p).form) (list_all (lead_fits ws d) (row p).leads) (and_right (variables_fit (row p)) (leads_fit (row p)) rest_fit)) k)

  -- no weight is above the degree of the form
  pub weights-below : (i : ℕ) → get_or ws i 0 ≤ d
  weights-below i = each ws weights_good i
    where
      each : (xs : List ℕ) → list_all (weight_fits d) xs ≡ true → (i : ℕ) → get_or xs i 0 ≤ d
      each [] h i = omega arith
      each (x ∷ xs) h zero = leb-true x d (and_right (ltb 0 x) (leb x d) (and_left (weight_fits d x) (list_all (weight_fits d) xs) h))
      each (x ∷ xs) h (suc i) = each xs (and_right (weight_fits d x) (list_all (weight_fits d) xs) h) i

  one_times : (w i : ℕ) → 0 < w → i ≤ w * i
  one_times zero i h = absurd (omega arith)
  one_times (suc w) i h = let e : suc w * i ≡ i + w * i = grind arith in omega arith

  -- an exponent is at most the weighted degree
  pub exponent-below : (e : List ℕ) (i : ℕ) → i < c → get_or e i 0 ≤ weighted_degree_of ws e
  exponent-below e i h = each ws e i weights_good h
    where
      each : (xs e : List ℕ) (i : ℕ) → list_all (weight_fits d) xs ≡ true → i < length xs → get_or e i 0 ≤ weighted_degree_of xs e
      each [] e i g h = absurd (omega arith)
      each (x ∷ xs) [] i g h = omega arith
      each (x ∷ xs) (k ∷ e) zero g h = let a = one_times x k (ltb-true 0 x (and_left (ltb 0 x) (leb x d) (and_left (weight_fits d x) (list_all (weight_fits d) xs) g))) in omega arith
      each (x ∷ xs) (k ∷ e) (suc i) g h = let a = each xs e i (and_right (weight_fits d x) (list_all (weight_fits d) xs) g) (let q : suc i < suc (length xs) = h in omega arith) in omega arith

  module _ (l : Lead) (among : Contains (row p).leads l) where
    abbrev after_first : Bool
    after_first = list_all (entry_fits ws l) (entries_of l) && (list_all (tail_fits ws l) (tail_of l) && cofactors_fit ws d l)

    good : lead_fits ws d l ≡ true
    good = passes (lead_fits ws d) (row p).leads l leads_good among

    rest_good : after_first ≡ true
    rest_good = and_right (has_only c l.monomial) after_first good

    pub lead-in : IsIn c l.monomial
    lead-in = only-in c l.monomial (and_left (has_only c l.monomial) after_first good)

    entry_good : (e : Entry) → Contains (entries_of l) e → entry_fits ws l e ≡ true
    entry_good e k = passes (entry_fits ws l) (entries_of l) e (and_left (list_all (entry_fits ws l) (entries_of l)) (list_all (tail_fits ws l) (tail_of l) && cofactors_fit ws d l) rest_good) k

    pub entry-in : (e : Entry) → Contains (entries_of l) e → IsIn c e.monomial
    entry-in e k = only-in c e.monomial (and_left (has_only c e.monomial) (leb (weighted_degree_of ws e.monomial) (weighted_degree_of ws l.monomial)) (entry_good e k))

    pub entry-weight : (e : Entry) → Contains (entries_of l) e → weighted_degree_of ws e.monomial ≤ weighted_degree_of ws l.monomial
    entry-weight e k = leb-true (weighted_degree_of ws e.monomial) (weighted_degree_of ws l.monomial)
        (and_right (has_only c e.monomial) (leb (weighted_degree_of ws e.monomial) (weighted_degree_of ws l.monomial)) (entry_good e k))

    pub tail-weight : (e : Entry) → Contains (tail_of l) e → weighted_degree_of ws e.monomial ≡ weighted_degree_of ws l.monomial
    tail-weight e k = eqb-true (weighted_degree_of ws e.monomial) (weighted_degree_of ws l.monomial) (passes (tail_fits ws l) (tail_of l) e
        (and_left (list_all (tail_fits ws l) (tail_of l)) (cofactors_fit ws d l) (and_right (list_all (entry_fits ws l) (entries_of l)) (list_all (tail_fits ws l) (tail_of l) && cofactors_fit ws d l) rest_good)) k)

    cofactor_good : (i : ℕ) (e : Entry) → Contains (cofactor l i) e → cofactor_fits ws d l i e ≡ true
    cofactor_good i e k =
        let q : cofactors_fit ws d l ≡ true = and_right (list_all (tail_fits ws l) (tail_of l)) (cofactors_fit ws d l) (and_right (list_all (entry_fits ws l) (entries_of l)) (list_all (tail_fits ws l) (tail_of l) && cofactors_fit ws d l) rest_good) in
        at i k q
      where
        at : (i : ℕ) → Contains (cofactor l i) e → cofactors_fit ws d l ≡ true → cofactor_fits ws d l i e ≡ true
        at zero k q = passes (cofactor_fits ws d l 0) (cofactor l 0) e (and_left (list_all (cofactor_fits ws d l 0) (cofactor l 0)) (list_all (cofactor_fits ws d l 1) (cofactor l 1) && list_all (cofactor_fits ws d l 2) (cofactor l 2)) q) k
        at (suc zero) k q = passes (cofactor_fits ws d l 1) (cofactor l 1) e (and_left (list_all (cofactor_fits ws d l 1) (cofactor l 1)) (list_all (cofactor_fits ws d l 2) (cofactor l 2))
            (and_right (list_all (cofactor_fits ws d l 0) (cofactor l 0)) (list_all (cofactor_fits ws d l 1) (cofactor l 1) && list_all (cofactor_fits ws d l 2) (cofactor l 2)) q)) k
        at (suc (suc zero)) k q = passes (cofactor_fits ws d l 2) (cofactor l 2) e (and_right (list_all (cofactor_fits ws d l 1) (cofactor l 1)) (list_all (cofactor_fits ws d l 2) (cofactor l 2))
            (and_right (list_all (cofactor_fits ws d l 0) (cofactor l 0)) (list_all (cofactor_fits ws d l 1) (cofactor l 1) && list_all (cofactor_fits ws d l 2) (cofactor l 2)) q)) k
        at (suc (suc (suc i))) k q = absurd (nothing k)
          where
            nothing : Contains {X = Entry} [] e → ⊥
            nothing k = let h : k.0 < 0 = k.1 in omega arith

    pub cofactor-weight : (i : ℕ) (e : Entry) → Contains (cofactor l i) e → weighted_degree_of ws e.monomial + d ≡ weighted_degree_of ws l.monomial + get_or ws i 0
    cofactor-weight i e k = eqb-true (weighted_degree_of ws e.monomial + d) (weighted_degree_of ws l.monomial + get_or ws i 0)
        (and_right (ltb i c) (eqb (weighted_degree_of ws e.monomial + d) (weighted_degree_of ws l.monomial + get_or ws i 0)) (cofactor_good i e k))

-- ---- which entries there are

pub tail-among : (l : Lead) (e : Entry) → Contains (tail_of l) e → Contains (entries_of l) e
tail-among l e k = Contains-append_right ((cofactor l 0 ++ cofactor l 1) ++ cofactor l 2) (tail_of l) e k

cofactors-among : (l : Lead) (e : Entry) → Contains ((cofactor l 0 ++ cofactor l 1) ++ cofactor l 2) e → Contains (entries_of l) e
cofactors-among l e k = Contains-append_left ((cofactor l 0 ++ cofactor l 1) ++ cofactor l 2) (tail_of l) e k

pub cofactor-among : (l : Lead) (i : ℕ) (e : Entry) → Contains (cofactor l i) e → Contains (entries_of l) e
cofactor-among l zero e k = cofactors-among l e (Contains-append_left (cofactor l 0 ++ cofactor l 1) (cofactor l 2) e (Contains-append_left (cofactor l 0) (cofactor l 1) e k))
cofactor-among l (suc zero) e k = cofactors-among l e (Contains-append_left (cofactor l 0 ++ cofactor l 1) (cofactor l 2) e (Contains-append_right (cofactor l 0) (cofactor l 1) e k))
cofactor-among l (suc (suc zero)) e k = cofactors-among l e (Contains-append_right (cofactor l 0 ++ cofactor l 1) (cofactor l 2) e k)
cofactor-among l (suc (suc (suc i))) e k = absurd (nothing k)
  where
    nothing : Contains {X = Entry} [] e → ⊥
    nothing k = let h : k.0 < 0 = k.1 in omega arith

-- ---- weighted degrees of products

drop-none : (e : List ℕ) → drop 0 e ≡ e
drop-none [] = refl
drop-none (k ∷ e) = refl

weight-next : (w : ℕ) (ws e : List ℕ) → weighted_degree_of (w ∷ ws) e ≡ w * get_or e 0 0 + weighted_degree_of ws (drop 1 e)
weight-next w ws [] = let a : w * 0 ≡ 0 = omega arith in let b = none ws in omega arith
  where
    none : (ws : List ℕ) → weighted_degree_of ws [] ≡ 0
    none [] = refl
    none (w ∷ ws) = refl
weight-next w ws (k ∷ e) = ap (λ z. w * k + weighted_degree_of ws z) (sym (drop-none e))

get-drop : (e : List ℕ) (i : ℕ) → get_or (drop 1 e) i 0 ≡ get_or e (suc i) 0
get-drop [] i = refl
get-drop (k ∷ e) i = ap (λ z. get_or z i 0) (drop-none e)

pub weight-sum : (ws e f g : List ℕ) → ((i : ℕ) → i < length ws → get_or g i 0 ≡ get_or e i 0 + get_or f i 0) → weighted_degree_of ws g ≡ weighted_degree_of ws e + weighted_degree_of ws f
weight-sum [] e f g h = refl
weight-sum (w ∷ ws) e f g h =
    let first : get_or g 0 0 ≡ get_or e 0 0 + get_or f 0 0 = h 0 (omega arith) in
    let rest = weight-sum ws (drop 1 e) (drop 1 f) (drop 1 g) (λ i q. get-drop g i ∙ h (suc i) (omega arith) ∙ sym (ap₂ (λ y z. y + z) (get-drop e i) (get-drop f i))) in
    let split : w * (get_or e 0 0 + get_or f 0 0) ≡ w * get_or e 0 0 + w * get_or f 0 0 = grind arith in
    let whole = ap (λ z. w * z) first in
    let a = weight-next w ws e in
    let b = weight-next w ws f in
    let d = weight-next w ws g in
    omega arith

-- only the exponents of variables with a weight count
pub weight-same : (ws e f : List ℕ) → ((i : ℕ) → i < length ws → get_or e i 0 ≡ get_or f i 0) → weighted_degree_of ws e ≡ weighted_degree_of ws f
weight-same [] e f h = refl
weight-same (w ∷ ws) e f h =
    weight-next w ws e
    ∙ ap₂ (λ y z. w * y + z) (h 0 (omega arith)) (weight-same ws (drop 1 e) (drop 1 f) (λ i q. get-drop e i ∙ h (suc i) (omega arith) ∙ sym (get-drop f i)))
    ∙ sym (weight-next w ws f)

-- ---- steps

module _ {E V : Type 0} (m : Meaning E V) (letters : List V) (p : Part) (n grade : ℕ) (u : Step E) where
  -- a step of a grade below 256 can multiply the entries of its lead
  pub is-ready : length (row p).weights ≤ n → grade < 256 → HasNonzeroDivisors m.scalars letters p → m.is_elem u.coefficient → IsIn (length (row p).weights) u.rest.e → IsWeighed m letters p grade u → IsReady m letters n u
  is-ready inside small divisors elem rest w = record {
    elem = elem;
    variables = more-in (length (row p).weights) n u.rest.e inside rest;
    divisors = λ e k. divisors u.lead w.among e k;
    fits = λ e k i. at e k i (cases i (length (row p).weights));
    within = λ e k. more-in (length (row p).weights) n e.monomial inside (entry-in p u.lead w.among e k);
  }
    where
      cases : (i c : ℕ) → (i < c) ⊎ (c ≤ i)
      cases i c = grind arith

      at : (e : Entry) → Contains (entries_of u.lead) e → (i : ℕ) → (i < length (row p).weights) ⊎ (length (row p).weights ≤ i) → get_or u.rest.e i 0 + get_or e.monomial i 0 < 256
      at e k i (inl h) =
          let a = exponent-below p u.rest.e i h in
          let b = exponent-below p e.monomial i h in
          let g = entry-weight p u.lead w.among e k in
          let t = w.weight in
          let q = small in
          omega arith
      at e k i (inr h) = let a = rest i h in let b = entry-in p u.lead w.among e k i h in omega arith

-- the monomials of all leads
pub leads-in : (p : Part) (n : ℕ) → length (row p).weights ≤ n → All (λ l. IsIn n l.monomial) (row p).leads
leads-in p n inside k l h = more-in (length (row p).weights) n (get_or (row p).leads k l).monomial inside (lead-in p (get_or (row p).leads k l) (at-among (row p).leads k l h))
