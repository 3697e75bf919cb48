-- The moves of two variables.
use Rattle.std.proofs.Common.{◌≡◌, ◌≢◌, ℕ, ◌<◌, Bool, true, false, cond, eqb, eqb-true, eq-eqb, List, [], ◌∷◌, map, length, get_or, set, All, refl, sym, ap, subst, ◌∙◌, arith}
use Rattle.std.proofs.lemmas.List.{get_or-set_same, get_or-set_other, length-set, get_or-map, length-map, same_lists}
use Rattle.ring_theory.specs.Scalars.{ScalarLaws, Meaning}
use Rattle.poly_law.specs.Exps.{variable}
use Rattle.poly_law.specs.ExpList.{exps}
use Rattle.poly_law.specs.Poly.{coefficient}
use Rattle.poly_law.specs.Polynomials.{Polynomial, StartsAtIn, HaveNoConstant}
use Rattle.mono_exp.specs.Exponents.{numbers_below}
use Rattle.mono_exp.proofs.Lists.{length-numbers_below, get_or-numbers_below}
use Rattle.jet_law.specs.Terms.{poly_of}
use Rattle.jet_poly.specs.JetTerms.{JetTerms}
use Rattle.jet_poly.specs.Jets.{IsJet}
use Rattle.jet_subst.specs.Parts.{IsPart, part_of, jet_at}
use Rattle.coord_change.specs.declared.change.Change.{Change}
use Rattle.coord_change.specs.Changes.{IsChange}
use Rattle.coord_change.specs.Inverses.{HasNoKernel, InverseIsHigh}
use Rattle.coord_change.specs.Linear.{linear_part_of, order_of}
use Rattle.coord_change.specs.MoveJets.{IsMoveExactly}
use Rattle.coord_change.specs.Moves.{Move, move_of, put, linear_part, variable_of}
use Rattle.coord_change.proofs.InverseLemmas

module _ {E V : Type 0} (m : Meaning E V) (n o i j : ℕ) (hi : i < n) (hj : j < n) (other : i ≢ j) (unit : List (JetTerms E)) (count : length unit ≡ n) (jets : All (IsPart m n) unit) (orders : All (λ p. p.order ≡ o) unit)
    (vars : (k : ℕ) → k < n → part_of n m.value unit k ≡ variable_of n m.scalars k) (p q : JetTerms E) (pj : IsJet m p) (pn : p.n ≡ n) (po : p.order ≡ o) (qj : IsJet m q) (qn : q.n ≡ n) (qo : q.order ≡ o) where
  abbrev pub P : List (JetTerms E)
  P = set (set unit i p) j q

  abbrev pub move : Move n V
  move = move_of n m.scalars ((i, poly_of n m.value p.terms) ∷ (j, poly_of n m.value q.terms) ∷ [])

  pub long : length P ≡ n
  long = length-set (set unit i p) j q ∙ length-set unit i p ∙ count

  -- the jet at a place
  pub at_place : (k : ℕ) (d : JetTerms E) → k < n → get_or P k d ≡ cond (eqb i k) p (cond (eqb j k) q (get_or unit k d))
  at_place k d h = step (eqb i k) (eqb j k) refl refl
    where
      step : (a b : Bool) → eqb i k ≡ a → eqb j k ≡ b → get_or P k d ≡ cond a p (cond b q (get_or unit k d))
      step true true ea eb = absurd (other (eqb-true i k ea ∙ sym (eqb-true j k eb)))
      step true false ea eb =
          get_or-set_other (set unit i p) j k q d (λ e. let bad : false ≡ true = sym eb ∙ eq-eqb j k (sym e) in cc bad)
          ∙ ap (λ z. get_or (set unit i p) z d) (sym (eqb-true i k ea)) ∙ get_or-set_same unit i p d (omega arith)
      step false true ea eb =
          ap (λ z. get_or P z d) (sym (eqb-true j k eb)) ∙ get_or-set_same (set unit i p) j q d (let l = length-set unit i p in omega arith)
      step false false ea eb =
          get_or-set_other (set unit i p) j k q d (λ e. let bad : false ≡ true = sym eb ∙ eq-eqb j k (sym e) in cc bad)
          ∙ get_or-set_other unit i k p d (λ e. let bad : false ≡ true = sym ea ∙ eq-eqb i k (sym e) in cc bad)

  each : (Q : JetTerms E → Type 0) → Q p → Q q → All Q unit → All Q P
  each Q a b all k d h = subst Q (sym (at_place k d (let l = long in omega arith))) (step (eqb i k) (eqb j k))
    where
      step : (x y : Bool) → Q (cond x p (cond y q (get_or unit k d)))
      step true y = a
      step false true = b
      step false false = all k d (let l = long in omega arith)

  pub parts_are : All (IsPart m n) P
  parts_are = each (IsPart m n) (record { jet = pj; variables = pn }) (record { jet = qj; variables = qn }) jets

  pub orders_are : All (λ f. f.order ≡ o) P
  orders_are = each (λ f. f.order ≡ o) po qo orders

  -- what is put for a variable
  abbrev put_for : ℕ → Polynomial n V
  put_for k = cond (eqb i k) (poly_of n m.value p.terms) (cond (eqb j k) (poly_of n m.value q.terms) (variable_of n m.scalars k))

  pub part_is : (k : ℕ) → k < n → part_of n m.value P k ≡ put_for k
  part_is k h = ap (λ (f : JetTerms E). poly_of n m.value f.terms) (at_place k (record { n = 0; order = 0; terms = [] }) h) ∙ step (eqb i k) (eqb j k)
    where
      step : (x y : Bool) → poly_of n m.value (cond x p (cond y q (jet_at unit k))).terms ≡ cond x (poly_of n m.value p.terms) (cond y (poly_of n m.value q.terms) (variable_of n m.scalars k))
      step true y = refl
      step false true = refl
      step false false = vars k h

  pub moves_are : map (λ (f : JetTerms E). poly_of n m.value f.terms) P ≡ move
  unfolding move_of
  moves_are = same_lists (map (λ (f : JetTerms E). poly_of n m.value f.terms) P) (map put_for (numbers_below n))
      (length-map P (λ (f : JetTerms E). poly_of n m.value f.terms) ∙ long ∙ sym (length-numbers_below n) ∙ sym (length-map (numbers_below n) put_for))
      (λ k d h.
      let inside : k < n = (let a = length-map P (λ (f : JetTerms E). poly_of n m.value f.terms) in let b = long in omega arith) in
      get_or-map (λ (f : JetTerms E). poly_of n m.value f.terms) P k (record { n = 0; order = 0; terms = [] }) d (let b = long in omega arith)
      ∙ part_is k inside ∙ ap put_for (sym (get_or-numbers_below n k 0 inside))
      ∙ sym (get_or-map put_for (numbers_below n) k 0 d (let b = length-numbers_below n in omega arith)))

  pub put_is : (k : ℕ) → k < n → put n m.scalars move k ≡ put_for k
  unfolding move_of
  put_is k h = get_or-map put_for (numbers_below n) k 0 [] (let b = length-numbers_below n in omega arith) ∙ ap put_for (get_or-numbers_below n k 0 h)

  module _ (l : ScalarLaws m.scalars) (L : List (JetTerms E)) (is : L ≡ P) where
    pub size : length L ≡ n
    size = ap length is ∙ long

    pub given : 0 < length L
    given = let s = size in omega arith

    pub list_parts : All (IsPart m (length L)) L
    list_parts = subst (λ z. All (IsPart m z) L) (sym size) (subst (All (IsPart m n)) (sym is) parts_are)

    pub order_is : order_of L ≡ o
    order_is = first L given (subst (All (λ (f : JetTerms E). f.order ≡ o)) (sym is) orders_are)
      where
        first : (xs : List (JetTerms E)) → 0 < length xs → All (λ (f : JetTerms E). f.order ≡ o) xs → order_of xs ≡ o
        first [] h a = absurd (omega arith)
        first (x ∷ xs) h a = a 0 x (omega arith)

    pub list_orders : All (λ (f : JetTerms E). f.order ≡ order_of L) L
    list_orders = subst (λ z. All (λ (f : JetTerms E). f.order ≡ z) L) (sym order_is) (subst (All (λ (f : JetTerms E). f.order ≡ o)) (sym is) orders_are)

    part_in : (k : ℕ) → k < n → part_of n m.value L k ≡ put_for k
    part_in k h = ap (λ zs. part_of n m.value zs k) is ∙ part_is k h

    pub list_low : ((k : ℕ) → k < n → StartsAtIn n m.scalars.ops 1 (part_of n m.value unit k)) → StartsAtIn n m.scalars.ops 1 (poly_of n m.value p.terms) → StartsAtIn n m.scalars.ops 1 (poly_of n m.value q.terms)
        → HaveNoConstant (length L) m.scalars.ops (length L) (part_of (length L) m.value L)
    list_low low pl ql = subst (λ z. HaveNoConstant z m.scalars.ops z (part_of z m.value L)) (sym size) (λ k h. subst (StartsAtIn n m.scalars.ops 1) (sym (part_in k h)) (step k h (eqb i k) (eqb j k)))
      where
        step : (k : ℕ) → k < n → (x y : Bool) → StartsAtIn n m.scalars.ops 1 (cond x (poly_of n m.value p.terms) (cond y (poly_of n m.value q.terms) (variable_of n m.scalars k)))
        step k h true y = pl
        step k h false true = ql
        step k h false false = subst (StartsAtIn n m.scalars.ops 1) (vars k h) (low k h)

    -- the linear part
    agree : (a b : ℕ) → a < n → b < n → linear_part n m.scalars move a b ≡ linear_part_of m n L a b
    agree a b ha hb = ap (λ f. coefficient (exps n) m.scalars.ops f (variable (exps n) b)) (put_is a ha ∙ sym (part_in a ha))

    pub list_regular : HasNoKernel m.scalars.ops n (linear_part n m.scalars move) → HasNoKernel m.scalars.ops (length L) (linear_part_of m (length L) L)
    list_regular regular = subst (λ z. HasNoKernel m.scalars.ops z (linear_part_of m z L)) (sym size)
        (λ x h d hd. regular x (λ a ha. InverseLemmas.same_image m.scalars.ops l.ring n (linear_part n m.scalars move) (linear_part_of m n L) agree x a ha ∙ h a ha) d hd)

    pub list_high : InverseIsHigh m.scalars (length L) (linear_part_of m (length L) L) → InverseIsHigh m.scalars n (linear_part n m.scalars move)
    list_high high = InverseLemmas.high_of_same m.scalars l.ring n (linear_part_of m n L) (linear_part n m.scalars move) (λ a b ha hb. sym (agree a b ha hb)) (subst (λ z. InverseIsHigh m.scalars z (linear_part_of m z L)) size high)

    pub list_change : (c : Change E) → IsChange m c → c.n ≡ length L → c.order ≡ order_of L → c.parts ≡ L → IsMoveExactly m n o move c
    list_change c change en eo ep = record {
      change = change;
      variables = en ∙ size;
      order = eo ∙ order_is;
      parts = ap (map (λ (f : JetTerms E). poly_of n m.value f.terms)) (ep ∙ is) ∙ moves_are;
    }
