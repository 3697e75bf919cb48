-- The stages of the program beside those of the definition.
use Rattle.std.proofs.Common.{◌≡◌, ◌≢◌, ℕ, zero, suc, ◌+◌, ◌<◌, ◌≤◌, Bool, true, false, not, Option, Some, None, List, [], ◌∷◌, ◌++◌, map, length, get_or, take, All, refl, sym, ap, ◌∙◌, subst, arith}
use Rattle.std.proofs.lemmas.List.{map-append, take_more, get_or-map, length-map, same_lists}
use Rattle.ring_theory.specs.Scalars.{Scalars, Meaning, ScalarLaws, HasInverses}
use Rattle.poly_law.specs.Exps.{variable}
use Rattle.poly_law.specs.ExpList.{exps}
use Rattle.poly_law.specs.Poly.{coefficient, StartsAt}
use Rattle.poly_law.specs.Polynomials.{Polynomial, SameIn, cut_in, term_in}
use Rattle.poly_law.proofs.ExpLists.{exps_are}
use Rattle.poly_law.proofs.Order
use Rattle.poly_law.proofs.Sums
use Rattle.mono_exp.specs.Exponents.{numbers_below}
use Rattle.mono_exp.proofs.Lists.{Each, length-numbers_below, get_or-numbers_below}
use Rattle.jet_law.specs.Terms.{poly_of}
use Rattle.jet_law.specs.Canonical.{jet}
use Rattle.jet_poly.specs.JetTerms.{JetTerms, IsRising}
use Rattle.jet_poly.specs.Jets.{IsJet}
use Rattle.jet_subst.specs.Parts.{part_of}
use Rattle.germ_law.proofs.Canonical
use Rattle.coord_change.specs.declared.change.Change.{Change}
use Rattle.coord_change.specs.Changes.{IsChange}
use Rattle.coord_change.specs.Moves.{Move, put, move_from, variable_of, identity}
use Rattle.coord_change.proofs.InverseLemmas
use Rattle.coord_change.specs.Inverses.{InverseIsHigh}
use Rattle.kill_law.specs.Kill.{first}
use Rattle.move_law.specs.Moves.{whole, is_there, pair_exponents}
use Rattle.move_law.specs.Hessian.{Squares, pairs, others, moved, entry, has_entry, close, mixing, next_square, moved_work, close_work, next_work}
use Rattle.split_lemma.specs.Splits.{AnyHigh}
use Rattle.hessian_rank.specs.declared.stage.Stage.{Stage}
use Rattle.move_law.specs.Work as work
use Rattle.move_law.specs.Work.{IsWorkHigh}
use Rattle.hessian_rank.specs.Sound.{Has, Distinct, IsLinear, partial, IsSound}
use Rattle.hessian_rank.specs.Stages.{stage_of, IsStage, IsStageFor, IsLinearChange, PutsSame}
use Rattle.hessian_rank.proofs.CanonicalJets.{canonical}
use Rattle.hessian_rank.proofs.LinearMoves
use Rattle.hessian_rank.proofs.NumberLists
use Rattle.hessian_rank.proofs.SquareSteps
use Rattle.hessian_rank.proofs.SumOfSquares

-- a state by its parts
abbrev from_parts : {V : Type 0} {n : ℕ} → List ℕ → List ℕ → Move n V → Polynomial n V → Squares n V
from_parts o c m f = record { opened = o; closed = c; change = m; form = f }

-- the same parts are the same whole
pub same_squares : {V : Type 0} {n : ℕ} {o o' c c' : List ℕ} {m m' : Move n V} {f f' : Polynomial n V} → o ≡ o' → c ≡ c' → m ≡ m' → f ≡ f' → ◌≡◌ {A = Squares n V} (from_parts o c m f) (from_parts o' c' m' f')
same_squares {V} {n} {o} {o'} {c} {c'} {m} {m'} {f} {f'} eo ec em ef =
    ap (λ z. from_parts {V = V} {n = n} z c m f) eo ∙ ap (λ z. from_parts {V = V} {n = n} o' z m f) ec ∙ ap (λ z. from_parts {V = V} {n = n} o' c' z f) em ∙ ap (λ z. from_parts {V = V} {n = n} o' c' m' z) ef

-- one element more is mapped
pub map_more : {X Y : Type 0} (f : X → Y) (xs : List X) (k : ℕ) (d : X) (ys : List Y) → k < length xs → ys ≡ map f (take k xs) → ys ++ f (get_or xs k d) ∷ [] ≡ map f (take (k + 1) xs)
map_more f xs k d ys h e = ap (λ z. z ++ f (get_or xs k d) ∷ []) e ∙ sym (map-append f (take k xs) (get_or xs k d ∷ [])) ∙ ap (map f) (sym (take_more xs k d h))

-- all elements
pub take_end : {X : Type 0} (xs : List X) (k : ℕ) → length xs ≤ k → take k xs ≡ xs
take_end [] zero h = refl
take_end [] (suc k) h = refl
take_end (x ∷ xs) zero h = absurd (omega arith)
take_end (x ∷ xs) (suc k) h = ap (λ z. x ∷ z) (take_end xs k (omega arith))

-- the numbers below one more
pub numbers_more : (k : ℕ) → numbers_below k ++ k ∷ [] ≡ numbers_below (k + 1)
numbers_more k = ap numbers_below (let e : suc k ≡ k + 1 = omega arith in e)

module _ {E V : Type 0} (m : Meaning E V) (laws : ScalarLaws m.scalars) (n : ℕ) where
  -- the linear change of a matrix puts what the linear move does
  pub puts_of : (w : ℕ → ℕ → V) (move : Move n V) (c : Change E) → IsLinear n m.scalars w move → IsLinearChange m n w c → PutsSame m n move c
  puts_of w move c is lc = record { change = lc.change; variables = lc.variables; parts = λ i h b. lc.parts i h b ∙ sym (is.forms i h b) }

  -- its inverse is high only where that of the move is
  pub inverse_high : (w : ℕ → ℕ → V) (move : Move n V) → IsLinear n m.scalars w move → InverseIsHigh m.scalars n w → IsWorkHigh n m.scalars (work.inverted move)
  inverse_high w move is high =
      InverseLemmas.high_of_same m.scalars laws.ring n w (λ i j. coefficient (exps n) m.scalars.ops (put n m.scalars move i) (variable (exps n) j))
      (λ i j h g. sym (LinearMoves.entries n m.scalars laws w move is i j h g)) high

  -- the identity of the program is the identity
  pub identity_from : (c : Change E) → IsChange m c → c.n ≡ n → ((i : ℕ) → i < n → part_of n m.value c.parts i ≡ term_in n m.scalars.ops (variable (exps n) i)) → move_from m n c ≡ identity n m.scalars
  identity_from c is e parts =
      same_lists (move_from m n c) (identity n m.scalars) (length-map c.parts (λ (p : JetTerms E). poly_of n m.value p.terms) ∙ is.count ∙ e ∙ sym (length-numbers_below n) ∙ sym (length-map (numbers_below n) (variable_of n m.scalars)))
      (λ k d h. at k d (let l = length-map c.parts (λ (p : JetTerms E). poly_of n m.value p.terms) in let q = is.count in omega (arith, e)))
    where
      at : (k : ℕ) (d : Polynomial n V) → k < n → get_or (move_from m n c) k d ≡ get_or (identity n m.scalars) k d
      at k d h =
          get_or-map (λ (p : JetTerms E). poly_of n m.value p.terms) c.parts k (record { n = 0; order = 0; terms = [] }) d (let q = is.count in omega (arith, e)) ∙ parts k h
          ∙ sym (get_or-map (variable_of n m.scalars) (numbers_below n) k 0 d (let l = length-numbers_below n in omega arith) ∙ ap (variable_of n m.scalars) (get_or-numbers_below n k 0 h))

  -- f cut at degree 2 is the form at the start, for the jet of f of order 2
  pub cut_is : (h : JetTerms E) (f : Polynomial n V) → IsJet m h → h.n ≡ n → h.order ≡ 2 → IsRising h.terms → SameIn n m.scalars.ops (poly_of n m.value h.terms) (cut_in n m.scalars.ops 2 f)
      → poly_of n m.value h.terms ≡ jet n m.scalars 2 (jet n m.scalars 2 f)
  cut_is h f j en eo rising e =
      canonical m laws n 2 h (jet n m.scalars 2 f) j en eo rising
      (λ b low. e b ∙ Order.cut_same_to (exps n) (exps_are n) m.scalars.ops laws.ring 2 f b low ∙ sym (Canonical.jet_same_to n m.scalars laws 2 f b low))

  -- what f lacks in low degrees its jet lacks
  pub jet_low : (f : Polynomial n V) → StartsAt (exps n) m.scalars.ops 2 f → StartsAt (exps n) m.scalars.ops 2 (jet n m.scalars 2 f)
  jet_low f two b h = Canonical.jet_same_to n m.scalars laws 2 f b (omega arith) ∙ two b h

-- ---- stages in as many variables as their change has

module _ {E V : Type 0} (m : Meaning E V) (n : ℕ) (p : Squares n V) (q : Stage E) (at : IsStageFor m n p q) where
  -- it is a stage in its own number of variables
  pub own_stage : IsStage m q.change.n q
  own_stage = subst (λ z. IsStage m z q) (sym at.stage.variables) at.stage

  -- what is sound is so there
  pub own_sound : IsSound n m.scalars p → IsSound q.change.n m.scalars (stage_of m q.change.n q)
  own_sound sound = subst (λ z. IsSound z m.scalars (stage_of m z q)) (sym at.stage.variables) (subst (IsSound n m.scalars) (sym at.is) sound)

  -- an entry that is there is there
  pub own_entry : (i : ℕ) → has_entry n m.scalars p i i ≡ true → has_entry q.change.n m.scalars (stage_of m q.change.n q) i i ≡ true
  own_entry i e = subst (λ z. has_entry z m.scalars (stage_of m z q) i i ≡ true) (sym at.stage.variables) (subst (λ z. has_entry n m.scalars z i i ≡ true) (sym at.is) e)

  -- what is made of it there is made of it
  pub own_step : (f : (n : ℕ) → Squares n V → Squares n V) (r : Stage E) → IsStageFor m q.change.n (f q.change.n (stage_of m q.change.n q)) r → IsStageFor m n (f n p) r
  own_step f r h = subst (λ z. IsStageFor m n (f n z) r) at.is (subst (λ z. IsStageFor m z (f z (stage_of m z q)) r) at.stage.variables h)

  -- and the operations are the same
  pub own_work : (f : (n : ℕ) → Squares n V → List (work.Work n V)) → AnyHigh q.change.n m.scalars (f q.change.n (stage_of m q.change.n q)) → AnyHigh n m.scalars (f n p)
  own_work f h = subst (λ z. AnyHigh n m.scalars (f n z)) at.is (subst (λ z. AnyHigh z m.scalars (f z (stage_of m z q))) at.stage.variables h)

module _ {E V : Type 0} (m : Meaning E V) (n : ℕ) (q : Stage E) (e : q.form.n ≡ n) (items : List ℕ) (same : items ≡ q.opened.items) where
  -- the first square, as it was looked for
  pub square_found : (o : Option ℕ) → o ≡ first (λ i. is_there q.form.n m.scalars (poly_of q.form.n m.value q.form.terms) (pair_exponents q.form.n i i)) items
      → first (λ i. has_entry n m.scalars (stage_of m n q) i i) q.opened.items ≡ o
  square_found o h = sym (subst (λ (xs : List ℕ). o ≡ first (λ i. has_entry n m.scalars (stage_of m n q) i i) xs) same
      (subst (λ z. o ≡ first (λ i. is_there z m.scalars (poly_of z m.value q.form.terms) (pair_exponents z i i)) items) e h))

  -- the first product
  pub pair_found : (o : Option (ℕ × ℕ)) → o ≡ first (λ p. is_there q.form.n m.scalars (poly_of q.form.n m.value q.form.terms) (pair_exponents q.form.n p.0 p.1)) (pairs items)
      → first (λ p. has_entry n m.scalars (stage_of m n q) p.0 p.1) (pairs q.opened.items) ≡ o
  pair_found o h = sym (subst (λ (xs : List ℕ). o ≡ first (λ p. has_entry n m.scalars (stage_of m n q) p.0 p.1) (pairs xs)) same
      (subst (λ z. o ≡ first (λ p. is_there z m.scalars (poly_of z m.value q.form.terms) (pair_exponents z p.0 p.1)) (pairs items)) e h))

  -- the open variables are variables of the form
  pub inside_form : Each (λ i. i < n) q.opened.items → All (λ i. i < q.form.n) items
  inside_form h = NumberLists.each-all (λ i. i < q.form.n) items (subst (λ z. Each (λ i. i < z) items) (sym e) (subst (Each (λ i. i < n)) (sym same) h))

-- ---- the next step

module _ {V : Type 0} (n : ℕ) (s : Scalars V) (q : Squares n V) where
  -- a square is closed
  pub next_closed : (i : ℕ) → first (λ i. has_entry n s q i i) q.opened ≡ Some i → (next_square n s q ≡ close n s i q) × (next_work n s q ≡ close_work n s i q)
  next_closed i e = (
    ap (λ o. elim o [ Some i ↦ close n s i q | None ↦ elim (first (λ p. has_entry n s q p.0 p.1) (pairs q.opened)) [ Some p ↦ close n s p.0 (moved n s (mixing n s p) q) | None ↦ q ] ]) e,
    ap (λ o. elim o [ Some i ↦ close_work n s i q | None ↦ elim (first (λ p. has_entry n s q p.0 p.1) (pairs q.opened)) [ Some p ↦ moved_work n s (mixing n s p) q ++ close_work n s p.0 (moved n s (mixing n s p) q) | None ↦ [] ] ]) e,
  )

  module _ (none : first (λ i. has_entry n s q i i) q.opened ≡ None) where
    -- a pair is mixed
    pub next_mixed : (p : ℕ × ℕ) → first (λ p. has_entry n s q p.0 p.1) (pairs q.opened) ≡ Some p
        → (next_square n s q ≡ close n s p.0 (moved n s (mixing n s p) q)) × (next_work n s q ≡ moved_work n s (mixing n s p) q ++ close_work n s p.0 (moved n s (mixing n s p) q))
    next_mixed p e = (
      ap (λ o. elim o [ Some i ↦ close n s i q | None ↦ elim (first (λ p. has_entry n s q p.0 p.1) (pairs q.opened)) [ Some p ↦ close n s p.0 (moved n s (mixing n s p) q) | None ↦ q ] ]) none
          ∙ ap (λ o. elim o [ Some p ↦ close n s p.0 (moved n s (mixing n s p) q) | None ↦ q ]) e,
      ap (λ o. elim o [ Some i ↦ close_work n s i q | None ↦ elim (first (λ p. has_entry n s q p.0 p.1) (pairs q.opened)) [ Some p ↦ moved_work n s (mixing n s p) q ++ close_work n s p.0 (moved n s (mixing n s p) q) | None ↦ [] ] ]) none
          ∙ ap (λ o. elim o [ Some p ↦ moved_work n s (mixing n s p) q ++ close_work n s p.0 (moved n s (mixing n s p) q) | None ↦ [] ]) e,
    )

    -- nothing is left
    pub next_nothing : first (λ p. has_entry n s q p.0 p.1) (pairs q.opened) ≡ None → next_square n s q ≡ q
    next_nothing e =
        ap (λ o. elim o [ Some i ↦ close n s i q | None ↦ elim (first (λ p. has_entry n s q p.0 p.1) (pairs q.opened)) [ Some p ↦ close n s p.0 (moved n s (mixing n s p) q) | None ↦ q ] ]) none
        ∙ ap (λ o. elim o [ Some p ↦ close n s p.0 (moved n s (mixing n s p) q) | None ↦ q ]) e

  -- the first square is one of an open variable
  pub square_facts : (i : ℕ) → first (λ i. has_entry n s q i i) q.opened ≡ Some i → Has q.opened i × (has_entry n s q i i ≡ true)
  square_facts i e = (
    SquareSteps.first_each (λ i. has_entry n s q i i) (Has q.opened) q.opened i (NumberLists.each-from (Has q.opened) q.opened (λ i h. h)) e,
    SquareSteps.first_passes (λ i. has_entry n s q i i) q.opened i e,
  )

  module _ (laws : ScalarLaws s) (inverts : HasInverses s) (sound : IsSound n s q) (none : first (λ i. has_entry n s q i i) q.opened ≡ None) (p : ℕ × ℕ) (e : first (λ p. has_entry n s q p.0 p.1) (pairs q.opened) ≡ Some p) where
    -- the pair is one of two different open variables
    pub pair_facts : Has q.opened p.0 × Has q.opened p.1 × (p.0 ≢ p.1)
    pair_facts = SquareSteps.first_each (λ p. has_entry n s q p.0 p.1) (λ p. Has q.opened p.0 × Has q.opened p.1 × (p.0 ≢ p.1)) (pairs q.opened) p
        (SquareSteps.each-pairs (λ p. Has q.opened p.0 × Has q.opened p.1 × (p.0 ≢ p.1)) q.opened sound.opened_distinct (λ i j h g ne. (h, g, ne))) e

    -- both are below n
    pub pair_inside : (p.0 < n) × (p.1 < n)
    pair_inside = (NumberLists.each-has (λ i. i < n) q.opened p.0 sound.opened_inside pair_facts.0, NumberLists.each-has (λ i. i < n) q.opened p.1 sound.opened_inside pair_facts.1)

    -- what is mixed is sound
    pub mixed_is_sound : IsSound n s (moved n s (mixing n s p) q)
    mixed_is_sound = SquareSteps.mixed_sound n s laws q sound p.0 p.1 pair_facts.0 pair_facts.1

    -- and has a square
    pub mixed_has : has_entry n s (moved n s (mixing n s p) q) p.0 p.0 ≡ true
    mixed_has = step (s.is_zero v) refl
      where
        q' : Squares n V
        q' = moved n s (mixing n s p) q

        v : V
        v = entry n s q' p.0 p.0

        gone : (i : ℕ) → Has q.opened i → partial n s q.form i i ≡ s.ops.zero
        gone i h = SumOfSquares.square_gone n s laws inverts q i (NumberLists.each-has (λ i. i < n) q.opened i sound.opened_inside h)
            (NumberLists.each-has (λ i. has_entry n s q i i ≡ false) q.opened i (SquareSteps.none_passes (λ i. has_entry n s q i i) q.opened none) h)

        there : partial n s q'.form p.0 p.0 ≢ s.ops.zero
        there = SquareSteps.mixed_square n s laws q sound p.0 p.1 pair_facts.0 pair_facts.1 pair_facts.2 (gone p.0 pair_facts.0) (gone p.1 pair_facts.1)
            (SumOfSquares.product_there n s laws inverts q p.0 p.1 pair_inside.0 pair_inside.1 pair_facts.2 (SquareSteps.first_passes (λ p. has_entry n s q p.0 p.1) (pairs q.opened) p e))

        step : (b : Bool) → s.is_zero v ≡ b → not b ≡ true
        step false h = refl
        step true h = absurd (there (SquareSteps.own_partial n s laws q' p.0 pair_inside.0 ∙ ap (s.ops.mul (whole s 2)) ((laws.zero_test v).0 h) ∙ Sums.mul_zero s.ops laws.ring (whole s 2)))

-- ---- the other open variables

module _ {V : Type 0} (n : ℕ) (s : Scalars V) (q : Squares n V) (sound : IsSound n s q) (i : ℕ) (js : List ℕ) (e : js ≡ others i q.opened) where
  -- they are variables
  pub others_inside : Each (λ j. j < n) js
  others_inside = subst (Each (λ j. j < n)) (sym e) (NumberLists.each-without i (λ j. j < n) q.opened sound.opened_inside)

  -- each once
  pub others_distinct : Distinct js
  others_distinct = subst Distinct (sym e) (NumberLists.distinct-without i q.opened sound.opened_distinct)

  -- and none is i
  pub others_apart : Each (λ y. i ≢ y) js
  others_apart = subst (Each (λ y. i ≢ y)) (sym e) (NumberLists.each-from (λ y. i ≢ y) (others i q.opened) (λ j h z. (NumberLists.without-has i q.opened j h).1 (sym z)))
