-- The tail of J: its two moves, and what stays high.
use Rattle.std.proofs.Common.{◌≡◌, ℕ, ◌+◌, ◌*◌, ◌<◌, ◌≤◌, inl, inr, Bool, true, false, not, ◌&&◌, cond, Option, Some, None, List, [], ◌∷◌, ◌++◌, length, le-leb, refl, sym, ap, ap₂, subst, ◌∙◌}
use Rattle.std.specs.Prelude.{nat_le}
use Rattle.std.proofs.lemmas.Bool.{lt-leb}
use Rattle.ring_theory.specs.Height.{most}
use Rattle.ring_theory.specs.Scalars.{Scalars, Meaning}
use Rattle.poly_law.specs.Polynomials.{Polynomial}
use Rattle.jet_law.specs.Terms.{poly_of}
use Rattle.coord_change.specs.Carries.{carry}
use Rattle.coord_change.specs.Moves.{Move, at, move_of, variable_of}
use Rattle.kill_law.specs.declared.part.Part.{Part}
use Rattle.kill_law.specs.declared.part.Part.TheVariants as parts
use Rattle.kill_law.specs.Table.{row}
use Rattle.normal_forms.specs.declared.family.Family.{Family}
use Rattle.normal_forms.specs.declared.family.Family.TheVariants as families
use Rattle.normal_forms.specs.declared.kind.Kind.TheVariants as kinds
use Rattle.normal_forms.specs.Units.{triple_discriminant}
use Rattle.move_law.specs.Moves.{made, term_of, whole}
use Rattle.move_law.specs.Patterns.{two}
use Rattle.move_law.specs.Finish.{Finishing, begin_finish, from_to, graded, graded_kill, least, tail_factor, tail_from, tail_move, tail_of_J, tail_work, triple_coefficients, triple_root_move, triple_root_work, with_move, with_work}
use Rattle.move_law.specs.Work as work
use Rattle.move_law.specs.Work.{Work, IsWorkHigh, composing_work}
use Rattle.split_lemma.specs.Splits.{AnyHigh}
use Rattle.split_lemma.proofs.CompletedTerms.{among_left, among_right}
use Rattle.rules_corank2.specs.declared.finish_state.Finishing as code
use Rattle.rules_corank2.specs.Finishes.{IsUnderWay, IsFinishingHigh}
use Rattle.rules_corank2.specs.Regular.{rooted, root_killed, tail_moved}
use Rattle.rules_corank2.specs.Tails.{by_root, factor_work, root_shift, tail_products}
use Rattle.rules_corank2.proofs.FinishKills.{kills_form, kills_grow}
use Rattle.rules_corank2.proofs.FinishMoves.{among_cases, composing_grows}
use Rattle.rules_corank2.proofs.PlaneMoves.{alone}

-- the part of T(2,3,r) has two variables
pub JT_weights : length (row parts.JT).weights ≡ 2
unfolding row
JT_weights = refl

pub J10_weights : length (row parts.J10).weights ≡ 2
unfolding row
J10_weights = refl

-- lists of three
pub three_are : {X : Type 0} (a b c a' b' c' : X) → a ≡ a' → b ≡ b' → c ≡ c' → ◌≡◌ {A = List X} (a ∷ b ∷ c ∷ []) (a' ∷ b' ∷ c' ∷ [])
three_are a b c a' b' c' ea eb ec = ap (λ x. x ∷ b ∷ c ∷ []) ea ∙ ap (λ x. a' ∷ x ∷ c ∷ []) eb ∙ ap (λ x. a' ∷ b' ∷ x ∷ []) ec

-- ---- what the program keeps

module _ {E V : Type 0} (m : Meaning E V) (n o : ℕ) (g : Finishing n V) (state : code.Finishing E) (is : IsUnderWay m n o g state) (Q : (n o : ℕ) → Polynomial n V → Type 0) where
  -- what holds of the jet of a finish under way holds of that which the program keeps
  pub of_kept : Q n o g.form → Q state.form.n state.form.order (poly_of state.form.n m.value state.form.terms)
  of_kept q =
      subst (λ z. Q z state.form.order (poly_of z m.value state.form.terms)) (sym is.form.variables)
      (subst (λ z. Q n z (poly_of n m.value state.form.terms)) (sym is.form.order) (subst (Q n o) (sym is.form.polynomial) q))

  -- and conversely
  pub of_plan : Q state.form.n state.form.order (poly_of state.form.n m.value state.form.terms) → Q n o g.form
  of_plan q =
      subst (Q n o) is.form.polynomial
      (subst (λ z. Q n z (poly_of n m.value state.form.terms)) is.form.order (subst (λ z. Q z state.form.order (poly_of z m.value state.form.terms)) is.form.variables q))

-- further operations change nothing that the program keeps
pub worked : {E V : Type 0} (m : Meaning E V) (n o : ℕ) (works : List (Work n V)) (g : Finishing n V) (state : code.Finishing E) → IsUnderWay m n o g state → IsUnderWay m n o (with_work n m.scalars o works g) state
worked m n o works g state is = record {
  given = is.given;
  at_most_8_variables = is.at_most_8_variables;
  order_at_least_2 = is.order_at_least_2;
  order_at_most_16 = is.order_at_most_16;
  form = is.form;
  change = is.change;
  no_constants = is.no_constants;
}

module _ {V : Type 0} (n : ℕ) (s : Scalars V) (o : ℕ) where
  abbrev IsHigh : Finishing n V → Type 0
  IsHigh = IsFinishingHigh n s o

  -- what is high stays so with further operations
  pub work_grows : (works : List (Work n V)) (g : Finishing n V) → IsHigh g → IsHigh (with_work n s o works g)
  work_grows works g high = elim (among_cases (IsWorkHigh n s) g.works (composing_work n s o g.moves) high) [
    | inl a ↦ among_left (IsWorkHigh n s) (g.works ++ works) (composing_work n s o g.moves) (among_left (IsWorkHigh n s) g.works works a)
    | inr b ↦ among_right (IsWorkHigh n s) (g.works ++ works) (composing_work n s o g.moves) b
  ]

  -- and one of these may be
  pub work_high : (works : List (Work n V)) (g : Finishing n V) → AnyHigh n s works → IsHigh (with_work n s o works g)
  work_high works g high = among_left (IsWorkHigh n s) (g.works ++ works) (composing_work n s o g.moves) (among_right (IsWorkHigh n s) g.works works high)

  pub graded_grows : (p : Part) (g : Finishing n V) → IsHigh g → IsHigh (graded_kill n s o p g)
  graded_grows p g = kills_grow n s o p (from_to ((row p).degree + 1) (o * most (row p).weights)) g

  found_high : (finding : List (Work n V)) (move : Move n V) (g : Finishing n V) → AnyHigh n s finding → IsHigh (with_move n s o finding move g)
  found_high finding move g high =
      among_left (IsWorkHigh n s) (with_move n s o finding move g).works (composing_work n s o (g.moves ++ made n s move ∷ []))
      (among_left (IsWorkHigh n s) (g.works ++ finding) (work.inverted (made n s move) ∷ work.carried o (made n s move) g.form ∷ []) (among_right (IsWorkHigh n s) g.works finding high))

  -- ---- the first move

  -- what it puts for x
  abbrev pub root_part : Polynomial n V → Polynomial n V
  root_part f = variable_of n s 0 ++ term_of n s (s.ops.neg (root_shift n s f)) (two 0 2)

  pub root_moves : (f : Polynomial n V) (g : Finishing n V) → f ≡ g.form
      → with_move n s o (triple_root_work n s o g.form) (move_of n s ((0, root_part f) ∷ (1, variable_of n s 1) ∷ [])) g ≡ by_root n s o g
  root_moves f g e = ap (λ move. with_move n s o (triple_root_work n s o g.form) move g) (sym (alone n s (root_part f)) ∙ ap (triple_root_move n s o) e)

  -- ---- the second move

  abbrev pub second : ℕ → Finishing n V → Finishing n V
  second r g =
      let a = at n s g.form (two 3 0) in
      let b = at n s g.form (two 2 2) in
      let c = at n s g.form (two 0 r) in
      let e = at n s g.form (two 0 (r + 1)) in
      with_move n s o (tail_work n s o a b c e r) (tail_move n s o a b (tail_factor n s o b c e r)) g

  abbrev goes_on : ℕ → Finishing n V → Bool
  goes_on r g = nat_le (r + 1) o && not (s.is_zero (at n s g.form (two 0 (r + 1))))

  -- past the order there is none
  pub tail_short : (r : ℕ) (g : Finishing n V) → o < r + 1 → tail_from n s o r g ≡ g
  tail_short r g h = ap (λ b. cond b (graded_kill n s o parts.JT (second r g)) g) (ap (λ b. b && not (s.is_zero (at n s g.form (two 0 (r + 1))))) (lt-leb (r + 1) o h))

  -- nor where the power above is not there
  pub tail_none : (r : ℕ) (g : Finishing n V) → s.is_zero (at n s g.form (two 0 (r + 1))) ≡ true → tail_from n s o r g ≡ g
  tail_none r g e = ap (λ b. cond b (graded_kill n s o parts.JT (second r g)) g) (ap (λ b. nat_le (r + 1) o && not b) e ∙ step (nat_le (r + 1) o))
    where
      step : (b : Bool) → b && false ≡ false
      step true = refl
      step false = refl

  pub tail_second : (r : ℕ) (g : Finishing n V) → r + 1 ≤ o → s.is_zero (at n s g.form (two 0 (r + 1))) ≡ false → tail_from n s o r g ≡ graded_kill n s o parts.JT (second r g)
  tail_second r g h e = ap (λ b. cond b (graded_kill n s o parts.JT (second r g)) g) (ap₂ (λ a b. a && not b) (le-leb (r + 1) o h) e)

  -- its jet depends on that before it alone
  pub tail_moved_is : (r : ℕ) (f : Polynomial n V) (g : Finishing n V) → f ≡ g.form → tail_moved n s o r f ≡ (second r g).form
  tail_moved_is r f g e =
      ap (λ p. carry n s o (made n s (tail_move n s o (at n s p (two 3 0)) (at n s p (two 2 2)) (tail_factor n s o (at n s p (two 2 2)) (at n s p (two 0 r)) (at n s p (two 0 (r + 1))) r))) p) e

  -- the move, by its numbers
  module _ (r : ℕ) (g : Finishing n V) (a b c e v : V) (a_is : a ≡ at n s g.form (two 3 0)) (b_is : b ≡ at n s g.form (two 2 2)) (c_is : c ≡ at n s g.form (two 0 r))
      (e_is : e ≡ at n s g.form (two 0 (r + 1))) where
    abbrev works : List (Work n V)
    works = tail_work n s o (at n s g.form (two 3 0)) (at n s g.form (two 2 2)) (at n s g.form (two 0 r)) (at n s g.form (two 0 (r + 1))) r

    works_are : tail_work n s o a b c e r ≡ works
    works_are =
        ap (λ z. tail_work n s o z b c e r) a_is ∙ ap (λ z. tail_work n s o (at n s g.form (two 3 0)) z c e r) b_is ∙ ap (λ z. tail_work n s o (at n s g.form (two 3 0)) (at n s g.form (two 2 2)) z e r) c_is
        ∙ ap (λ z. tail_work n s o (at n s g.form (two 3 0)) (at n s g.form (two 2 2)) (at n s g.form (two 0 r)) z r) e_is

    numbers_are : tail_move n s o a b (tail_factor n s o b c e r)
        ≡ tail_move n s o (at n s g.form (two 3 0)) (at n s g.form (two 2 2)) (tail_factor n s o (at n s g.form (two 2 2)) (at n s g.form (two 0 r)) (at n s g.form (two 0 (r + 1))) r)
    numbers_are =
        ap (λ z. tail_move n s o z b (tail_factor n s o b c e r)) a_is ∙ ap (λ z. tail_move n s o (at n s g.form (two 3 0)) z (tail_factor n s o z c e r)) b_is
        ∙ ap (λ z. tail_move n s o (at n s g.form (two 3 0)) (at n s g.form (two 2 2)) (tail_factor n s o (at n s g.form (two 2 2)) z e r)) c_is
        ∙ ap (λ z. tail_move n s o (at n s g.form (two 3 0)) (at n s g.form (two 2 2)) (tail_factor n s o (at n s g.form (two 2 2)) (at n s g.form (two 0 r)) z r)) e_is

    pub second_is : v ≡ tail_factor n s o b c e r → with_move n s o (tail_work n s o a b c e r) (tail_move n s o a b v) g ≡ second r g
    second_is v_is = ap₂ (λ w move. with_move n s o w move g) works_are (ap (tail_move n s o a b) v_is ∙ numbers_are)

    -- a number of the factor is high
    pub factor_high : AnyHigh n s (factor_work n s b c e r) → IsHigh (second r g)
    factor_high high =
        let factor = tail_factor n s o b c e r in
        let all : with_move n s o (tail_work n s o a b c e r) (tail_move n s o a b factor) g ≡ second r g = ap₂ (λ w move. with_move n s o w move g) works_are numbers_are in
        subst IsHigh all (found_high (tail_work n s o a b c e r) (tail_move n s o a b factor) g (among_left (IsWorkHigh n s) (factor_work n s b c e r) (tail_products n s a b factor) high))

    -- or one of the move's coefficients
    pub products_high : v ≡ tail_factor n s o b c e r → AnyHigh n s (work.product (whole s 2) b ∷ tail_products n s a b v) → IsHigh (second r g)
    products_high v_is high =
        subst IsHigh (second_is v_is) (found_high (tail_work n s o a b c e r) (tail_move n s o a b v) g (elim high [
          | inl h ↦ inl h
          | inr rest ↦ among_right (IsWorkHigh n s) (factor_work n s b c e r) (tail_products n s a b (tail_factor n s o b c e r)) (subst (λ z. AnyHigh n s (tail_products n s a b z)) v_is rest)
        ]))

  tail_grows : (r : ℕ) (g : Finishing n V) → IsHigh g → IsHigh (tail_from n s o r g)
  tail_grows r g high = step (goes_on r g)
    where
      step : (b : Bool) → IsHigh (cond b (graded_kill n s o parts.JT (second r g)) g)
      step true =
          let a = at n s g.form (two 3 0) in
          let b = at n s g.form (two 2 2) in
          let c = at n s g.form (two 0 r) in
          let e = at n s g.form (two 0 (r + 1)) in
          graded_grows parts.JT (second r g) (composing_grows n s o g (tail_move n s o a b (tail_factor n s o b c e r)) (tail_work n s o a b c e r) high)
      step false = high

  -- ---- the tail

  abbrev pub first_killed : Finishing n V → Finishing n V
  first_killed g = graded_kill n s o parts.JT (by_root n s o g)

  abbrev by_least : Option ℕ → Finishing n V → Finishing n V × Option Family
  by_least (Some r) g = (tail_from n s o r g, Some (families.T 2 3 r))
  by_least None g = (g, None)

  tail_is : (g : Finishing n V) → tail_of_J n s o g ≡ by_least (least n s o 1 (first_killed g).form) (first_killed g)
  tail_is g = into (least n s o 1 (first_killed g).form)
    where
      into : (q : Option ℕ) → elim q [ Some r ↦ (tail_from n s o r (first_killed g), Some (families.T 2 3 r)) | None ↦ (first_killed g, None) ] ≡ by_least q (first_killed g)
      into (Some r) = refl
      into None = refl

  pub tail_some : (g : Finishing n V) (r : ℕ) → least n s o 1 (first_killed g).form ≡ Some r → tail_of_J n s o g ≡ (tail_from n s o r (first_killed g), Some (families.T 2 3 r))
  tail_some g r e = tail_is g ∙ ap (λ q. by_least q (first_killed g)) e

  pub tail_without : (g : Finishing n V) → least n s o 1 (first_killed g).form ≡ None → tail_of_J n s o g ≡ (first_killed g, None)
  tail_without g e = tail_is g ∙ ap (λ q. by_least q (first_killed g)) e

  pub tail_high : (g : Finishing n V) → IsHigh (first_killed g) → IsHigh (tail_of_J n s o g).0
  tail_high g high = subst (λ z. IsHigh z.0) (sym (tail_is g)) (step (least n s o 1 (first_killed g).form))
    where
      step : (q : Option ℕ) → IsHigh (by_least q (first_killed g)).0
      step (Some r) = tail_grows r (first_killed g) high
      step None = high

  tail_J_grows : (g : Finishing n V) → IsHigh g → IsHigh (tail_of_J n s o g).0
  tail_J_grows g high = tail_high g (graded_grows parts.JT (by_root n s o g) (composing_grows n s o g (triple_root_move n s o g.form) (triple_root_work n s o g.form) high))

  -- the jets of the tail depend on that from which it starts alone
  pub rooted_is : (f : Polynomial n V) (g : Finishing n V) → f ≡ g.form → rooted n s o f ≡ (by_root n s o g).form
  rooted_is f g e = ap (λ p. carry n s o (made n s (triple_root_move n s o p)) p) e

  pub root_killed_is : (f : Polynomial n V) (g : Finishing n V) → f ≡ g.form → root_killed n s o f ≡ (first_killed g).form
  root_killed_is f g e = kills_form n s o parts.JT (from_to ((row parts.JT).degree + 1) (o * most (row parts.JT).weights)) (begin_finish n s o (rooted n s o f)) (by_root n s o g) (rooted_is f g e)

  -- ---- J10

  abbrev pub tested : Finishing n V → Finishing n V
  tested g = with_work n s o (work.units kinds.Triple (triple_coefficients n s o g.form) ∷ []) g

  abbrev by_discriminant : Bool → Family → Finishing n V → Finishing n V × Option Family
  by_discriminant b family g = cond b (tail_of_J n s o (tested g)) (graded_kill n s o parts.J10 (tested g), Some family)

  pub triple_zero : (family : Family) (g : Finishing n V) → s.is_zero (triple_discriminant s (triple_coefficients n s o g.form)) ≡ true → graded n s o parts.J10 family g ≡ tail_of_J n s o (tested g)
  triple_zero family g e = ap (λ b. by_discriminant b family g) e

  pub triple_plain : (family : Family) (g : Finishing n V) → s.is_zero (triple_discriminant s (triple_coefficients n s o g.form)) ≡ false
      → graded n s o parts.J10 family g ≡ (graded_kill n s o parts.J10 (tested g), Some family)
  triple_plain family g e = ap (λ b. by_discriminant b family g) e

  pub triple_grows : (family : Family) (g : Finishing n V) → IsHigh (tested g) → IsHigh (graded n s o parts.J10 family g).0
  triple_grows family g high = step (s.is_zero (triple_discriminant s (triple_coefficients n s o g.form)))
    where
      step : (b : Bool) → IsHigh (by_discriminant b family g).0
      step true = tail_J_grows (tested g) high
      step false = graded_grows parts.J10 (tested g) high

-- the test of the discriminant changes nothing that the program keeps
pub tested_kept : {E V : Type 0} (m : Meaning E V) (n o : ℕ) (g : Finishing n V) (state : code.Finishing E) → IsUnderWay m n o g state → IsUnderWay m n o (tested n m.scalars o g) state
tested_kept m n o g = worked m n o (work.units kinds.Triple (triple_coefficients n m.scalars o g.form) ∷ []) g
