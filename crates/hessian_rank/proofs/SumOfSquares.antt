-- The move of the Hessian leaves a sum of squares of the last variables.
use Rattle.std.proofs.Common.{◌≡◌, ◌≢◌, ℕ, zero, suc, ◌+◌, ◌-◌, ◌<◌, ◌≤◌, ◌⊎◌, inl, inr, Bool, true, false, not, cond, eqb, eqb-true, eq-eqb, Option, Some, None, [], ◌++◌, map, length, length-append, get_or, ap, ap₂, sym, ◌∙◌, refl, subst, arith}
use Rattle.ring_theory.specs.Scalars.{Scalars, ScalarLaws, HasInverses}
use Rattle.poly_law.specs.Sums.{unit_at}
use Rattle.poly_law.specs.ExpList.{exps}
use Rattle.poly_law.specs.Poly.{SameTo, StartsAt}
use Rattle.poly_law.specs.Polynomials.{Polynomial}
use Rattle.poly_law.proofs.Sums
use Rattle.mono_exp.specs.Exponents.{numbers_below}
use Rattle.mono_exp.proofs.Lists.{Each, each-append, map-same, numbers_are_below, length-numbers_below}
use Rattle.germ_law.proofs.Canonical
use Rattle.kill_law.specs.Kill.{first}
use Rattle.coord_change.specs.Moves.{at}
use Rattle.coord_change.specs.Carries.{carry, compose}
use Rattle.move_law.specs.Moves.{whole, pair_exponents}
use Rattle.move_law.specs.Split.{squares_in}
use Rattle.move_law.specs.Hessian.{Squares, pairs, started, moved, entry, has_entry, completing, close, mixing, next_square, squares_after, squares, permuting, hessian_move, corank}
use Rattle.split_lemma.proofs.Halves.{zero_from_double}
use Rattle.hessian_rank.specs.Diagonals.{IsSumOfSquares, IsDiagonalised}
use Rattle.hessian_rank.proofs.NumberLists
use Rattle.hessian_rank.specs.Sound.{Has, Distinct, IsLinear, partial, IsSound}
use Rattle.hessian_rank.proofs.PairExponents
use Rattle.hessian_rank.proofs.LinearMoves
use Rattle.hessian_rank.proofs.SquareSteps
use Rattle.hessian_rank.proofs.ReachedForms
use Rattle.hessian_rank.proofs.ReachedForms.{Reaches}

module _ {V : Type 0} (n : ℕ) (s : Scalars V) (laws : ScalarLaws s) (inverts : HasInverses s) where
  -- ---- tests

  -- a number that the test calls zero is
  zero_where : (b : Bool) (v : V) → s.is_zero v ≡ b → not b ≡ false → v ≡ s.ops.zero
  zero_where true v e h = (laws.zero_test v).0 e
  zero_where false v e h = let bad : true ≡ false = h in absurd (cc bad)

  -- a number that the test does not call zero is not
  pub not_where : (v : V) → not (s.is_zero v) ≡ true → v ≢ s.ops.zero
  not_where v h z = let bad : false ≡ true = sym (ap not ((laws.zero_test v).1 z)) ∙ h in absurd (cc bad)

  -- what the tests on a square and on a product say
  square_there : (q : Squares n V) (i : ℕ) → i < n → has_entry n s q i i ≡ true → partial n s q.form i i ≢ s.ops.zero
  square_there q i hi h z = not_where (entry n s q i i) h (zero_from_double s laws (entry n s q i i) (sym (SquareSteps.own_partial n s laws q i hi) ∙ z))

  -- a square that is not there
  pub square_gone : (q : Squares n V) (i : ℕ) → i < n → has_entry n s q i i ≡ false → partial n s q.form i i ≡ s.ops.zero
  square_gone q i hi h =
      SquareSteps.own_partial n s laws q i hi ∙ ap (s.ops.mul (whole s 2)) (zero_where (s.is_zero (entry n s q i i)) (entry n s q i i) refl h)
      ∙ Sums.mul_zero s.ops laws.ring (whole s 2)

  -- a product that is there
  pub product_there : (q : Squares n V) (i j : ℕ) → i < n → j < n → i ≢ j → has_entry n s q i j ≡ true → partial n s q.form i j ≢ s.ops.zero
  product_there q i j hi hj ne h z = not_where (entry n s q i j) h (sym (SquareSteps.other_partial n s laws q i j hi hj ne) ∙ z)

  -- a product that is not there
  product_gone : (q : Squares n V) (i j : ℕ) → i < n → j < n → i ≢ j → has_entry n s q i j ≡ false → partial n s q.form i j ≡ s.ops.zero
  product_gone q i j hi hj ne h = SquareSteps.other_partial n s laws q i j hi hj ne ∙ zero_where (s.is_zero (entry n s q i j)) (entry n s q i j) refl h

  -- ---- one step

  -- no terms are left in the open variables
  pub IsDone : Squares n V → Type 0
  IsDone q = (i j : ℕ) → Has q.opened i → Has q.opened j → partial n s q.form i j ≡ s.ops.zero

  -- what the next step leaves: one open variable less, or all as it was, with nothing left to do
  pub record IsNext (q next : Squares n V) : Type 0 where
    pub sound : IsSound n s next
    pub progress : (suc (length next.opened) ≡ length q.opened) ⊎ ((next ≡ q) × IsDone q)
    pub reaches : (f : Polynomial n V) → Reaches n s laws f q.change q.form → Reaches n s laws f next.change next.form

  -- the step where there is no square, by the first pair with a product
  abbrev chosen_pair : Squares n V → Option (ℕ × ℕ) → Squares n V
  chosen_pair q o = elim o [ Some p ↦ close n s p.0 (moved n s (mixing n s p) q) | None ↦ q ]

  -- the step, by the first square
  abbrev chosen : Squares n V → Option ℕ → Squares n V
  chosen q o = elim o [ Some i ↦ close n s i q | None ↦ chosen_pair q (first (λ p. has_entry n s q p.0 p.1) (pairs q.opened)) ]

  -- completing a square reaches the next terms
  completed_reaches : (q : Squares n V) → IsSound n s q → (i : ℕ) → i < n → (f : Polynomial n V) → Reaches n s laws f q.change q.form
      → Reaches n s laws f (compose n s 16 q.change (completing n s i q)) (carry n s 2 (completing n s i q) q.form)
  completed_reaches q sound i hi f r =
      ReachedForms.moved_reaches n s laws (λ a b. s.ops.add (unit_at s.ops a b) (cond (eqb a i) (SquareSteps.row_of n s laws q i b) s.ops.zero)) (completing n s i q) (SquareSteps.completing_is n s laws q sound i hi) f q.change q.form r

  module _ (q : Squares n V) (sound : IsSound n s q) where
    -- open variables are below n
    inside : (i : ℕ) → Has q.opened i → i < n
    inside i h = NumberLists.each-has (λ i. i < n) q.opened i sound.opened_inside h

    -- a variable with a square is closed
    closed_one : (i : ℕ) → Has q.opened i → has_entry n s q i i ≡ true → IsNext q (close n s i q)
    closed_one i h e = record {
      sound = SquareSteps.close_sound n s laws inverts q sound i h (square_there q i (inside i h) e);
      progress = inl (NumberLists.length-without i q.opened sound.opened_distinct h);
      reaches = completed_reaches q sound i (inside i h);
    }

    -- two different open variables
    abbrev IsPair : ℕ × ℕ → Type 0
    IsPair p = Has q.opened p.0 × Has q.opened p.1 × (p.0 ≢ p.1)

    -- the pairs of open variables are such
    all_pairs : Each IsPair (pairs q.opened)
    all_pairs = SquareSteps.each-pairs IsPair q.opened sound.opened_distinct (λ i j h g ne. (h, g, ne))

    -- where no open variable has a square, one of a pair with a product is closed
    mixed_one : Each (λ i. has_entry n s q i i ≡ false) q.opened → (p : ℕ × ℕ) → IsPair p → has_entry n s q p.0 p.1 ≡ true → IsNext q (close n s p.0 (moved n s (mixing n s p) q))
    mixed_one none p is e = record {
      sound = SquareSteps.close_sound n s laws inverts (moved n s (mixing n s p) q) (SquareSteps.mixed_sound n s laws q sound p.0 p.1 is.0 is.1) p.0 is.0
          (SquareSteps.mixed_square n s laws q sound p.0 p.1 is.0 is.1 is.2 (gone p.0 is.0) (gone p.1 is.1) (product_there q p.0 p.1 (inside p.0 is.0) (inside p.1 is.1) is.2 e));
      progress = inl (NumberLists.length-without p.0 q.opened sound.opened_distinct is.0);
      reaches = λ f r.
          completed_reaches (moved n s (mixing n s p) q) (SquareSteps.mixed_sound n s laws q sound p.0 p.1 is.0 is.1) p.0 (inside p.0 is.0) f
          (ReachedForms.moved_reaches n s laws (λ a b. s.ops.add (unit_at s.ops a b) (cond (eqb a p.1) (unit_at s.ops p.0 b) s.ops.zero)) (mixing n s p) (SquareSteps.mixing_is n s laws p.0 p.1 (inside p.0 is.0) (inside p.1 is.1)) f q.change q.form r);
    }
      where
        gone : (i : ℕ) → Has q.opened i → partial n s q.form i i ≡ s.ops.zero
        gone i h = square_gone q i (inside i h) (NumberLists.each-has (λ i. has_entry n s q i i ≡ false) q.opened i none h)

    -- where there is neither a square nor a product, all is done
    nothing_left : Each (λ i. has_entry n s q i i ≡ false) q.opened → Each (λ p. has_entry n s q p.0 p.1 ≡ false) (pairs q.opened) → IsDone q
    unfolding IsDone
    nothing_left none no_pair i j h g = step (eqb i j) refl
      where
        bad : {i j : ℕ} → eqb i j ≡ false → i ≡ j → ⊥
        bad {i} {j} e z = let w : false ≡ true = sym e ∙ eq-eqb i j z in cc w

        step : (b : Bool) → eqb i j ≡ b → partial n s q.form i j ≡ s.ops.zero
        step true e = subst (λ z. partial n s q.form i z ≡ s.ops.zero) (eqb-true i j e) (square_gone q i (inside i h) (NumberLists.each-has (λ i. has_entry n s q i i ≡ false) q.opened i none h))
        step false e = elim (SquareSteps.pair-has (λ p. has_entry n s q p.0 p.1 ≡ false) q.opened no_pair i j h g (bad e)) [
          | inl w ↦ product_gone q i j (inside i h) (inside j g) (bad e) w
          | inr w ↦ PairExponents.second_symmetric n s laws q.form i j (inside i h) (inside j g) ∙ product_gone q j i (inside j g) (inside i h) (λ z. bad e (sym z)) w
        ]

    -- the next step, in each case
    pub next_is : IsNext q (next_square n s q)
    next_is = step (first (λ i. has_entry n s q i i) q.opened) refl
      where
        pair_step : Each (λ i. has_entry n s q i i ≡ false) q.opened → (o : Option (ℕ × ℕ)) → first (λ p. has_entry n s q p.0 p.1) (pairs q.opened) ≡ o → IsNext q (chosen_pair q o)
        pair_step none (Some p) e = mixed_one none p (SquareSteps.first_each (λ p. has_entry n s q p.0 p.1) IsPair (pairs q.opened) p all_pairs e) (SquareSteps.first_passes (λ p. has_entry n s q p.0 p.1) (pairs q.opened) p e)
        pair_step none None e = record { sound = sound; progress = inr (refl, nothing_left none (SquareSteps.none_passes (λ p. has_entry n s q p.0 p.1) (pairs q.opened) e)); reaches = λ f r. r }

        step : (o : Option ℕ) → first (λ i. has_entry n s q i i) q.opened ≡ o → IsNext q (chosen q o)
        step (Some i) e = closed_one i (SquareSteps.first_each (λ i. has_entry n s q i i) (Has q.opened) q.opened i (NumberLists.each-from (Has q.opened) q.opened (λ i h. h)) e) (SquareSteps.first_passes (λ i. has_entry n s q i i) q.opened i e)
        step None e = pair_step (SquareSteps.none_passes (λ i. has_entry n s q i i) q.opened e) (first (λ p. has_entry n s q p.0 p.1) (pairs q.opened)) refl

  -- ---- all steps

  -- where a step changes nothing, no further one does
  stays : (k : ℕ) (q : Squares n V) → next_square n s q ≡ q → squares_after n s k q ≡ q
  stays zero q e = refl
  stays (suc k) q e = ap (squares_after n s k) e ∙ stays k q e

  -- k steps reach the terms that they have
  pub all_reach : (k : ℕ) (q : Squares n V) → IsSound n s q → (f : Polynomial n V) → Reaches n s laws f q.change q.form → Reaches n s laws f (squares_after n s k q).change (squares_after n s k q).form
  all_reach zero q sound f r = r
  all_reach (suc k) q sound f r = let next = next_is q sound in all_reach k (next_square n s q) next.sound f (next.reaches f r)

  -- as many steps as there are open variables leave nothing to do
  pub all_done : (k : ℕ) (q : Squares n V) → IsSound n s q → length q.opened ≤ k → IsSound n s (squares_after n s k q) × IsDone (squares_after n s k q)
  unfolding IsDone
  all_done zero q sound few = (sound, λ i j h g. let w = NumberLists.has-place q.opened i h in absurd (let l = w.1 in omega arith))
  all_done (suc k) q sound few =
      let next = next_is q sound in
      elim next.progress [
        | inl e ↦ all_done k (next_square n s q) next.sound (omega arith)
        | inr w ↦
            let same : squares_after n s k (next_square n s q) ≡ q = ap (squares_after n s k) w.0 ∙ stays k q w.0 in
            (subst (IsSound n s) (sym same) sound, subst IsDone (sym same) w.1)
      ]

  -- at the start all variables are open
  pub start_sound : (f : Polynomial n V) → StartsAt (exps n) s.ops 2 f → IsSound n s (started n s f)
  start_sound f two = record {
    opened_inside = numbers_are_below n;
    closed_inside = tt;
    opened_distinct = NumberLists.distinct-numbers_below n;
    closed_distinct = tt;
    apart = λ i h g. absurd g;
    covers = λ i h. inl (NumberLists.has-numbers_below n i h);
    count = let l = length-numbers_below n in omega arith;
    low = λ b h. Canonical.jet_same_to n s laws 2 f b (omega arith) ∙ two b h;
    products = λ i j h. absurd h;
    squares = λ i h. absurd h;
  }

  -- ---- the last move

  module _ (q : Squares n V) (sound : IsSound n s q) where
    -- the variable that becomes x(k)
    abbrev pub place_of : ℕ → ℕ
    place_of k = get_or (q.opened ++ q.closed) k 0

    -- the order has numbers below n
    pub order_inside : Each (λ i. i < n) (q.opened ++ q.closed)
    order_inside = each-append (λ i. i < n) q.opened q.closed sound.opened_inside sound.closed_inside

    -- each of them once
    pub order_distinct : Distinct (q.opened ++ q.closed)
    order_distinct = NumberLists.distinct-append q.opened q.closed sound.opened_distinct sound.closed_distinct
        (NumberLists.each-from (λ x. Each (λ y. x ≢ y) q.closed) q.opened (λ x h. NumberLists.each-from (λ y. x ≢ y) q.closed (λ y g e. sound.apart x h (subst (Has q.closed) (sym e) g))))

    -- and n of them
    pub order_long : length (q.opened ++ q.closed) ≡ n
    order_long = length-append q.opened q.closed ∙ sound.count

    -- x(place_of k) is a variable
    pub place_inside : (k : ℕ) → k < n → place_of k < n
    place_inside k h = NumberLists.each-has (λ i. i < n) (q.opened ++ q.closed) (place_of k) order_inside (NumberLists.place-has (q.opened ++ q.closed) k (let l = order_long in omega arith))

    -- different ones become different variables
    pub place_different : (j k : ℕ) → j < n → k < n → place_of j ≡ place_of k → j ≡ k
    place_different j k h g e = NumberLists.different (q.opened ++ q.closed) order_distinct j k (let l = order_long in omega arith) (let l = order_long in omega arith) e

    -- each variable becomes one
    place_onto : (a : ℕ) → a < n → (k : ℕ) × (k < n) × (place_of k ≡ a)
    place_onto a h =
        let there : Has (q.opened ++ q.closed) a = elim (sound.covers a h) [ inl k ↦ NumberLists.has-left q.opened q.closed a k | inr k ↦ NumberLists.has-right q.opened q.closed a k ] in
        let w = NumberLists.has-place (q.opened ++ q.closed) a there in
        (w.0, (let g = w.1 in let l = order_long in omega arith), w.2)

    -- the last move is a permutation
    pub permuting_is : IsLinear n s (λ a b. unit_at s.ops a (place_of b)) (permuting n s (q.opened ++ q.closed))
    permuting_is = LinearMoves.places n s laws place_of place_different place_onto

    -- the first variables were open
    place_opened : (k : ℕ) → k < length q.opened → Has q.opened (place_of k)
    place_opened k h = subst (Has q.opened) (sym (NumberLists.place-left q.opened q.closed k h)) (NumberLists.place-has q.opened k h)

    -- the others were closed
    place_closed : (k : ℕ) → length q.opened ≤ k → k < n → Has q.closed (place_of k)
    place_closed k h g =
        subst (Has q.closed) (sym (NumberLists.place-right q.opened q.closed k (k - length q.opened) (omega arith)))
        (NumberLists.place-has q.closed (k - length q.opened) (let c = sound.count in omega arith))

    -- the second partials of what f becomes
    module _ (f : Polynomial n V) (reach : Reaches n s laws f q.change q.form) where
      -- what f becomes
      abbrev result : Polynomial n V
      result = carry n s 2 (compose n s 16 q.change (permuting n s (q.opened ++ q.closed))) f

      -- it is what the last move makes of the terms that were reached
      agrees : SameTo (exps n) s.ops 2 result (carry n s 2 (permuting n s (q.opened ++ q.closed)) q.form)
      agrees = ReachedForms.last_move n s laws (λ a b. unit_at s.ops a (place_of b)) (permuting n s (q.opened ++ q.closed)) permuting_is f q.change q.form reach

      -- its second partials are those before, at the places
      result_partial : (i j : ℕ) → i < n → j < n → partial n s result i j ≡ partial n s q.form (place_of i) (place_of j)
      result_partial i j hi hj =
          SquareSteps.partial_same n s laws result (carry n s 2 (permuting n s (q.opened ++ q.closed)) q.form) agrees i j hi hj
          ∙ SquareSteps.after_places n s laws place_of place_inside (permuting n s (q.opened ++ q.closed)) permuting_is q.form sound.low i j hi hj

      -- a state with this form, for the lemmas on partials
      abbrev last : Squares n V
      last = record { opened = []; closed = []; change = []; form = result }

      -- its products of different variables
      result_product : (i j : ℕ) → i < n → j < n → i ≢ j → at n s result (pair_exponents n i j) ≡ partial n s q.form (place_of i) (place_of j)
      result_product i j hi hj ne = sym (SquareSteps.other_partial n s laws last i j hi hj ne) ∙ result_partial i j hi hj

      -- twice its squares
      result_double : (i : ℕ) → i < n → s.ops.mul (whole s 2) (at n s result (pair_exponents n i i)) ≡ partial n s q.form (place_of i) (place_of i)
      result_double i hi = sym (SquareSteps.own_partial n s laws last i hi) ∙ result_partial i i hi hi

      -- numbers with the same double are the same
      cancelled : (x y : V) → s.ops.mul (whole s 2) x ≡ s.ops.mul (whole s 2) y → x ≡ y
      cancelled x y e =
          Sums.equal_from_sub s.ops laws.ring x y
          (zero_from_double s laws (s.ops.add x (s.ops.neg y))
          (Sums.distrib_left s.ops laws.ring (whole s 2) x (s.ops.neg y)
          ∙ ap₂ s.ops.add e (Sums.mul_neg s.ops laws.ring (whole s 2) y) ∙ laws.ring.add_neg (s.ops.mul (whole s 2) y)))

      -- it is a sum of squares
      pub sum_of_squares : IsDone q → IsSumOfSquares n s (length q.opened) result
      unfolding IsDone
      sum_of_squares done = record {
        low = λ b h. agrees b (omega arith) ∙ SquareSteps.carried_low n s laws (λ a b. unit_at s.ops a (place_of b)) (permuting n s (q.opened ++ q.closed)) permuting_is q.form sound.low b h;
        products = λ i j hi hj ne. result_product i j hi hj ne ∙ none i j hi hj ne;
        residual = λ i h. let hi : i < n = (let c = sound.count in omega arith) in zero_from_double s laws (at n s result (pair_exponents n i i)) (result_double i hi ∙ done (place_of i) (place_of i) (place_opened i h) (place_opened i h));
        squares = λ i h hi z. sound.squares (place_of i) (place_closed i h hi) (sym (result_double i hi) ∙ ap (s.ops.mul (whole s 2)) z ∙ Sums.mul_zero s.ops laws.ring (whole s 2));
      }
        where
          where_is : (k c : ℕ) → (k < c) ⊎ (c ≤ k)
          where_is k c = grind arith

          none : (i j : ℕ) → i < n → j < n → i ≢ j → partial n s q.form (place_of i) (place_of j) ≡ s.ops.zero
          none i j hi hj ne = elim (where_is i (length q.opened)) [
            | inr h ↦ sound.products (place_of i) (place_of j) (place_closed i h hi) (place_inside j hj) (λ e. ne (place_different i j hi hj e))
            | inl h ↦ elim (where_is j (length q.opened)) [
              | inr g ↦ PairExponents.second_symmetric n s laws q.form (place_of i) (place_of j) (place_inside i hi) (place_inside j hj)
                  ∙ sound.products (place_of j) (place_of i) (place_closed j g hj) (place_inside i hi) (λ e. ne (sym (place_different j i hj hi e)))
              | inl g ↦ done (place_of i) (place_of j) (place_opened i h) (place_opened j g)
            ]
          ]

      -- with the coefficients of the closed squares
      pub square_coefficients : squares_in n s (length q.opened) result ≡ map (λ i. entry n s q i i) q.closed
      square_coefficients =
          map-same (λ k. k < n - length q.opened) (λ k. at n s result (pair_exponents n (length q.opened + k) (length q.opened + k))) (λ k. entry n s q (get_or q.closed k 0) (get_or q.closed k 0))
          (λ k h. one k h) (numbers_below (n - length q.opened)) (numbers_are_below (n - length q.opened))
          ∙ ap (λ z. map (λ k. entry n s q (get_or q.closed k 0) (get_or q.closed k 0)) (numbers_below z)) (let c = sound.count in let w : n - length q.opened ≡ length q.closed = omega arith in w)
          ∙ NumberLists.map-places (λ i. entry n s q i i) q.closed
        where
          one : (k : ℕ) → k < n - length q.opened → at n s result (pair_exponents n (length q.opened + k) (length q.opened + k)) ≡ entry n s q (get_or q.closed k 0) (get_or q.closed k 0)
          one k h =
              let c = sound.count in
              let hk : length q.opened + k < n = omega arith in
              cancelled (at n s result (pair_exponents n (length q.opened + k) (length q.opened + k))) (entry n s q (get_or q.closed k 0) (get_or q.closed k 0))
              (result_double (length q.opened + k) hk ∙ ap (λ z. partial n s q.form z z) (NumberLists.place-right q.opened q.closed (length q.opened + k) k refl)
              ∙ SquareSteps.own_partial n s laws q (get_or q.closed k 0) (NumberLists.each-has (λ i. i < n) q.closed (get_or q.closed k 0) sound.closed_inside (NumberLists.place-has q.closed k (omega arith))))

  -- the move of the Hessian makes a sum of squares
  pub diagonalised : (f : Polynomial n V) → StartsAt (exps n) s.ops 2 f → IsDiagonalised n s f
  unfolding corank hessian_move squares
  diagonalised f two =
      let start = started n s f in
      let q = squares_after n s n start in
      let begun = start_sound f two in
      let w = all_done n start begun (let l = length-numbers_below n in omega arith) in
      let reach = all_reach n start begun f (ReachedForms.start_reaches n s laws f) in
      record {
        corank_at_most_n = let c = w.0.count in omega arith;
        sum = sum_of_squares q w.0 f reach w.1;
        coefficients = square_coefficients q w.0 f reach;
      }
