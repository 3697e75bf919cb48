-- The answer of the whole reduction.
use Rattle.std.proofs.Common.{◌≡◌, ◌≢◌, ℕ, ◌+◌, ◌-◌, ◌<◌, ◌≤◌, inl, inr, List, [], ◌∷◌, ◌++◌, map, length, length-append, get_or, All, sym, ap, ◌∙◌, subst, arith}
use Rattle.std.proofs.lemmas.List.{get_or-map, length-map}
use Rattle.ring_theory.specs.Rational.{Rational}
use Rattle.ring_theory.specs.Height.{rational_scalars}
use Rattle.ring_theory.specs.Scalars.{Scalars, Meaning, ScalarLaws}
use Rattle.ring_theory.proofs.RationalLaws.{rational_scalar_laws, rational_inverts}
use Rattle.ring_law.specs.declared.fraction.Frac.{Frac}
use Rattle.ring_law.specs.Fraction.{IsFrac, frac_value, rational_meaning}
use Rattle.poly_law.specs.Polynomials.{Polynomial, StartsAtIn}
use Rattle.mono_exp.specs.Exponents.{numbers_below}
use Rattle.mono_exp.proofs.Lists.{Each, each-append, length-numbers_below, get_or-numbers_below}
use Rattle.coord_change.specs.declared.change.Change.{Change}
use Rattle.coord_change.specs.Moves.{at}
use Rattle.coord_change.specs.Carries.{carry, compose}
use Rattle.move_law.specs.Moves.{pair_exponents}
use Rattle.move_law.specs.Split.{squares_in}
use Rattle.move_law.specs.Work as work
use Rattle.move_law.specs.Work.{Work, IsWorkHigh}
use Rattle.move_law.specs.Hessian.{Squares, entry, started, squares, squares_work_after, permuting, hessian_move, hessian_work, corank}
use Rattle.coord_change.specs.MoveJets.{IsMoveExactly}
use Rattle.split_lemma.specs.Splits.{AnyHigh}
use Rattle.hessian_rank.specs.declared.stage.Stage.{Stage}
use Rattle.hessian_rank.specs.Sound.{Has, Distinct, IsSound}
use Rattle.hessian_rank.specs.Diagonals.{IsSumOfSquares, IsDiagonalised}
use Rattle.hessian_rank.specs.Stages.{stage_of, IsStageFor, IsMatrixOf}
use Rattle.hessian_rank.specs.Answers.{IsDiagonal}
use Rattle.hessian_rank.proofs.NumberLists
use Rattle.hessian_rank.proofs.SumOfSquares
use Rattle.hessian_rank.proofs.AllSquares.{among-left, among-right, all_sound}

-- ---- the order of the variables

module _ {V : Type 0} (n : ℕ) (s : Scalars V) (laws : ScalarLaws s) (q : Squares n V) (sound : IsSound n s q) (order : List ℕ) (e : order ≡ q.opened ++ q.closed) where
  -- all variables stand there
  pub order_length : length order ≡ n
  order_length = ap length e ∙ length-append q.opened q.closed ∙ sound.count

  -- they are variables
  pub order_each : Each (λ i. i < length order) order
  order_each = subst (λ z. Each (λ i. i < z) order) (sym order_length) (subst (Each (λ i. i < n)) (sym e) (each-append (λ i. i < n) q.opened q.closed sound.opened_inside sound.closed_inside))

  -- each once
  pub order_once : Distinct order
  order_once = subst Distinct (sym e)
      (NumberLists.distinct-append q.opened q.closed sound.opened_distinct sound.closed_distinct
      (NumberLists.each-from (λ x. Each (λ y. x ≢ y) q.closed) q.opened (λ x h. NumberLists.each-from (λ y. x ≢ y) q.closed (λ y g z. sound.apart x h (subst (Has q.closed) (sym z) g)))))

  -- and none is missing
  pub order_all : (i : ℕ) → i < length order → Has order i
  order_all i h = subst (λ z. Has z i) (sym e) (elim (sound.covers i (subst (λ z. i < z) order_length h)) [
    | inl k ↦ NumberLists.has-left q.opened q.closed i k
    | inr k ↦ NumberLists.has-right q.opened q.closed i k
  ])

  -- a matrix of the permutation
  pub order_matrix : {E : Type 0} (m : Meaning E V) (entries : List E) → IsMatrixOf m (length order) (permuting (length order) m.scalars order) entries → IsMatrixOf m n (permuting n m.scalars (q.opened ++ q.closed)) entries
  order_matrix m entries h = subst (λ (o : List ℕ). IsMatrixOf m n (permuting n m.scalars o) entries) e (subst (λ z. IsMatrixOf m z (permuting z m.scalars order) entries) order_length h)

-- ---- the whole answer

module _ (n : ℕ) (f : Polynomial n Rational) where
  -- the operations of the last move are among all
  pub last_high : let q = squares n rational_scalars f in let last = permuting n rational_scalars (q.opened ++ q.closed) in
      AnyHigh n rational_scalars (work.inverted last ∷ work.composed 16 q.change last ∷ []) → AnyHigh n rational_scalars (hessian_work n rational_scalars f)
  unfolding hessian_work
  last_high high = among-right (IsWorkHigh n rational_scalars) (squares_work_after n rational_scalars n (started n rational_scalars f)) _ high

  -- and those of the steps
  pub steps_high : AnyHigh n rational_scalars (squares_work_after n rational_scalars n (started n rational_scalars f)) → AnyHigh n rational_scalars (hessian_work n rational_scalars f)
  unfolding hessian_work
  steps_high high = among-left (IsWorkHigh n rational_scalars) (squares_work_after n rational_scalars n (started n rational_scalars f)) _ high

module _ (n : ℕ) (f : Polynomial n Rational) (two : StartsAtIn n rational_scalars.ops 2 f) (stage : Stage Frac) (at_end : IsStageFor rational_meaning n (squares n rational_scalars f) stage) where
  s : Scalars Rational
  s = rational_scalars

  law : IsDiagonalised n rational_scalars f
  law = SumOfSquares.diagonalised n rational_scalars rational_scalar_laws rational_inverts f two

  -- the squares are sound
  pub end_sound : IsSound n rational_scalars (squares n rational_scalars f)
  unfolding squares
  end_sound = all_sound n rational_scalars rational_scalar_laws rational_inverts n (started n rational_scalars f) (SumOfSquares.start_sound n rational_scalars rational_scalar_laws rational_inverts f two)

  -- there are at most as many open variables as variables
  pub few_open : length stage.opened.items ≤ n
  few_open = let c = end_sound.count in let e = ap (λ (q : Squares n Rational). length q.opened) at_end.is in omega arith

  -- the corank
  pub corank_is : length stage.opened.items ≡ corank n rational_scalars f
  unfolding corank
  corank_is = ap (λ (q : Squares n Rational). length q.opened) at_end.is

  module _ (change : Change Frac) (values : List Frac) where
    -- the answer is the diagonal form
    pub diagonal_is : (let z = stage.change.n in let q = stage_of rational_meaning z stage in IsMoveExactly rational_meaning z 16 (compose z rational_scalars 16 q.change (permuting z rational_scalars (q.opened ++ q.closed))) change)
        → All IsFrac values → (let z = stage.change.n in map frac_value values ≡ map (λ i. entry z rational_scalars (stage_of rational_meaning z stage) i i) stage.closed.items)
        → (c : ℕ) → c ≡ length stage.opened.items → IsDiagonal n f (record { change = change; squares = values; corank = c })
    unfolding hessian_move
    diagonal_is exact valid are c is = record {
      change = subst (λ q. IsMoveExactly rational_meaning n 16 (compose n rational_scalars 16 q.change (permuting n rational_scalars (q.opened ++ q.closed))) change) at_end.is
          (subst (λ z. IsMoveExactly rational_meaning z 16 (compose z rational_scalars 16 (stage_of rational_meaning z stage).change (permuting z rational_scalars (stage.opened.items ++ stage.closed.items))) change) at_end.stage.variables exact);
      corank = corank_c;
      valid = valid;
      squares = same;
      count = sym (length-map values frac_value) ∙ ap length same ∙ length-map (numbers_below (n - c)) (λ i. at n rational_scalars result (pair_exponents n (c + i) (c + i))) ∙ length-numbers_below (n - c);
      units = λ k d h z. law.sum.squares (corank n rational_scalars f + k) (omega arith) (inside k h) (sym (value k d h) ∙ z);
      sum = subst (λ z. IsSumOfSquares n rational_scalars z result) (sym corank_c) law.sum;
    }
      where
        result : Polynomial n Rational
        result = carry n rational_scalars 2 (hessian_move n rational_scalars f) f

        corank_c : c ≡ corank n rational_scalars f
        corank_c = is ∙ corank_is

        own : map frac_value values ≡ squares_in n rational_scalars (corank n rational_scalars f) result
        own =
            subst (λ (q : Squares n Rational). map frac_value values ≡ map (λ i. entry n rational_scalars q i i) q.closed) at_end.is
            (subst (λ z. map frac_value values ≡ map (λ i. entry z rational_scalars (stage_of rational_meaning z stage) i i) stage.closed.items) at_end.stage.variables are)
            ∙ sym law.coefficients

        same : map frac_value values ≡ squares_in n rational_scalars c result
        same = own ∙ ap (λ z. squares_in n rational_scalars z result) (sym corank_c)

        long : length values ≡ n - corank n rational_scalars f
        long = sym (length-map values frac_value) ∙ ap length own ∙ length-map (numbers_below (n - corank n rational_scalars f)) (λ i. at n rational_scalars result (pair_exponents n (corank n rational_scalars f + i) (corank n rational_scalars f + i))) ∙ length-numbers_below (n - corank n rational_scalars f)

        inside : (k : ℕ) → k < length values → corank n rational_scalars f + k < n
        inside k h = let l = long in omega arith

        value : (k : ℕ) (d : Frac) → k < length values → frac_value (get_or values k d) ≡ at n rational_scalars result (pair_exponents n (corank n rational_scalars f + k) (corank n rational_scalars f + k))
        value k d h =
            sym (get_or-map frac_value values k d rational_scalars.ops.zero h) ∙ ap (λ z. get_or z k rational_scalars.ops.zero) own
            ∙ get_or-map (λ i. at n rational_scalars result (pair_exponents n (corank n rational_scalars f + i) (corank n rational_scalars f + i))) (numbers_below (n - corank n rational_scalars f)) k 0 rational_scalars.ops.zero (let l = length-numbers_below (n - corank n rational_scalars f) in let q = long in omega arith)
            ∙ ap (λ i. at n rational_scalars result (pair_exponents n (corank n rational_scalars f + i) (corank n rational_scalars f + i))) (get_or-numbers_below (n - corank n rational_scalars f) k 0 (let q = long in omega arith))
