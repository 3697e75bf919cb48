-- Cubics in fewer variables: their shapes and the matrices of their lines.
use Rattle.std.proofs.Common.{◌≡◌, ◌≢◌, ℕ, Bool, true, false, cond, inl, inr, ◌⊎◌, flat_map, Some, None, List, [], ◌∷◌, ◌++◌, sym, subst, ◌∙◌}
use Rattle.ring_theory.specs.Height.{rational_scalars}
use Rattle.ring_theory.specs.Rational.{Rational, rational_ops}
use Rattle.ring_theory.specs.Scalars.{Scalars}
use Rattle.ring_theory.proofs.RationalLaws.{rational_scalar_laws}
use Rattle.ring_law.specs.Fraction.{rational_meaning}
use Rattle.ring_law.specs.declared.fraction.Frac.{Frac}
use Rattle.poly_law.specs.Polynomials.{Polynomial}
use Rattle.lin_row.specs.Plain.{Among}
use Rattle.move_law.specs.Work as work
use Rattle.move_law.specs.Work.{Work, IsWorkHigh}
use Rattle.move_law.specs.Shapes.{nth, are_zero, cubic_hessian, cubic_test, cubic_shape, power_line_work, over_work, over_multiple_work, cubic_work}
use Rattle.ternary_law.specs.Matrices.{Matrix, places, matrix_product, linear_move, moved}
use Rattle.ternary_law.specs.Pairs.{line_matrix}
use Rattle.ternary_law.specs.Steps.{axis_matrix, last_place}
use Rattle.ternary_law.specs.Routes.{work_after, AreStepsHigh}
use Rattle.ternary_law.specs.Rules.{binary_part, repeated_line, cone_section, line_step, repeated_steps}
use Rattle.ternary_law.specs.Triangle.{is_distinct}
use Rattle.tern_cubic.specs.declared.moving.Moving.{Moving}
use Rattle.tern_cubic.specs.Moving.{IsSingular, IsMoving, beginning_work, advancing_work}
use Rattle.tern_cubic.specs.Reaching.{IsRepeatedMove}
use Rattle.ring_theory.specs.Scalars.{Meaning}
use Rattle.move_law.specs.Shapes.{vertical, slope}
use Rattle.ternary_law.specs.Matrices.{two_in_row, unit_row}
use Rattle.bin_forms.specs.declared.line.Line.{Line}
use Rattle.bin_forms.specs.Lines.{line_value}
use Rattle.tern_cubic.specs.Matrices.{IsRow, IsMatrix}
use Rattle.tern_cubic.proofs.MatrixRows.{three_rows}
use Rattle.tern_cubic.proofs.MovingLemmas
use Rattle.tern_cubic.proofs.Inverses3
use Rattle.tern_cubic.proofs.ReachingLemmas
use Rattle.tern_cubic.proofs.SteppingLemmas.{among_first, among_last, placed}

abbrev q : Scalars Rational
q = rational_scalars

abbrev AreHigh : (n : ℕ) → List (Work n Rational) → Type 0
AreHigh n = Among (IsWorkHigh n q)

-- the same choice of operations
either : (b : Bool) (xs ys : List (Work 2 Rational)) (us vs : List (Work 3 Rational)) → (AreHigh 2 xs → AreHigh 3 us) → (AreHigh 2 ys → AreHigh 3 vs) → AreHigh 2 (cond b xs ys) → AreHigh 3 (cond b us vs)
either true xs ys us vs f g h = f h
either false xs ys us vs f g h = g h

after_one : {A B C : Type 0} → (B → C) → A ⊎ B → A ⊎ C
after_one f (inl a) = inl a
after_one f (inr b) = inr (f b)

line_in_three : (d : ℕ) (x y : Rational) → AreHigh 2 (power_line_work q 2 d x y) → AreHigh 3 (power_line_work q 3 d x y)
line_in_three d x y = either (q.is_zero x) [] (over_multiple_work q 2 d y x) [] (over_multiple_work q 3 d y x) (λ h. h) (λ h. h)

-- the operations of a shape do not depend on the number of variables
pub work_in_three : (c : List Rational) → AreHigh 2 (cubic_work q 2 c) → AreHigh 3 (cubic_work q 3 c)
unfolding cubic_work
work_in_three c =
    let h = cubic_hessian q c in
    either (are_zero q c) [] _ [] _ (λ k. k)
    (after_one (after_one (after_one
    (either (are_zero q h) (power_line_work q 2 3 (nth q c 0) (nth q c 1)) _ (power_line_work q 3 3 (nth q c 0) (nth q c 1)) _ (line_in_three 3 (nth q c 0) (nth q c 1))
    (after_one (either (q.is_zero (cubic_test q c)) (power_line_work q 2 2 (nth q h 0) (nth q h 1)) [] (power_line_work q 3 2 (nth q h 0) (nth q h 1)) [] (line_in_three 2 (nth q h 0) (nth q h 1)) (λ k. k)))))))

module _ (g : Polynomial 3 Rational) (v : ℕ → Rational) where
  -- the matrix of the axis, the cubic after it, and the matrix of its line
  abbrev axis : Matrix Rational
  axis = axis_matrix q 2 v

  abbrev after_axis : Polynomial 3 Rational
  after_axis = moved q axis g

  abbrev last_matrix : Matrix Rational
  last_matrix = line_matrix q (repeated_line (cubic_shape q (binary_part after_axis)))

  -- both matrices are made
  pub is_repeated : v (last_place q v) ≢ rational_ops.zero → is_distinct (cubic_shape q (cone_section g v)) ≡ false → (w : Moving Frac)
      → IsMoving rational_meaning (matrix_product q axis last_matrix) (moved q last_matrix after_axis) w → IsRepeatedMove g v (Some w.change)
  is_repeated other e w is =
      (e, is.change, record { divisors = (other, tt); invertible = MovingLemmas.are_inverse rational_meaning rational_scalar_laws (matrix_product q axis last_matrix) w.change is.change })

  -- the lines are three different ones
  pub is_other : is_distinct (cubic_shape q (cone_section g v)) ≡ true → IsRepeatedMove g v None
  is_other e k = absurd (let bad : true ≡ false = sym e ∙ k in cc bad)

  -- the first matrix is singular
  pub no_axis : IsSingular q axis → IsRepeatedMove g v None
  no_axis singular e inverse p = Inverses3.singular_before q rational_scalar_laws axis last_matrix singular inverse p.invertible.right

  -- the whole is
  pub no_line : IsSingular q (matrix_product q axis last_matrix) → IsRepeatedMove g v None
  no_line singular e inverse p = singular inverse p.invertible.right

  abbrev axis_works : List (Work 3 Rational)
  axis_works = flat_map (λ i. over_work q 3 (v i) (v (last_place q v))) places

  abbrev line_works : List (Work 3 Rational)
  line_works = cubic_work q 3 (binary_part after_axis)

  abbrev AreAllHigh : Type 0
  AreAllHigh = AreStepsHigh g (repeated_steps g v)

  -- ---- operations
  pub axis_high : AreHigh 3 (flat_map (λ i. over_work q 3 (v i) (v (last_place q v))) places) → AreAllHigh
  axis_high h = ReachingLemmas.first_high g axis (line_step ∷ []) [] (v (last_place q v) ∷ []) axis_works h

  pub begin_high : AreHigh 3 (beginning_work q axis g) → AreAllHigh
  begin_high h = ReachingLemmas.steps_high g axis (line_step ∷ []) [] (v (last_place q v) ∷ []) axis_works
      (among_first (IsWorkHigh 3 q) (beginning_work q axis g) (work_after q axis (line_step ∷ []) after_axis) h)

  -- the operations of the second step
  abbrev second_work : List (Work 3 Rational)
  second_work = line_works ++ (work.inverted (linear_move 3 q last_matrix) ∷ [])

  abbrev last_work : List (Work 3 Rational)
  last_work = work.composed 16 (linear_move 3 q axis) (linear_move 3 q last_matrix) ∷ work.carried 3 (linear_move 3 q last_matrix) after_axis ∷ []

  all_high : AreHigh 3 (second_work ++ last_work) → AreAllHigh
  all_high h = ReachingLemmas.steps_high g axis (line_step ∷ []) [] (v (last_place q v) ∷ []) axis_works
      (among_last (IsWorkHigh 3 q) (beginning_work q axis g) (work_after q axis (line_step ∷ []) after_axis) (among_first (IsWorkHigh 3 q) (second_work ++ last_work) [] h))

  pub line_high : AreHigh 3 line_works → AreAllHigh
  line_high h = all_high (among_first (IsWorkHigh 3 q) second_work last_work (among_first (IsWorkHigh 3 q) line_works (work.inverted (linear_move 3 q last_matrix) ∷ []) h))

  pub last_high : AreHigh 3 (advancing_work q axis last_matrix after_axis) → AreAllHigh
  last_high h = all_high (placed (IsWorkHigh 3 q) line_works (work.inverted (linear_move 3 q last_matrix)) (work.composed 16 (linear_move 3 q axis) (linear_move 3 q last_matrix))
      (work.carried 3 (linear_move 3 q last_matrix) after_axis) h)

-- the matrix of a line x + lambda*y
pub sloped_matrix : {E V : Type 0} (m : Meaning E V) (line : Line E) → line.vertical ≡ false → (r0 r1 r2 : List E)
    → IsRow m (two_in_row m.scalars 0 m.scalars.ops.one 1 (m.scalars.ops.neg (m.value line.lambda))) r0 → IsRow m (unit_row m.scalars 1) r1 → IsRow m (unit_row m.scalars 2) r2
    → IsMatrix m (line_matrix m.scalars (line_value m.value line)) (r0 ∷ r1 ∷ r2 ∷ [])
sloped_matrix m line e r0 r1 r2 h0 h1 h2 =
    subst (λ b. IsMatrix m (line_matrix m.scalars (cond b vertical (slope (m.value line.lambda)))) (r0 ∷ r1 ∷ r2 ∷ [])) (sym e) (three_rows m _ _ _ r0 r1 r2 h0 h1 h2)
