-- What the program answers on the pair rule.
use Rattle.std.specs.Prelude.{◌≢◌, ℕ, ◌⊎◌, ◌++◌, Option, Some, None, List}
use Rattle.ring_theory.specs.Height.{rational_scalars}
use Rattle.ring_theory.specs.Rational.{Rational, rational_ops}
use Rattle.ring_theory.specs.Scalars.{Scalars}
use Rattle.ring_law.specs.Fraction.{rational_meaning}
use Rattle.ring_law.specs.declared.fraction.Frac.{Frac}
use Rattle.poly_law.specs.Polynomials.{Polynomial}
use Rattle.lin_row.specs.Lines.{EachOf}
use Rattle.lin_row.specs.Plain.{Among}
use Rattle.coord_change.specs.declared.change.Change.{Change}
use Rattle.coord_change.specs.MoveJets.{IsMoveExactly}
use Rattle.small_frac.specs.Roots.{QuadraticIsHigh}
use Rattle.move_law.specs.Moves.{over}
use Rattle.move_law.specs.Shapes.{nth}
use Rattle.move_law.specs.Work.{IsWorkHigh}
use Rattle.ternary_law.specs.Matrices.{Matrix, unit_matrix, with_row, two_in_row, matrix_product, linear_move, moved}
use Rattle.ternary_law.specs.Cubics.{HasMonomials}
use Rattle.ternary_law.specs.Routes.{Step, reached, matrix_after, divisors, work_after}
use Rattle.ternary_law.specs.Pairs.{Pair, corner, roots, over_root, IsPair, monic, pair_asking}
use Rattle.bin_forms.specs.Pairs.{IsPairAlgebra}
use Rattle.tern_cubic.specs.declared.pair.PairCase.{PairCase}
use Rattle.tern_cubic.specs.declared.pair.PairCase.TheVariants as cases
use Rattle.tern_cubic.specs.declared.pairing.PairMove.{PairMove}
use Rattle.tern_cubic.specs.declared.pairing.PairMove.TheVariants as moves
use Rattle.tern_cubic.specs.Matrices.{IsMatrix}
use Rattle.tern_cubic.specs.Moving.{IsSingular, advancing_work}

-- the rational numbers
abbrev q : Scalars Rational
q = rational_scalars

-- both lines are rational
abbrev pub IsPlain : Pair → Type 0
IsPlain corner = Unit {0}
IsPlain (roots low high) = Unit {0}
IsPlain over_root = ⊥

-- the form by the list of its coefficients
module _ (c : List Rational) where
  -- the matrix of the rule for two rational lines
  abbrev pub plain_matrix : (i j : ℕ) → Pair → Matrix Rational
  plain_matrix i j corner = with_row q i (two_in_row q i q.ops.one j (q.ops.neg (over q (nth q c 2) (nth q c 1)))) (unit_matrix q)
  plain_matrix i j (roots low high) =
      with_row q i (two_in_row q i high j (q.ops.neg low)) (with_row q j (two_in_row q i q.ops.one j (q.ops.neg q.ops.one)) (unit_matrix q))
  plain_matrix i j over_root = unit_matrix q

  -- a case of the rule holds, with its matrix or its algebra; or no case does
  abbrev pub IsPairCase : (i j : ℕ) → PairCase → Type 0
  IsPairCase i j (cases.Plain rows) = (p : Pair) × IsPlain p × IsPair c p × IsMatrix rational_meaning (plain_matrix i j p) rows
  IsPairCase i j (cases.Over a) = IsPair c over_root × IsPairAlgebra c a
  IsPairCase i j cases.Neither = (p : Pair) → IsPair c p → ⊥

  -- a quotient of the rule is high, or the search for the roots
  abbrev pub IsPairCaseHigh : Type 0
  IsPairCaseHigh = Among (IsWorkHigh 3 q) (pair_asking c) ⊎ ((nth q c 0 ≢ rational_ops.zero) × QuadraticIsHigh (monic c))

-- ---- the rule with the steps after it

-- the steps from the matrix a and the cubic g on, none of whose divisors is zero, bring g to exactly these monomials; or none, where they do not or
-- the matrix of the whole is singular
module _ (a : Matrix Rational) (g : Polynomial 3 Rational) (steps : List (Step Rational)) (monomials : List (List ℕ)) where
  abbrev pub IsEnded : Option (Change Frac) → Type 0
  IsEnded (Some c) =
      IsMoveExactly rational_meaning 3 16 (linear_move 3 q (matrix_after q a steps g)) c
      × EachOf (λ d. d ≢ rational_ops.zero) (divisors q steps g) × HasMonomials monomials (reached q steps g)
  IsEnded None = EachOf (λ d. d ≢ rational_ops.zero) (divisors q steps g) → HasMonomials monomials (reached q steps g) → IsSingular q (matrix_after q a steps g)

  -- the same of a move over the rational numbers
  abbrev pub IsPlainMove : PairMove → Type 0
  IsPlainMove (moves.Plain c) = IsEnded (Some c)
  IsPlainMove (moves.Over algebra) = ⊥
  IsPlainMove moves.Neither = IsEnded None

-- after the move of the matrix v, which has reached the cubic g: the pair rule for the variables i and j on the form c, and the steps after it
module _ (v : Matrix Rational) (g : Polynomial 3 Rational) (c : List Rational) (i j : ℕ) (steps : List (Step Rational)) where
  -- the matrix of the whole so far, and the cubic
  abbrev pub paired : Pair → Matrix Rational
  paired p = matrix_product q v (plain_matrix c i j p)

  abbrev pub paired_cubic : Pair → Polynomial 3 Rational
  paired_cubic p = moved q (plain_matrix c i j p) g

  -- two rational lines, and the move to exactly these monomials; or the algebra of the lines; or two rational lines without such a move, or none
  abbrev pub IsPairMove : List (List ℕ) → PairMove → Type 0
  IsPairMove monomials (moves.Plain change) = (p : Pair) × IsPlain p × IsPair c p × IsEnded (paired p) (paired_cubic p) steps monomials (Some change)
  IsPairMove monomials (moves.Over a) = IsPair c over_root × IsPairAlgebra c a
  IsPairMove monomials moves.Neither = (p : Pair) → IsPair c p → IsPlain p × IsEnded (paired p) (paired_cubic p) steps monomials None

  -- an operation of the rule or of what follows it over the rational numbers is high
  abbrev pub IsPairMoveHigh : Type 0
  IsPairMoveHigh =
      IsPairCaseHigh c
      ⊎ ((p : Pair) × IsPlain p × IsPair c p
      × Among (IsWorkHigh 3 q) (advancing_work q v (plain_matrix c i j p) g ++ work_after q (paired p) steps (paired_cubic p)))
