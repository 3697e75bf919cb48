-- Linear moves that are made in steps, each from the cubic that the steps before it have reached, with the operations whose heights count.
use Rattle.std.specs.Prelude.{◌≢◌, ℕ, List, [], ◌∷◌, ◌++◌}
use Rattle.ring_theory.specs.Height.{rational_scalars}
use Rattle.ring_theory.specs.Rational.{Rational}
use Rattle.ring_theory.specs.Scalars.{Scalars}
use Rattle.poly_law.specs.Polynomials.{Polynomial}
use Rattle.small_frac.specs.Roots.{QuadraticIsHigh}
use Rattle.lin_row.specs.Lines.{EachOf}
use Rattle.lin_row.specs.Plain.{Among}
use Rattle.move_law.specs.Shapes.{nth}
use Rattle.move_law.specs.Work as work
use Rattle.move_law.specs.Work.{Work, IsWorkHigh}
use Rattle.ternary_law.specs.Matrices.{Matrix, matrix_product, unit_matrix, linear_move, moved, AreInverse, lifted_matrix}
use Rattle.ext_algebra.specs.declared.algebra.Algebra.{Algebra}
use Rattle.move_law.specs.Algebras.{rationals, lifted}
use Rattle.ext_algebra.specs.Algebra.{Value, scalars}
use Rattle.ternary_law.specs.Cubics.{HasMonomials}
use Rattle.ternary_law.specs.Pairs.{Pair, IsPair, pair_algebra, pair_matrix, pair_asking, pair_root_work, monic}

-- the rational numbers
abbrev q : Scalars Rational
q = rational_scalars

-- a step: its matrix by the cubic reached, the divisors of its formulas, and the operations of these
pub record Step (V : Type 0) : Type 0 where
  pub matrix : Polynomial 3 V → Matrix V
  pub divisors : Polynomial 3 V → List V
  pub works : Polynomial 3 V → List (Work 3 V)

module _ {V : Type 0} (s : Scalars V) where
  -- the cubic that steps reach from f
  abbrev pub reached : List (Step V) → Polynomial 3 V → Polynomial 3 V
  reached [] f = f
  reached (step ∷ steps) f = reached steps (moved s (step.matrix f) f)

  -- the matrix of the steps, after the matrix m
  abbrev pub matrix_after : Matrix V → List (Step V) → Polynomial 3 V → Matrix V
  matrix_after m [] f = m
  matrix_after m (step ∷ steps) f = matrix_after (matrix_product s m (step.matrix f)) steps (moved s (step.matrix f) f)

  -- the matrix of the steps: that of the first one, and then of the others
  abbrev pub matrix_by : List (Step V) → Polynomial 3 V → Matrix V
  matrix_by [] f = unit_matrix s
  matrix_by (step ∷ steps) f = matrix_after (step.matrix f) steps (moved s (step.matrix f) f)

  -- their divisors, in order
  abbrev pub divisors : List (Step V) → Polynomial 3 V → List V
  divisors [] f = []
  divisors (step ∷ steps) f = step.divisors f ++ divisors steps (moved s (step.matrix f) f)

  -- ---- the operations: those of a step's formulas, the inverse of its matrix, its composite with the steps before it, and the cubic that it reaches

  -- a step's formulas, and the inverse of its matrix
  abbrev step_work : Step V → Polynomial 3 V → List (Work 3 V)
  step_work step f = step.works f ++ work.inverted (linear_move 3 s (step.matrix f)) ∷ []

  -- the cubic that it reaches
  abbrev carried_by : Step V → Polynomial 3 V → List (Work 3 V)
  carried_by step f = work.carried 3 (linear_move 3 s (step.matrix f)) f ∷ []

  -- of steps after the matrix m
  abbrev pub work_after : Matrix V → List (Step V) → Polynomial 3 V → List (Work 3 V)
  work_after m [] f = []
  work_after m (step ∷ steps) f =
      step_work step f ++ work.composed 16 (linear_move 3 s m) (linear_move 3 s (step.matrix f)) ∷ carried_by step f
      ++ work_after (matrix_product s m (step.matrix f)) steps (moved s (step.matrix f) f)

  -- of steps alone
  abbrev pub work_by : List (Step V) → Polynomial 3 V → List (Work 3 V)
  work_by [] f = []
  work_by (step ∷ steps) f = step_work step f ++ carried_by step f ++ work_after (step.matrix f) steps (moved s (step.matrix f) f)

  -- a step with the same matrix for all cubics
  abbrev pub fixed : Matrix V → List V → List (Work 3 V) → Step V
  fixed m divisors works = record { matrix = λ f. m; divisors = λ f. divisors; works = λ f. works }

-- a linear move of three variables over an algebra, with the inverse of its matrix
pub record LinearMove : Type 0 where
  pub algebra : Algebra
  pub matrix : Matrix (Value algebra)
  pub inverse : Matrix (Value algebra)

-- ---- steps over the rational numbers alone

module _ (f : Polynomial 3 Rational) (steps : List (Step Rational)) where
  -- no divisor is zero, and the matrix has this inverse
  pub record IsPassable (inverse : Matrix Rational) : Type 0 where
    pub divisors : EachOf (λ d. d ≢ q.ops.zero) (divisors q steps f)
    pub invertible : AreInverse q (matrix_by q steps f) inverse

  -- and the cubic that they reach has exactly these monomials
  pub record Reaches (monomials : List (List ℕ)) (inverse : Matrix Rational) : Type 0 where
    pub passable : IsPassable inverse
    pub form : HasMonomials monomials (reached q steps f)

  -- the move of steps
  abbrev pub move_by : Matrix Rational → LinearMove
  move_by inverse = record { algebra = rationals; matrix = matrix_by q steps f; inverse = inverse }

  -- some operation of the steps is high
  abbrev pub AreStepsHigh : Type 0
  AreStepsHigh = Among (IsWorkHigh 3 q) (work_by q steps f)

-- ---- a step over the rational numbers, the pair rule, and steps over the algebra of its roots

-- the first step; then the pair rule for the variables i and j on a quadratic form, by the coefficients that the cubic reached gives, and the operations of these;
-- then further steps
pub record Route : Type 1 where
  pub first : Step Rational
  pub i : ℕ
  pub j : ℕ
  pub pair_form : Polynomial 3 Rational → List Rational
  pub pair_form_work : Polynomial 3 Rational → List (Work 3 Rational)
  pub next : (V : Type 0) → Scalars V → List (Step V)

module _ (f : Polynomial 3 Rational) (route : Route) where
  -- the cubic after the first step, and the coefficients of its pair of lines
  abbrev pub halfway : Polynomial 3 Rational
  halfway = moved q (route.first.matrix f) f

  -- the coefficients of the pair of lines that it has then
  abbrev pub pair_of : List Rational
  pair_of = route.pair_form halfway

  module _ (p : Pair) where
    -- the pair rule and the further steps
    abbrev pub next_steps : List (Step (Value (pair_algebra pair_of p)))
    next_steps =
        let s = scalars (pair_algebra pair_of p) in
        fixed s (pair_matrix pair_of route.i route.j p) [] (pair_root_work pair_of p) ∷ route.next (Value (pair_algebra pair_of p)) s

    -- the cubic that is reached, and the matrix of the whole route
    abbrev pub end : Polynomial 3 (Value (pair_algebra pair_of p))
    end = reached (scalars (pair_algebra pair_of p)) next_steps (lifted (pair_algebra pair_of p) halfway)

    -- the matrix of the whole route
    abbrev pub route_matrix : Matrix (Value (pair_algebra pair_of p))
    route_matrix =
        let a = pair_algebra pair_of p in matrix_after (scalars a) (lifted_matrix a (route.first.matrix f)) next_steps (lifted a halfway)

    -- the case of the pair rule holds, no divisor is zero, the matrix has this inverse, and the cubic reached has exactly these monomials
    pub record Arrives (monomials : List (List ℕ)) (inverse : Matrix (Value (pair_algebra pair_of p))) : Type 0 where
      pub is_pair : IsPair pair_of p
      pub first_divisors : EachOf (λ d. d ≢ q.ops.zero) (route.first.divisors f)
      pub next_divisors : let a = pair_algebra pair_of p in EachOf (λ d. d ≢ (scalars a).ops.zero) (divisors (scalars a) next_steps (lifted a halfway))
      pub invertible : AreInverse (scalars (pair_algebra pair_of p)) route_matrix inverse
      pub form : HasMonomials monomials end

    -- the move of the route
    abbrev pub route_move : Matrix (Value (pair_algebra pair_of p)) → LinearMove
    route_move inverse = record { algebra = pair_algebra pair_of p; matrix = route_matrix; inverse = inverse }

  -- some operation of the route is high: of the first step or the coefficients and quotients of the pair rule; of the search for its roots; or of what follows
  pub data IsRouteHigh : Type 0 where
    in_first : Among (IsWorkHigh 3 q) (work_by q (route.first ∷ []) f ++ route.pair_form_work halfway ++ pair_asking pair_of) → IsRouteHigh
    in_roots : nth q pair_of 0 ≢ q.ops.zero → QuadraticIsHigh (monic pair_of) → IsRouteHigh
    in_next : (p : Pair) → IsPair pair_of p
        → (let a = pair_algebra pair_of p in Among (IsWorkHigh 3 (scalars a)) (work_after (scalars a) (lifted_matrix a (route.first.matrix f)) (next_steps p) (lifted a halfway)))
        → IsRouteHigh
