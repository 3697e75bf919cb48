-- The pair rule: two different lines q0 x^2 + q1 x y + q2 y^2 = 0 in two of the three variables become the coordinate lines.
use Rattle.std.specs.Prelude.{◌≡◌, ◌≢◌, ℕ, if◌then◌else◌, List, [], ◌∷◌, ◌++◌}
use Rattle.ring_theory.specs.Height.{rational_scalars}
use Rattle.ring_theory.specs.Rational.{Rational, rational_ops, rational_neg}
use Rattle.ring_theory.specs.Scalars.{Scalars}
use Rattle.ext_theory.specs.Extension.{Quadratic, quadratic_at}
use Rattle.ext_theory.specs.Roots.{HasNoRoot}
use Rattle.small_frac.specs.Roots.{AreRoots}
use Rattle.move_law.specs.Moves.{over, minus}
use Rattle.move_law.specs.Shapes.{nth, Line, vertical, slope, over_work}
use Rattle.move_law.specs.Work as work
use Rattle.move_law.specs.Work.{Work}
use Rattle.ternary_law.specs.Matrices.{Matrix, unit_matrix, with_row, two_in_row}
use Rattle.ext_algebra.specs.declared.algebra.Algebra.{Algebra}
use Rattle.move_law.specs.Algebras.{rationals, quadratic_algebra, root_of}
use Rattle.ext_algebra.specs.Algebra.{Value, scalars}

-- whether the first coefficient is zero, both roots are rational, or they stand in an extension
pub data Pair : Type 0 where
  corner : Pair
  roots : (low high : Rational) → Pair
  over_root : Pair

-- the rational numbers
abbrev q : Scalars Rational
q = rational_scalars

-- the line x + slope*y becomes x; the line y becomes x, and x becomes y
abbrev pub line_matrix : {V : Type 0} → Scalars V → Line V → Matrix V
line_matrix s vertical = with_row s 0 (two_in_row s 0 s.ops.zero 1 s.ops.one) (with_row s 1 (two_in_row s 0 s.ops.one 1 s.ops.zero) (unit_matrix s))
line_matrix s (slope a) = with_row s 0 (two_in_row s 0 s.ops.one 1 (s.ops.neg a)) (unit_matrix s)

-- the form by the list of its coefficients q0, q1, q2
module _ (c : List Rational) where
  -- t^2 + (q1/q0) t + q2/q0
  abbrev pub monic : Quadratic Rational
  monic = record { c0 = over q (nth q c 2) (nth q c 0); c1 = over q (nth q c 1) (nth q c 0) }

  -- which case holds
  abbrev pub IsPair : Pair → Type 0
  IsPair corner = (nth q c 0 ≡ rational_ops.zero) × (nth q c 1 ≢ rational_ops.zero)
  IsPair (roots low high) = (nth q c 0 ≢ rational_ops.zero) × AreRoots monic low high
  IsPair over_root = (nth q c 0 ≢ rational_ops.zero) × HasNoRoot (quadratic_at rational_ops monic)

  -- the algebra of the roots
  abbrev pub pair_algebra : Pair → Algebra
  pair_algebra corner = rationals
  pair_algebra (roots low high) = rationals
  pair_algebra over_root = quadratic_algebra monic

  -- both roots θ1 and θ2, the smaller first where they are rational, else t and -q1/q0 - t
  abbrev pub pair_roots : (p : Pair) → Value (pair_algebra p) × Value (pair_algebra p)
  pair_roots corner = (rational_ops.zero, rational_ops.zero)
  pair_roots (roots low high) = (low, high)
  pair_roots over_root =
      let a = quadratic_algebra monic in (root_of a, minus (scalars a) ((scalars a).rational (rational_neg monic.c1)) (root_of a))

  -- with the variables i and j for x and y: where q0 is 0, x goes to x - (q2/q1) y; else x goes to θ2 x - θ1 y and y to x - y
  abbrev pub pair_matrix : (i j : ℕ) (p : Pair) → Matrix (Value (pair_algebra p))
  pair_matrix i j corner = with_row q i (two_in_row q i q.ops.one j (q.ops.neg (over q (nth q c 2) (nth q c 1)))) (unit_matrix q)
  pair_matrix i j (roots low high) =
      with_row q i (two_in_row q i high j (q.ops.neg low)) (with_row q j (two_in_row q i q.ops.one j (q.ops.neg q.ops.one)) (unit_matrix q))
  pair_matrix i j over_root =
      let s = scalars (quadratic_algebra monic) in
      let both = pair_roots over_root in
      with_row s i (two_in_row s i both.1 j (s.ops.neg both.0)) (with_row s j (two_in_row s i s.ops.one j (s.ops.neg s.ops.one)) (unit_matrix s))

  -- the quotients of the rule: q2/q1 where q0 is 0, else q1/q0 and q2/q0
  abbrev pub pair_asking : List (Work 3 Rational)
  pair_asking = if q.is_zero (nth q c 0) then over_work q 3 (nth q c 2) (nth q c 1) else over_work q 3 (nth q c 1) (nth q c 0) ++ over_work q 3 (nth q c 2) (nth q c 0)

  -- the second root: the sum -q1/q0 - t over an extension
  abbrev pub pair_root_work : (p : Pair) → List (Work 3 (Value (pair_algebra p)))
  pair_root_work corner = []
  pair_root_work (roots low high) = []
  pair_root_work over_root =
      let a = quadratic_algebra monic in work.sum ((scalars a).rational (rational_neg monic.c1) ∷ (scalars a).ops.neg (root_of a) ∷ []) ∷ []
