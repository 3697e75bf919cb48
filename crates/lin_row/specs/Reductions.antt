-- What is left of targets by the reduced echelon form of rows.
use Rattle.std.specs.Prelude.{◌≡◌, ℕ, ◌-◌, List, [], ◌∷◌, ⊤, cond, nat_lt, length, map}
use Rattle.ring_theory.specs.Ring.{RingOps}
use Rattle.ring_theory.specs.Scalars.{Meaning}
use Rattle.lin_row.specs.Lines.{IsLine, AllBelow, EachOf, lead_of, dot, entry}
use Rattle.lin_row.specs.Rows.{rows_of}
use Rattle.lin_row.specs.System.{IsCleared, dot_at}
use Rattle.lin_row.specs.Forms.{IsReducedForm}
use Rattle.lin_row.specs.Plain.{ReductionOfIsHigh}
use Rattle.lin_row.specs.declared.row.Row.{Row}
use Rattle.lin_row.specs.declared.row.Remainder.{Remainder}
use Rattle.lin_row.specs.declared.row.Reduction.{Reduction}

-- 0 on the columns below u, and w(j) at the column u + j
abbrev pub after_units : {V : Type 0} → RingOps V → ℕ → (ℕ → V) → ℕ → V
after_units r u w d = cond (nat_lt d u) r.zero (w (d - u))

-- the target is the remainder and a combination of the given rows, with the coefficients by the numbers of the rows: the sum of
-- coefficient(j) * row(j) over the rows
pub record IsRest {E V : Type 0} (m : Meaning E V) (given : List (List (ℕ × E))) (target : List (ℕ × E)) (answer : Remainder E) : Type 0 where
  pub line : IsLine m answer.left
  pub coefficients : IsLine m answer.coefficients
  pub within : AllBelow (length given) answer.coefficients
  pub sum : (w : ℕ → V) → dot m target w ≡ m.scalars.ops.add (dot m answer.left w) (dot m answer.coefficients (λ j. dot_at m given j w))

-- the same, with 0 at each pivot
pub record IsLeft {E V : Type 0} (m : Meaning E V) (given : List (List (ℕ × E))) (pivots : List (ℕ × List (ℕ × E))) (target : List (ℕ × E)) (answer : Remainder E) : Type 0 where
  pub rest : IsRest m given target answer
  pub cleared : IsCleared m pivots answer.left

-- a target less a combination of the given rows, with 0 in each column in which a row of the form begins
pub record IsRemainder {E V : Type 0} (m : Meaning E V) (given form : List (List (ℕ × E))) (target : List (ℕ × E)) (answer : Remainder E) : Type 0 where
  pub rest : IsRest m given target answer
  pub cleared : EachOf (λ row. entry m answer.left (lead_of row) ≡ m.scalars.ops.zero) form

-- for each target, in its place, what is left of it
abbrev pub AreRemainders : {E V : Type 0} → Meaning E V → List (List (ℕ × E)) → List (List (ℕ × E)) → List (Row E) → List (Remainder E) → Type 0
AreRemainders m given form [] [] = ⊤
AreRemainders m given form [] (r ∷ rs) = ⊥
AreRemainders m given form (t ∷ ts) [] = ⊥
AreRemainders m given form (t ∷ ts) (r ∷ rs) = IsRemainder m given form t.entries r × AreRemainders m given form ts rs

-- the reduced echelon form of the rows, and what is left of each target by it
pub record IsReduction {E V : Type 0} (m : Meaning E V) (rows targets : List (Row E)) (answer : Reduction E) : Type 0 where
  pub form : IsReducedForm m (rows_of rows) (rows_of answer.form)
  pub remainders : AreRemainders m (rows_of rows) (rows_of answer.form) targets answer.remainders

-- the height of the plain row reduction of the rows, with the reduction of the targets by its rows, is 2^120 or more
abbrev pub RemaindersAreHigh : {E V : Type 0} → Meaning E V → List (Row E) → List (Row E) → Type 0
RemaindersAreHigh m rows targets = ReductionOfIsHigh m.scalars (map (entry m) (rows_of rows)) (map (λ t. entry m t.entries) targets)
