-- Linear moves that are made step by step, with the cubic that they have reached.
use Rattle.std.specs.Prelude.{◌≡◌, ◌≢◌, ℕ, ◌<◌, Option, Some, None, List, [], ◌∷◌}
use Rattle.std.specs.List.{All}
use Rattle.ring_theory.specs.Scalars.{Scalars, Meaning}
use Rattle.poly_law.specs.Polynomials.{Polynomial}
use Rattle.lin_row.specs.Lines.{EachOf}
use Rattle.coord_change.specs.declared.change.Change.{Change}
use Rattle.coord_change.specs.Changes.{entry_of}
use Rattle.coord_change.specs.MoveJets.{IsJetFor, IsMoveExactly}
use Rattle.move_law.specs.Work as work
use Rattle.move_law.specs.Work.{Work}
use Rattle.ternary_law.specs.Matrices.{Matrix, entry, matrix_of, matrix_product, unit_matrix, linear_move}
use Rattle.ternary_law.specs.Routes.{Step, reached, matrix_after, divisors}
use Rattle.tern_cubic.specs.declared.moving.Moving.{Moving}

-- the matrix has no right inverse
abbrev pub IsSingular : {V : Type 0} → Scalars V → Matrix V → Type 0
IsSingular {V} s a = (x : Matrix V) → matrix_product s a x ≡ unit_matrix s → ⊥

module _ {V : Type 0} (s : Scalars V) where
  -- the operations of the move of the matrix a on the cubic g
  abbrev pub beginning_work : Matrix V → Polynomial 3 V → List (Work 3 V)
  beginning_work a g = work.inverted (linear_move 3 s a) ∷ work.carried 3 (linear_move 3 s a) g ∷ []

  -- the same after the move of the matrix v
  abbrev pub advancing_work : Matrix V → Matrix V → Polynomial 3 V → List (Work 3 V)
  advancing_work v a g =
      work.inverted (linear_move 3 s a) ∷ work.composed 16 (linear_move 3 s v) (linear_move 3 s a) ∷ work.carried 3 (linear_move 3 s a) g ∷ []

module _ {E V : Type 0} (m : Meaning E V) where
  -- nine elements, row after row, are valid and stand for the matrix w
  pub record AreEntries (w : Matrix V) (entries : List E) : Type 0 where
    pub elems : All m.is_elem entries
    pub are : (i j : ℕ) → i < 3 → j < 3 → entry_of m 3 entries i j ≡ entry m.scalars w i j

  -- the change is the linear move of the matrix a, and the jet is g
  pub record IsMoving (a : Matrix V) (g : Polynomial 3 V) (w : Moving E) : Type 0 where
    pub change : IsMoveExactly m 3 16 (linear_move 3 m.scalars a) w.change
    pub form : IsJetFor m 3 3 g w.form

  -- the move is that of some matrix, and the jet is a cubic
  pub record IsUnderWay (w : Moving E) : Type 0 where
    pub matrix : Matrix V
    pub cubic : Polynomial 3 V
    pub is : IsMoving matrix cubic w

  -- the change of the matrix a, or none where a is singular
  abbrev pub IsChangeBy : Matrix V → Option (Change E) → Type 0
  IsChangeBy a (Some c) = IsMoveExactly m 3 16 (linear_move 3 m.scalars a) c
  IsChangeBy a None = IsSingular m.scalars a

  -- the move of the matrix a with the cubic g, or none where a is singular
  abbrev pub AfterMatrix : Matrix V → Polynomial 3 V → Option (Moving E) → Type 0
  AfterMatrix a g (Some w) = IsMoving a g w
  AfterMatrix a g None = IsSingular m.scalars a

  -- the move after some steps, none of whose divisors is zero, from the matrix a and the cubic g on; or none, where a divisor is zero or the matrix of the
  -- whole is singular
  abbrev pub AfterSteps : List (Step V) → Matrix V → Polynomial 3 V → Option (Moving E) → Type 0
  AfterSteps steps a g (Some w) =
      IsMoving (matrix_after m.scalars a steps g) (reached m.scalars steps g) w × EachOf (λ d. d ≢ m.scalars.ops.zero) (divisors m.scalars steps g)
  AfterSteps steps a g None = EachOf (λ d. d ≢ m.scalars.ops.zero) (divisors m.scalars steps g) → IsSingular m.scalars (matrix_after m.scalars a steps g)

  -- the inverse matrix of a change of three variables
  abbrev pub inverse_matrix : Change E → Matrix V
  inverse_matrix c = matrix_of m.scalars (entry_of m 3 c.inverse)
