-- The stages of the Hessian's reduction as the program keeps them, and the matrices of its moves.
use Rattle.std.specs.Prelude.{◌≡◌, ℕ, ◌*◌, ◌<◌, List, length, All}
use Rattle.ring_theory.specs.Scalars.{Meaning}
use Rattle.poly_law.specs.Polynomials.{SameIn}
use Rattle.jet_law.specs.Terms.{poly_of}
use Rattle.jet_poly.specs.Jets.{IsJet}
use Rattle.jet_subst.specs.Parts.{part_of}
use Rattle.coord_change.specs.declared.change.Change.{Change}
use Rattle.coord_change.specs.Changes.{IsChange, entry_of}
use Rattle.coord_change.specs.Inverses.{HasNoKernel}
use Rattle.coord_change.specs.Linear.{linear_form}
use Rattle.coord_change.specs.Moves.{Move, put, move_from}
use Rattle.move_law.specs.Hessian.{Squares}
use Rattle.hessian_rank.specs.declared.stage.Stage.{Stage}
use Rattle.hessian_rank.specs.Sound.{IsLinear}

module _ {E V : Type 0} (m : Meaning E V) (n : ℕ) where
  -- the variables, the move and the polynomial of a stage
  abbrev pub stage_of : Stage E → Squares n V
  stage_of q = record { opened = q.opened.items; closed = q.closed.items; change = move_from m n q.change; form = poly_of n m.value q.form.terms }

  -- the stage is one in n variables, up to order 16 of its change and order 2 of its terms
  pub record IsStage (q : Stage E) : Type 0 where
    pub change : IsChange m q.change
    pub variables : q.change.n ≡ n
    pub order : q.change.order ≡ 16
    pub form : IsJet m q.form
    pub form_variables : q.form.n ≡ n
    pub form_order : q.form.order ≡ 2

  -- it is such a stage, and what it keeps is p
  pub record IsStageFor (p : Squares n V) (q : Stage E) : Type 0 where
    pub stage : IsStage q
    pub is : stage_of q ≡ p

  -- the entries, row after row, are those of a matrix that takes no vector but 0 to 0
  pub record IsRegular (entries : List E) : Type 0 where
    pub elems : All m.is_elem entries
    pub count : length entries ≡ n * n
    pub regular : HasNoKernel m.scalars.ops n (entry_of m n entries)

  -- and the move puts the linear forms with its rows as coefficients
  pub record IsMatrixOf (move : Move n V) (entries : List E) : Type 0 where
    pub matrix : IsRegular entries
    pub linear : IsLinear n m.scalars (entry_of m n entries) move

  -- the change is the linear one of a matrix, of order 16
  pub record IsLinearChange (w : ℕ → ℕ → V) (c : Change E) : Type 0 where
    pub change : IsChange m c
    pub variables : c.n ≡ n
    pub order : c.order ≡ 16
    pub parts : (i : ℕ) → i < n → SameIn n m.scalars.ops (part_of n m.value c.parts i) (linear_form n m.scalars.ops (w i))

  -- the change puts, up to order 16, what the move puts
  pub record PutsSame (move : Move n V) (c : Change E) : Type 0 where
    pub change : IsChange m c
    pub variables : c.n ≡ n
    pub parts : (i : ℕ) → i < n → SameIn n m.scalars.ops (part_of n m.value c.parts i) (put n m.scalars move i)
