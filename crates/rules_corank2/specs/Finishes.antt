-- Finishes under way as the program keeps them, and what they may not divide by.
use Rattle.std.specs.Prelude.{◌≡◌, ℕ, ◌+◌, ◌*◌, ◌<◌, ◌≤◌, nat_le, Option, Some, None, List, [], ◌++◌, filter, length, All}
use Rattle.ring_theory.specs.Scalars.{Scalars, Meaning}
use Rattle.ring_theory.specs.Height.{most}
use Rattle.poly_law.specs.Polynomials.{Polynomial}
use Rattle.mono_exp.specs.Exponents.{numbers_below}
use Rattle.coord_change.specs.declared.change.Change.{Change}
use Rattle.coord_change.specs.Carries.{composite}
use Rattle.coord_change.specs.MoveJets.{IsJetFor, IsMoveExactly}
use Rattle.coord_change.specs.Moves.{Move, put}
use Rattle.kill_law.specs.declared.part.Part.{Part}
use Rattle.kill_law.specs.Table.{row}
use Rattle.kill_law.specs.Kill.{letters_of}
use Rattle.kill_table.specs.Divisors.{HasNonzeroDivisors}
use Rattle.poly_law.specs.Polynomials.{HaveNoConstant}
use Rattle.move_law.specs.Finish.{Finishing, Choice, begin_finish, kills_at}
use Rattle.move_law.specs.Patterns.{two}
use Rattle.move_law.specs.Work.{composing_work}
use Rattle.split_lemma.specs.Splits.{AnyHigh}
use Rattle.rules_corank2.specs.declared.finish_choice.Choice as coded
use Rattle.rules_corank2.specs.declared.finish_state.Finishing as code

module _ {E V : Type 0} (m : Meaning E V) (n o : ℕ) where
  -- the change is the composite of the moves up to degree o; none where there are no moves
  abbrev pub IsCompositeOf : List (Move n V) → Option (Change E) → Type 0
  IsCompositeOf moves None = moves ≡ []
  IsCompositeOf moves (Some c) = (0 < length moves) × IsMoveExactly m n o (composite n m.scalars o moves) c

  -- what the program keeps is the finish under way g up to order o: the composite of its moves, which put nothing constant for a variable, and its jet
  pub record IsUnderWay (g : Finishing n V) (state : code.Finishing E) : Type 0 where
    pub given : 0 < n
    pub at_most_8_variables : n ≤ 8
    pub order_at_least_2 : 2 ≤ o
    pub order_at_most_16 : o ≤ 16
    pub form : IsJetFor m n o g.form state.form
    pub change : IsCompositeOf g.moves state.change
    pub no_constants : All (λ move. HaveNoConstant n m.scalars.ops n (put n m.scalars move)) g.moves

-- the program keeps some finish under way
pub record IsStanding {E V : Type 0} (m : Meaning E V) (state : code.Finishing E) : Type 0 where
  pub finish : Finishing state.form.n V
  pub is : IsUnderWay m state.form.n state.form.order finish state

-- an operation of a finish under way, or of the composite of its moves, forms a number of height at least 2^120
abbrev pub IsFinishingHigh : {V : Type 0} (n : ℕ) → Scalars V → ℕ → Finishing n V → Type 0
IsFinishingHigh n s o g = AnyHigh n s (g.works ++ composing_work n s o g.moves)

-- the grades above that of a part, below a given one
abbrev pub grades_before : Part → ℕ → List ℕ
grades_before p grade = filter (nat_le ((row p).degree + 1)) (numbers_below grade)

-- the greatest grade of the graded kill of a part up to order o
abbrev pub last_grade : Part → ℕ → ℕ
last_grade p o = o * most (row p).weights

module _ {V : Type 0} (n : ℕ) (s : Scalars V) (o : ℕ) where
  -- nothing that the graded kill of a part divides by is zero: not in the kill of a grade, after those of the grades before it
  abbrev pub IsGradedKillRegular : Part → Polynomial n V → Type 0
  IsGradedKillRegular p f = (grade : ℕ) → (row p).degree < grade → grade ≤ last_grade p o
      → HasNonzeroDivisors s (letters_of n s p (kills_at n s o p (grades_before p grade) (begin_finish n s o f)).form) p

-- a choice of the program
abbrev pub choice_of : coded.Choice → Choice
choice_of c = record { monomial = two c.x c.y; part = c.part; family = c.family }
