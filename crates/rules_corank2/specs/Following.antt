-- What the program keeps after a move more, after a part of a finish, and after a whole one.
use Rattle.std.specs.Prelude.{Option, List}
use Rattle.ring_theory.specs.Scalars.{Meaning}
use Rattle.coord_change.specs.Moves.{Move}
use Rattle.move_law.specs.Finish.{Finishing, with_move}
use Rattle.move_law.specs.Work.{Work}
use Rattle.normal_forms.specs.declared.family.Family.{Family}
use Rattle.rules_corank2.specs.declared.finish_base.Finish as ended
use Rattle.rules_corank2.specs.declared.finish_state.Finishing as code
use Rattle.rules_corank2.specs.Finishes.{IsUnderWay, IsFinishingHigh}
use Rattle.rules_corank2.specs.Finished.{IsFinished}

module _ {E V : Type 0} (m : Meaning E V) (state : code.Finishing E) where
  -- of each finish under way that the program keeps in the state it keeps then what the part makes of it
  abbrev pub IsTaken : (Finishing state.form.n V → Finishing state.form.n V) → code.Finishing E → Type 0
  IsTaken part next = (g : Finishing state.form.n V) → IsUnderWay m state.form.n state.form.order g state → IsUnderWay m state.form.n state.form.order (part g) next

  -- or an operation of that, or of the composite of its moves, forms a number of height at least 2^120
  abbrev pub IsTakingHigh : (Finishing state.form.n V → Finishing state.form.n V) → Type 0
  IsTakingHigh part = (g : Finishing state.form.n V) → IsUnderWay m state.form.n state.form.order g state → IsFinishingHigh state.form.n m.scalars state.form.order (part g)

  -- the same for a further move, whatever operations find it
  abbrev pub IsMovedBy : Move state.form.n V → code.Finishing E → Type 0
  IsMovedBy move next = (finding : List (Work state.form.n V)) → IsTaken (with_move state.form.n m.scalars state.form.order finding move) next

  abbrev pub IsMovingHigh : Move state.form.n V → Type 0
  IsMovingHigh move = (finding : List (Work state.form.n V)) → IsTakingHigh (with_move state.form.n m.scalars state.form.order finding move)

  -- the program answers the finish of each
  abbrev pub IsEnded : (Finishing state.form.n V → Finishing state.form.n V × Option Family) → ended.Finish E → Type 0
  IsEnded finish answer = (g : Finishing state.form.n V) → IsUnderWay m state.form.n state.form.order g state → IsFinished m state.form.n state.form.order (finish g) answer

  -- or an operation of it is high
  abbrev pub IsEndingHigh : (Finishing state.form.n V → Finishing state.form.n V × Option Family) → Type 0
  IsEndingHigh finish = (g : Finishing state.form.n V) → IsUnderWay m state.form.n state.form.order g state → IsFinishingHigh state.form.n m.scalars state.form.order (finish g).0
