-- What decides on the finish of a part in three variables.
use Rattle.move_law.specs.Finish.{Choice}
use Rattle.rules_corank3.specs.declared.finish_choice.Choice as coded

-- a choice of the program
abbrev pub choice_of : coded.Choice → Choice
choice_of c = record { monomial = c.monomial; part = c.part; family = c.family }
