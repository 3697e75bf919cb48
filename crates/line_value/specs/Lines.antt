-- The steps of a whole line.
use Rattle.std.specs.Prelude.{◌≡◌, ℕ, Bool, false, List, [], ◌∷◌, map, length, ◌==◌}
use Rattle.line_syntax.specs.Syntax.{Line, IsLine, tokens_of, names_of}
use Rattle.line_reader.specs.Steps.{step_of}
use Rattle.line_reader.specs.declared.step.Step.{Step}
use Rattle.line_reader.specs.declared.step.Step.TheVariants.{Variable, Number, Symbol}

-- these are the steps of the tokens of a line of the grammar in n variables
pub record AreStepsOf (n : ℕ) (l : Line) (steps : List Step) : Type 0 where
  pub is_line : IsLine l
  pub names_are : length (names_of l) ≡ n
  pub steps_are : steps ≡ map (step_of (names_of l)) (tokens_of l)

-- these are the steps of some line of the grammar in n variables
pub record AreLineSteps (n : ℕ) (steps : List Step) : Type 0 where
  pub line : Line
  pub are : AreStepsOf n line steps

-- the steps begin with `[`
abbrev pub begins_with_bracket : List Step → Bool
begins_with_bracket [] = false
begins_with_bracket (Variable i ∷ steps) = false
begins_with_bracket (Number n ∷ steps) = false
begins_with_bracket (Symbol c ∷ steps) = c == 91
