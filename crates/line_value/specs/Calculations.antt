-- A calculation in code, by the values of its elements.
use Rattle.std.specs.Prelude.{ℕ, ◌<◌, List, map, reverse, Option, Some, None, IfSome}
use Rattle.std.specs.List.{All}
use Rattle.std.specs.Option.{option_map}
use Rattle.line_syntax.specs.Value.{Arithmetic}
use Rattle.line_syntax.specs.High.{HighOperations}
use Rattle.line_reader.specs.Calculation as calculation
use Rattle.line_reader.specs.declared.step.Step.{Step}
use Rattle.line_reader.specs.declared.step.Step.TheVariants.{Variable, Number, Symbol}
use Rattle.line_value.specs.declared.calculation.Frame.{Frame}
use Rattle.line_value.specs.declared.calculation.At.{At}
use Rattle.line_value.specs.declared.calculation.Calculation.{Calculation}

-- the frame of the values
abbrev pub frame_of : {E V : Type 0} → (E → V) → Frame E → calculation.Frame V
frame_of value f = calculation.frame (option_map value f.sum) f.minus (option_map value f.product)

-- the open frames, the innermost first
abbrev pub stack_of : {E V : Type 0} → (E → V) → List (Frame E) → List (calculation.Frame V)
stack_of value fs = reverse (map (frame_of value) fs)

-- the state with these frames and the value that was read last
abbrev pub state_at : {E V : Type 0} → (E → V) → List (calculation.Frame V) → calculation.Frame V → At E → calculation.State V
state_at value stack f At.Wanted = calculation.wanted stack f
state_at value stack f (At.Seen a) = calculation.seen stack f (value a)
state_at value stack f (At.Exponent a) = calculation.exponent stack f (value a)
state_at value stack f (At.Divisor t) = calculation.divisor stack f (value t)
state_at value stack f (At.Term t) = calculation.term stack f (value t)

-- the state of the values
abbrev pub state_of : {E V : Type 0} → (E → V) → Calculation E → calculation.State V
state_of value c = state_at value (stack_of value c.stack.items) (frame_of value c.frame) c.at

-- the elements of a frame are valid
abbrev pub IsFrame : {E : Type 0} → (E → Type 0) → Frame E → Type 0
IsFrame is_elem f = IfSome f.sum is_elem × IfSome f.product is_elem

-- the element that was read last is valid
abbrev pub IsAt : {E : Type 0} → (E → Type 0) → At E → Type 0
IsAt is_elem At.Wanted = Unit {0}
IsAt is_elem (At.Seen a) = is_elem a
IsAt is_elem (At.Exponent a) = is_elem a
IsAt is_elem (At.Divisor t) = is_elem t
IsAt is_elem (At.Term t) = is_elem t

-- all elements of a calculation are valid
pub record IsCalculation {E : Type 0} (is_elem : E → Type 0) (c : Calculation E) : Type 0 where
  pub frames : All (IsFrame is_elem) c.stack.items
  pub last_frame : IsFrame is_elem c.frame
  pub last_read : IsAt is_elem c.at

-- the step is no variable past the first n
abbrev pub IsStepWithin : ℕ → Step → Type 0
IsStepWithin n (Variable i) = i < n
IsStepWithin n (Number k) = Unit {0}
IsStepWithin n (Symbol c) = Unit {0}

-- the value at the end of a state, if it is one of a whole expression
abbrev pub outcome_of : {V : Type 0} → Arithmetic V → Option (calculation.State V) → Option V
outcome_of ops None = None
outcome_of ops (Some s) = calculation.outcome ops s

-- what the steps calculate
abbrev pub calculates : {V : Type 0} → Arithmetic V → List Step → Option V
calculates ops steps = outcome_of ops (calculation.on_steps ops (Some calculation.calculation_start) steps)

-- the steps go through a high operation
abbrev pub AreStepsHigh : {V : Type 0} → Arithmetic V → HighOperations V → List Step → Type 0
AreStepsHigh ops high steps = calculation.IsRunHigh ops high (Some calculation.calculation_start) steps
