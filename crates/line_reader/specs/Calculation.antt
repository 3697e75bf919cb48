-- Calculating a line's value over its steps, with the sums and products so far in place of trees.
use Rattle.std.specs.Prelude.{ℕ, Bool, true, false, List, [], ◌∷◌, if◌then◌else◌, ◌==◌, nat_lt, Option, Some, None, ◌≡◌, ◌⊎◌}
use Rattle.line_syntax.specs.Value.{Arithmetic}
use Rattle.line_syntax.specs.High.{HighOperations, IsPowerHigh}
use Rattle.line_reader.specs.declared.step.Step.{Step}
use Rattle.line_reader.specs.declared.step.Step.TheVariants.{Variable, Number, Symbol}

-- the sum so far, the sign of the term that comes, and the product so far
pub record Frame (V : Type 0) : Type 0 where
  pub sum : Option V
  pub minus : Bool
  pub product : Option V

-- the frame with these parts
abbrev pub frame : {V : Type 0} → Option V → Bool → Option V → Frame V
frame s m p = record { sum = s; minus = m; product = p }

-- the frames of the open groups, the frame here, and the value that was read last
pub data State (V : Type 0) : Type 0 where
  wanted : List (Frame V) → Frame V → State V
  seen : List (Frame V) → Frame V → V → State V
  exponent : List (Frame V) → Frame V → V → State V
  divisor : List (Frame V) → Frame V → V → State V
  term : List (Frame V) → Frame V → V → State V

module _ {V : Type 0} (ops : Arithmetic V) where
  -- the product with one more factor
  abbrev pub times : Option V → V → V
  times None v = v
  times (Some t) v = ops.mul t v

  -- v, or its opposite where the sign is `-`
  abbrev pub signed_value : Bool → V → V
  signed_value true v = ops.neg v
  signed_value false v = v

  -- the sum with one more term
  abbrev pub plus_term : Option V → V → V
  plus_term None v = v
  plus_term (Some e) v = ops.add e v

  -- the sum of a frame with the signed term t
  abbrev pub total : Frame V → V → V
  total f t = plus_term f.sum (signed_value f.minus t)

  -- after `)`: the value v of the group is read in the frame before it
  abbrev pub closed : List (Frame V) → V → Option (State V)
  closed [] v = None
  closed (g ∷ stack) v = Some (seen stack g v)

  -- a symbol after a term
  abbrev pub on_term : List (Frame V) → Frame V → V → ℕ → Option (State V)
  on_term stack f t c =
      if c == 42 then Some (wanted stack (frame f.sum f.minus (Some t))) else
      (if c == 47 then Some (divisor stack (frame f.sum f.minus None) t) else
      (if c == 41 then closed stack (total f t) else
      (if c == 43 then Some (wanted stack (frame (Some (total f t)) false None)) else
      (if c == 45 then Some (wanted stack (frame (Some (total f t)) true None)) else None))))

  -- a symbol where an atom is wanted: `(` or a sign
  abbrev pub on_front : List (Frame V) → Frame V → ℕ → Option (State V)
  on_front stack f c =
      if c == 40 then Some (wanted (f ∷ stack) (frame None false None)) else
      (if c == 43 then Some (wanted stack (frame f.sum false f.product)) else
      (if c == 45 then Some (wanted stack (frame f.sum true f.product)) else None))

  -- the state after one step, if it may stand here
  abbrev pub on_step : State V → Step → Option (State V)
  on_step (wanted stack f) (Variable i) = Some (seen stack f (ops.variable i))
  on_step (wanted stack f) (Number n) = Some (seen stack f (ops.number n))
  on_step (wanted stack f) (Symbol c) = on_front stack f c
  on_step (seen stack f a) (Variable i) = None
  on_step (seen stack f a) (Number n) = None
  on_step (seen stack f a) (Symbol c) = if c == 94 then Some (exponent stack f a) else on_term stack f (times f.product a) c
  on_step (exponent stack f a) (Variable i) = None
  on_step (exponent stack f a) (Number n) = Some (term stack (frame f.sum f.minus None) (times f.product (ops.power a n)))
  on_step (exponent stack f a) (Symbol c) = None
  on_step (divisor stack f t) (Variable i) = None
  on_step (divisor stack f t) (Number n) = if nat_lt 0 n then Some (term stack f (ops.over t n)) else None
  on_step (divisor stack f t) (Symbol c) = None
  on_step (term stack f t) (Variable i) = None
  on_step (term stack f t) (Number n) = None
  on_step (term stack f t) (Symbol c) = on_term stack f t c

  -- the state after these steps, if each may stand where it does
  abbrev pub on_steps : Option (State V) → List Step → Option (State V)
  on_steps o [] = o
  on_steps None (x ∷ xs) = None
  on_steps (Some s) (x ∷ xs) = on_steps (on_step s x) xs

  -- the value of an expression that ends here
  abbrev pub outcome : State V → Option V
  outcome (seen stack f a) = Some (total f (times f.product a))
  outcome (term stack f t) = Some (total f t)
  outcome (wanted stack f) = None
  outcome (exponent stack f a) = None
  outcome (divisor stack f t) = None

-- the state before an expression
abbrev pub calculation_start : {V : Type 0} → State V
calculation_start = wanted [] (frame None false None)

-- which steps of a calculation go through a high operation
module _ {V : Type 0} (ops : Arithmetic V) (high : HighOperations V) where
  -- the product with one more factor is high
  abbrev pub IsTimesHigh : Option V → V → Type 0
  IsTimesHigh None v = ⊥
  IsTimesHigh (Some t) v = high.product t v

  -- the sum with one more term is high
  abbrev pub IsPlusHigh : Option V → V → Type 0
  IsPlusHigh None v = ⊥
  IsPlusHigh (Some e) v = high.sum e v

  -- the sum of a frame with the signed term t is high
  abbrev pub IsTotalHigh : Frame V → V → Type 0
  IsTotalHigh f t = IsPlusHigh f.sum (signed_value ops f.minus t)

  -- a symbol after the term t that goes on with no product or quotient ends it, and the sum with it is high
  abbrev pub IsEndHigh : Frame V → V → ℕ → Type 0
  IsEndHigh f t c = ((c == 42) ≡ false) × ((c == 47) ≡ false) × IsTotalHigh f t

  -- the step goes through a high operation
  abbrev pub IsStepHigh : State V → Step → Type 0
  IsStepHigh (wanted stack f) (Variable i) = ⊥
  IsStepHigh (wanted stack f) (Number n) = ⊥
  IsStepHigh (wanted stack f) (Symbol c) = ⊥
  IsStepHigh (seen stack f a) (Variable i) = ⊥
  IsStepHigh (seen stack f a) (Number n) = ⊥
  IsStepHigh (seen stack f a) (Symbol c) = ((c == 94) ≡ false) × (IsTimesHigh f.product a ⊎ IsEndHigh f (times ops f.product a) c)
  IsStepHigh (exponent stack f a) (Variable i) = ⊥
  IsStepHigh (exponent stack f a) (Number n) = IsPowerHigh ops high a n ⊎ IsTimesHigh f.product (ops.power a n)
  IsStepHigh (exponent stack f a) (Symbol c) = ⊥
  IsStepHigh (divisor stack f t) (Variable i) = ⊥
  IsStepHigh (divisor stack f t) (Number n) = high.quotient t n
  IsStepHigh (divisor stack f t) (Symbol c) = ⊥
  IsStepHigh (term stack f t) (Variable i) = ⊥
  IsStepHigh (term stack f t) (Number n) = ⊥
  IsStepHigh (term stack f t) (Symbol c) = IsEndHigh f t c

  -- the value of an expression that ends here is reached through a high operation
  abbrev pub IsOutcomeHigh : State V → Type 0
  IsOutcomeHigh (seen stack f a) = IsTimesHigh f.product a ⊎ IsTotalHigh f (times ops f.product a)
  IsOutcomeHigh (term stack f t) = IsTotalHigh f t
  IsOutcomeHigh (wanted stack f) = ⊥
  IsOutcomeHigh (exponent stack f a) = ⊥
  IsOutcomeHigh (divisor stack f t) = ⊥

  -- some step, or the end after them, goes through a high operation
  abbrev pub IsRunHigh : Option (State V) → List Step → Type 0
  IsRunHigh None xs = ⊥
  IsRunHigh (Some s) [] = IsOutcomeHigh s
  IsRunHigh (Some s) (x ∷ xs) = IsStepHigh s x ⊎ IsRunHigh (on_step ops s x) xs
