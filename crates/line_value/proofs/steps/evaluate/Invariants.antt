use Rattle.std.proofs.Common.{◌≡◌, Some, drop}
use Rattle.line_reader.specs.Calculation as calculation
use Rattle.line_value.specs.Calculations.{state_of, outcome_of, calculates, IsCalculation, AreStepsHigh}
use Rattle.line_value.proofs.steps.evaluate.Given as goal

-- the state goes on to the value of all steps, its elements are valid, and a high operation that is still to come is one of all steps
abbrev pub invariant-loop-step : goal.invariant-loop-step
invariant-loop-step g l =
    let ops = g.C.Calculator.arithmetic l.calculator in
    let high = g.C.Calculator.high l.calculator in
    let state = state_of (g.C.Calculator.value l.calculator) l.state in
    let rest = drop l.step-index l.steps in
    (outcome_of ops (calculation.on_steps ops (Some state) rest) ≡ calculates ops l.steps)
    × IsCalculation (g.C.Calculator.is_elem l.calculator) l.state
    × (calculation.IsRunHigh ops high (Some state) rest → AreStepsHigh ops high l.steps)
