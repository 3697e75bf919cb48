use Rattle.std.proofs.Common.{◌≡◌, ℕ, ◌<◌, false}
use Rattle.line_jet_law.specs.LineJets.{has_linear}
use Rattle.line_jet.proofs.linear.first_linear.Given as goal

-- no term is in a variable alone that was passed
abbrev pub invariant-loop-i : goal.invariant-loop-i
invariant-loop-i l = (j : ℕ) → j < l.i → has_linear j l.terms ≡ false
