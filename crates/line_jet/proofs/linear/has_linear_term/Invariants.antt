use Rattle.std.proofs.Common.{◌≡◌, false, take}
use Rattle.line_jet_law.specs.LineJets.{has_linear}
use Rattle.line_jet.proofs.linear.has_linear_term.Given as goal

-- no term so far is in the variable alone
abbrev pub invariant-loop-t : goal.invariant-loop-t
invariant-loop-t l = has_linear l.i (take l.t-index l.terms) ≡ false
