use Rattle.std.proofs.Common.{◌≡◌, take}
use Rattle.line_jet_law.specs.LineJets.{positive_terms}
use Rattle.line_jet.proofs.linear.without_constant.Given as goal

-- the terms so far without the constant one
abbrev pub invariant-loop-t : goal.invariant-loop-t
invariant-loop-t l = l.terms.items ≡ positive_terms (take l.t-index l.f.terms)
