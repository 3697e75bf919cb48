use Rattle.std.proofs.Common.{◌≡◌, take}
use Rattle.report_jet.specs.Lifted.{lifted_terms}
use Rattle.report_jet.proofs.lifted.lifted_terms.Given as goal

abbrev pub invariant-loop-t : goal.invariant-loop-t
invariant-loop-t l = l.lifted.items ≡ lifted_terms (take l.t-index l.terms)
