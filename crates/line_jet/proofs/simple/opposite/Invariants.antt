use Rattle.std.proofs.Common.{take}
use Rattle.ring_theory.specs.Rational.{rational_ops}
use Rattle.line_jet_law.proofs.TermByTerm.{AreTermsBy}
use Rattle.line_jet.proofs.simple.opposite.Given as goal

-- the terms so far have the opposite coefficients
abbrev pub invariant-loop-t : goal.invariant-loop-t
invariant-loop-t l = AreTermsBy rational_ops.neg (take l.t-index l.f.terms) l.terms.items
