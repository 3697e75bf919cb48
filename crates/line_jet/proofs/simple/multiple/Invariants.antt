use Rattle.std.proofs.Common.{take}
use Rattle.ring_theory.specs.Rational.{rational_ops}
use Rattle.ring_law.specs.Fraction.{frac_value}
use Rattle.line_jet_law.proofs.TermByTerm.{AreTermsBy}
use Rattle.line_jet.proofs.simple.multiple.Given as goal

-- the terms so far have the multiples of the coefficients
abbrev pub invariant-loop-t : goal.invariant-loop-t
invariant-loop-t l = AreTermsBy (rational_ops.mul (frac_value l.q)) (take l.t-index l.f.terms) l.terms.items
