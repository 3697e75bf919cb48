use Rattle.std.proofs.Common.{take}
use Rattle.determinacy.specs.Answers.{AreByMonomials}
use Rattle.determinacy.proofs.test.by_monomials.Given as goal

abbrev pub invariant-loop-t : goal.invariant-loop-t
invariant-loop-t g l = AreByMonomials l.n (take l.t-index l.values) l.all.items
