use Rattle.std.proofs.Common.{length}
use Rattle.row_reader.specs.Words.{after_space}
use Rattle.row_reader.proofs.ValueTexts.{AreMonomials}
use Rattle.row_reader.proofs.value.read_monomials.Given as goal

abbrev pub invariant-loop-left : goal.invariant-loop-left
invariant-loop-left l = AreMonomials l.corank (after_space l.rest) l.monomials.items (after_space l.left)

abbrev pub decreases-loop-left : goal.decreases-loop-left
decreases-loop-left l = length (after_space l.left)
