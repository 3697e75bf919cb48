use Rattle.std.proofs.Common.{length}
use Rattle.text_reader.specs.Pieces.{joined}
use Rattle.text_reader.proofs.PolynomialTexts.{IsReadUp}
use Rattle.text_reader.proofs.polynomial.read_higher.Given as goal

abbrev pub invariant-loop-sum : goal.invariant-loop-sum
invariant-loop-sum l = IsReadUp l.n l.order l.a l.initial.terms.items (joined l.initial.sum) l.terms.items (joined l.sum)

abbrev pub decreases-loop-sum : goal.decreases-loop-sum
decreases-loop-sum l = length (joined l.sum)
