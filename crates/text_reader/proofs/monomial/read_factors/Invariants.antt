use Rattle.text_reader.proofs.FactorTexts.{IsReadTo}
use Rattle.text_reader.proofs.monomial.read_factors.Given as goal

abbrev pub invariant-loop-i : goal.invariant-loop-i
invariant-loop-i l = IsReadTo l.i l.bytes l.e l.factors
