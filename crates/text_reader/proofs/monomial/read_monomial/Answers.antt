use Rattle.std.proofs.Common.{refl, arith}
use Rattle.text_reader.proofs.MonomialTexts.{monomial_valid, outside}
use Rattle.text_reader.proofs.monomial.read_monomial.Goals as goal

pub returns-in-None-clause-none : goal.returns-in-None-clause-none
returns-in-None-clause-none c _ m h text = c.in-None.ensures.none refl m (monomial_valid c.args.n c.args.most m (omega (arith, c.ranges.most)) h) text

pub returns-else-is_within-clause-none : goal.returns-else-is_within-clause-none
returns-else-is_within-clause-none c _ m h text = outside c.args.n c.args.most m c.in-Some.m c.is_within.result c.args.bytes.now (omega (arith, c.ranges.most)) c.in-Some.ensures.some c.is_within.ensures c.if-is_within.false h text
