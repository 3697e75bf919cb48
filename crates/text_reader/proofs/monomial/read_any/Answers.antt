use Rattle.text_reader.proofs.MonomialTexts.{one_read, factors_read, factors_there}
use Rattle.text_reader.proofs.monomial.read_any.Goals as goal

pub returns-then-is_text-clause-some : goal.returns-then-is_text-clause-some
returns-then-is_text-clause-some c = one_read c.args.bytes.now (c.is_text.ensures.0 c.if-is_text.true)

pub returns-else-is_text-clause-some : goal.returns-else-is_text-clause-some
returns-else-is_text-clause-some c = factors_read c.args.bytes.now c.read_factors.result c.read_factors.ensures.some

pub returns-else-is_text-clause-none : goal.returns-else-is_text-clause-none
returns-else-is_text-clause-none c e m is text =
    c.read_factors.ensures.none e m is (factors_there m c.args.bytes.now is (λ one. let yes = c.is_text.ensures.1 one in absurd (cc (yes, c.if-is_text.false))) text)
