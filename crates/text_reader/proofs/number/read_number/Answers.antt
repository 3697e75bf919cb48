use Rattle.std.proofs.Common.{arith}
use Rattle.text_reader.proofs.Numerals.{canonical, numeral_some}
use Rattle.text_reader.proofs.number.read_number.Goals as goal

pub returns-then-is_canonical-clause-some : goal.returns-then-is_canonical-clause-some
returns-then-is_canonical-clause-some c = numeral_some c.args.bytes.now c.args.most c.digits_number.result (omega (arith, c.ranges.most)) (c.is_canonical.ensures.0 c.if-is_canonical.true) c.digits_number.ensures.some

pub returns-else-is_canonical-clause-none : goal.returns-else-is_canonical-clause-none
returns-else-is_canonical-clause-none c _ v le is =
    let form = c.is_canonical.ensures.1 (canonical v c.args.bytes.now (omega (arith, c.ranges.most)) is) in
    absurd (cc (form, c.if-is_canonical.false))
