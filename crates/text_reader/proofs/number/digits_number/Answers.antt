use Rattle.std.proofs.Common.{◌^◌, ◌<◌, refl, arith}
use Rattle.text_reader.proofs.Numerals.{digit_there, more_le, value_more}
use Rattle.text_reader.proofs.number.digits_number.Goals as goal

pub returns-in-None-clause-none : goal.returns-in-None-clause-none
returns-in-None-clause-none c _ v le is =
    let wide : v < 10 ^ 64 = omega (arith, c.ranges.most) in
    let digit = digit_there v c.args.bytes.now wide is c.loop-b.b-index c.loop-b-test.true in
    let more = more_le v c.args.bytes.now c.loop-b.b-index c.loop-b.value wide is c.loop-b-test.true digit.0 digit.1 c.loop-b.invariant.value in
    let large = c.in-None.ensures.none refl digit.0 digit.1 in
    omega (arith, large, more)

pub loop-b-preserved : goal.loop-b-preserved
loop-b-preserved c =
    let is = c.in-Some.ensures.some in
    let more = value_more c.args.bytes.now c.loop-b.b-index c.loop-b.value c.loop-b-test.true is.0 is.1 c.loop-b.invariant.value in
    record { value = rw is.2 more; small = is.3 }
