use Rattle.std.proofs.Common.{refl, sym}
use Rattle.text_reader.proofs.AlgebraTexts.{square_none, square_read, square_rest, zero_square}
use Rattle.text_reader.proofs.algebra.read_square.Goals as goal

pub returns-in-None-clause-none : goal.returns-in-None-clause-none
returns-in-None-clause-none c _ d valid e = c.in-None.ensures.none refl _ (square_rest d c.args.behind.now e)

pub returns-in-None-first_and_rest-clause-some : goal.returns-in-None-first_and_rest-clause-some
returns-in-None-first_and_rest-clause-some c = zero_square c.args.behind.now c.in-Some.rest.now c.in-Some.ensures.some (sym c.in-None-first_and_rest.ensures)

pub returns-in-Some-first_and_rest-clause-some : goal.returns-in-Some-first_and_rest-clause-some
returns-in-Some-first_and_rest-clause-some c =
    square_read c.in-Some-first_and_rest.sign c.opposite_sign.result c.args.behind.now c.in-Some.rest.now c.in-Some-first_and_rest.magnitude.now c.read_signed.result c.in-Some.ensures.some (sym c.in-Some-first_and_rest.ensures) c.opposite_sign.ensures c.read_signed.ensures.some

pub returns-in-Some-first_and_rest-clause-none : goal.returns-in-Some-first_and_rest-clause-none
returns-in-Some-first_and_rest-clause-none c none =
    square_none c.in-Some-first_and_rest.sign c.opposite_sign.result c.args.behind.now c.in-Some.rest.now c.in-Some-first_and_rest.magnitude.now c.in-Some.ensures.some (sym c.in-Some-first_and_rest.ensures) c.opposite_sign.ensures (c.read_signed.ensures.none none)
