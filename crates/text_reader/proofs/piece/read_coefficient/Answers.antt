use Rattle.std.proofs.Common.{refl}
use Rattle.text_reader.proofs.PieceTexts.{front_of, star_fails, signed_there, unit_fails, not_empty_of}
use Rattle.text_reader.proofs.piece.read_coefficient.Goals as goal

pub returns-in-None-clause-none : goal.returns-in-None-clause-none
returns-in-None-clause-none c _ q letters ok h e =
    star_fails q c.args.sign c.args.front.now (front_of q letters c.args.sign c.args.front.now ok h e) (not_empty_of c.args.front.now c.is_empty.result c.is_empty.ensures c.if-is_empty.false) (c.in-None.ensures.none refl)

pub returns-in-None-read_signed-clause-none : goal.returns-in-None-read_signed-clause-none
returns-in-None-read_signed-clause-none c _ q letters ok h e =
    let there = signed_there q c.args.sign c.args.front.now c.in-Some.magnitude.now (front_of q letters c.args.sign c.args.front.now ok h e) (not_empty_of c.args.front.now c.is_empty.result c.is_empty.ensures c.if-is_empty.false) c.in-Some.ensures.some in
    c.in-None-read_signed.ensures.none refl q ok there.1

pub returns-then-is_unit-clause-none : goal.returns-then-is_unit-clause-none
returns-then-is_unit-clause-none c _ q letters ok h e =
    unit_fails q c.in-Some-read_signed.q c.args.sign c.args.front.now c.in-Some.magnitude.now c.is_unit.result ok (front_of q letters c.args.sign c.args.front.now ok h e)
    (not_empty_of c.args.front.now c.is_empty.result c.is_empty.ensures c.if-is_empty.false) c.in-Some.ensures.some c.in-Some-read_signed.ensures.some c.is_unit.ensures c.if-is_unit.true
