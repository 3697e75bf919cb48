use Rattle.std.proofs.Common.{◌≡◌, pos, SFits, refl, rules, arith}
use Rattle.std.specs.Int.{w128}
use Rattle.std.proofs.lemmas.Int.{ints}
use Rattle.text_reader.proofs.PieceTexts.{signed_fails, zero_fails, plus_coefficient, minus_some}
use Rattle.text_reader.proofs.piece.read_signed.Goals as goal

pub returns-in-None-clause-none : goal.returns-in-None-clause-none
returns-in-None-clause-none c _ q ok e = signed_fails q c.args.sign c.args.magnitude.now ok e (c.in-None.ensures.none refl)

pub returns-then-q-eq0-clause-none : goal.returns-then-q-eq0-clause-none
returns-then-q-eq0-clause-none c _ q ok e =
    let fits : SFits w128 c.in-Some.q.num = search rules in
    let none : c.in-Some.q.num ≡ pos 0 = omega (arith, ints) in
    zero_fails q c.in-Some.q c.args.sign c.args.magnitude.now ok e c.in-Some.ensures.some none

pub returns-else-q-eq0-clause-some : goal.returns-else-q-eq0-clause-some
returns-else-q-eq0-clause-some c =
    let fits : SFits w128 c.in-Some.q.num = search rules in
    plus_coefficient c.in-Some.q c.args.sign c.args.magnitude.now c.in-43.is c.in-Some.ensures.some (λ zero_is. c.if-q-eq0.false (omega (arith, ints, zero_is)))

pub returns-in-45-clause-some : goal.returns-in-45-clause-some
returns-in-45-clause-some c = minus_some c.in-Some.q c.args.sign c.args.magnitude.now c.opposite.result c.in-45.is c.in-Some.ensures.some.1 c.opposite.ensures.some

pub returns-in-45-clause-none : goal.returns-in-45-clause-none
returns-in-45-clause-none c e q ok is = zero_fails q c.in-Some.q c.args.sign c.args.magnitude.now ok is c.in-Some.ensures.some (c.opposite.ensures.none e)
