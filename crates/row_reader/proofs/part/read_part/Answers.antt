use Rattle.std.proofs.Common.{◌∷◌, refl, sym, arith}
use Rattle.poly_text.specs.Polynomials.{jet_text}
use Rattle.row_reader.specs.Words.{after_space}
use Rattle.row_reader.proofs.RowTexts.{part_name, part_rest, part_constant}
use Rattle.row_reader.proofs.part.read_part.Goals as goal

pub returns-in_default-read_name-clause-none : goal.returns-in_default-read_name-clause-none
returns-in_default-read_name-clause-none c _ v valid text =
    let word = c.in-Some.ensures.some in
    c.read_name.ensures.none c.in_default-read_name.is v.0 valid.name (part_name c.args.a c.args.n c.args.order v c.args.bytes.now c.in-Some.word.now c.in-Some.behind valid text word.0 word.1).0

pub returns-in_default-take_mark-clause-none : goal.returns-in_default-take_mark-clause-none
returns-in_default-take_mark-clause-none c _ v valid text =
    let word = c.in-Some.ensures.some in
    c.take_mark.ensures.none c.in_default-take_mark.is (32 ∷ jet_text v.1) refl (sym (part_name c.args.a c.args.n c.args.order v c.args.bytes.now c.in-Some.word.now c.in-Some.behind valid text word.0 word.1).1)

pub returns-in-None-clause-none : goal.returns-in-None-clause-none
returns-in-None-clause-none c _ v valid text =
    let word = c.in-Some.ensures.some in
    c.in_ok-read_last.ensures.none c.in-None.is v.1 valid.part.jet (part_rest c.args.a c.args.n c.args.order v c.args.bytes.now c.in-Some.word.now c.in-Some.behind c.in-Some-take_mark.rest valid text word.0 word.1 c.in-Some-take_mark.ensures.some)

pub returns-else-has_no_constant-clause-none : goal.returns-else-has_no_constant-clause-none
returns-else-has_no_constant-clause-none c _ v valid text =
    let word = c.in-Some.ensures.some in
    let jet = rw c.in-Some-2.is at c.in_ok-read_last.ensures.some in
    part_constant c.args.a c.args.n c.args.order v c.in-Some-2.part (after_space c.in-Some-take_mark.rest) c.has_no_constant.result (omega (arith, c.ranges.order)) valid
    (part_rest c.args.a c.args.n c.args.order v c.args.bytes.now c.in-Some.word.now c.in-Some.behind c.in-Some-take_mark.rest valid text word.0 word.1 c.in-Some-take_mark.ensures.some)
    jet.0 jet.1 c.has_no_constant.ensures c.if-has_no_constant.false
