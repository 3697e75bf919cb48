use Rattle.cert_text.specs.Text.{multipliers_text}
use Rattle.row_reader.proofs.RowTexts.{mather_behind, mather_rest, multipliers_rest}
use Rattle.row_reader.proofs.row.read_mather_row.Goals as goal

pub returns-in_default-take_mark-clause-none : goal.returns-in_default-take_mark-clause-none
returns-in_default-take_mark-clause-none c _ row valid text =
    let m = c.in-Some.ensures.some in
    c.take_mark.ensures.none c.in_default-take_mark.is (multipliers_text row.multipliers) (multipliers_rest row.multipliers) (mather_behind c.args.a c.args.corank c.args.order row c.args.bytes.now c.in-Some.monomial c.in-Some.behind valid text m.0 m.1)

pub returns-in-None-clause-none : goal.returns-in-None-clause-none
returns-in-None-clause-none c _ row valid text =
    let m = c.in-Some.ensures.some in
    c.in_ok-read_multipliers.ensures.none c.in-None.is row.multipliers valid.multipliers (mather_rest c.args.a c.args.corank c.args.order row c.args.bytes.now c.in-Some.monomial c.in-Some.behind c.in-Some-take_mark.rest valid text m.0 m.1 c.in-Some-take_mark.ensures.some)
