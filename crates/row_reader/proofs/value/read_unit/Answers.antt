use Rattle.std.proofs.Common.{◌∷◌, ◌++◌, [], refl, sym, ◌∙◌}
use Rattle.poly_text.specs.Numbers.{element_text}
use Rattle.row_reader.proofs.WordTexts.{nothing_left, something_left}
use Rattle.row_reader.proofs.ValueTexts.{unit_line, unit_valid, unit_second, unit_end, unit_read}
use Rattle.row_reader.proofs.value.read_unit.Goals as goal

pub returns-in-None-clause-none : goal.returns-in-None-clause-none
returns-in-None-clause-none c _ u valid text = c.in-None.ensures.none refl u.0 (32 ∷ (element_text u.1 ++ [])) (unit_valid c.args.a u valid).0 refl (unit_line c.args.a u c.args.bytes.now text)

pub returns-in-None-take_value-clause-none : goal.returns-in-None-take_value-clause-none
returns-in-None-take_value-clause-none c _ u valid text =
    let one = c.in-Some.ensures.some in
    c.in-None-take_value.ensures.none refl u.1 [] (unit_valid c.args.a u valid).1 tt (unit_second c.args.a u c.args.bytes.now c.in-Some.value c.in-Some.behind valid text one.0 one.1)

pub returns-then-is_some-clause-none : goal.returns-then-is_some-clause-none
returns-then-is_some-clause-none c _ u valid text =
    let one = c.in-Some.ensures.some in
    let two = c.in-Some-take_value.ensures.some in
    something_left c.in-Some-take_value.rest (sym c.is_some.ensures ∙ c.if-is_some.true)
    (unit_end c.args.a u c.args.bytes.now c.in-Some.value c.in-Some-take_value.inverse c.in-Some.behind c.in-Some-take_value.rest valid text one.0 one.1 two.0 two.1)

pub returns-else-is_some-clause-some : goal.returns-else-is_some-clause-some
returns-else-is_some-clause-some c =
    let one = c.in-Some.ensures.some in
    let two = c.in-Some-take_value.ensures.some in
    unit_read c.args.a c.in-Some.value c.in-Some-take_value.inverse c.args.bytes.now c.in-Some.behind c.in-Some-take_value.rest one.0 one.1 two.0 two.1 (nothing_left c.in-Some-take_value.rest (sym c.is_some.ensures ∙ c.if-is_some.false))
