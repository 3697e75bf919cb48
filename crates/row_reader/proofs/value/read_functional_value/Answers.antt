use Rattle.std.proofs.Common.{◌∷◌, ◌++◌, [], refl, sym, ◌∙◌}
use Rattle.poly_text.specs.Numbers.{element_text}
use Rattle.row_reader.proofs.WordTexts.{nothing_left, something_left}
use Rattle.row_reader.proofs.ValueTexts.{functional_line, functional_valid, functional_second, functional_end, functional_read, functional_zero}
use Rattle.row_reader.proofs.value.read_functional_value.Goals as goal

pub returns-in-None-clause-none : goal.returns-in-None-clause-none
returns-in-None-clause-none c _ v valid text = c.in-None.ensures.none refl v.0 (32 ∷ (element_text v.1 ++ [])) (functional_valid c.args.a c.args.corank v valid).0 refl (functional_line v c.args.bytes.now text)

pub returns-in-None-take_value-clause-none : goal.returns-in-None-take_value-clause-none
returns-in-None-take_value-clause-none c _ v valid text =
    let one = c.in-Some.ensures.some in
    c.in-None-take_value.ensures.none refl v.1 [] (functional_valid c.args.a c.args.corank v valid).1 tt (functional_second c.args.a c.args.corank v c.args.bytes.now c.in-Some.m c.in-Some.behind valid text one.0 one.1)

pub returns-then-is_some-clause-none : goal.returns-then-is_some-clause-none
returns-then-is_some-clause-none c _ v valid text =
    let one = c.in-Some.ensures.some in
    let two = c.in-Some-take_value.ensures.some in
    something_left c.in-Some-take_value.rest (sym c.is_some.ensures ∙ c.if-is_some.true)
    (functional_end c.args.a c.args.corank v c.args.bytes.now c.in-Some.m c.in-Some-take_value.value c.in-Some.behind c.in-Some-take_value.rest valid text one.0 one.1 two.0 two.1).1

pub returns-then-is_zero-clause-none : goal.returns-then-is_zero-clause-none
returns-then-is_zero-clause-none c _ v valid text =
    let one = c.in-Some.ensures.some in
    let two = c.in-Some-take_value.ensures.some in
    let k = functional_end c.args.a c.args.corank v c.args.bytes.now c.in-Some.m c.in-Some-take_value.value c.in-Some.behind c.in-Some-take_value.rest valid text one.0 one.1 two.0 two.1 in
    functional_zero c.args.a c.args.corank v c.in-Some-take_value.value c.is_zero.result valid k.0 c.is_zero.ensures c.if-is_zero.true

pub returns-else-is_zero-clause-some : goal.returns-else-is_zero-clause-some
returns-else-is_zero-clause-some c =
    let one = c.in-Some.ensures.some in
    let two = c.in-Some-take_value.ensures.some in
    functional_read c.args.a c.args.corank c.in-Some.m c.in-Some-take_value.value c.is_zero.result c.args.bytes.now c.in-Some.behind c.in-Some-take_value.rest one.0 one.1 two.0 two.1
    (nothing_left c.in-Some-take_value.rest (sym c.is_some.ensures ∙ c.if-is_some.false)) c.is_zero.ensures c.if-is_zero.false
