use Rattle.std.proofs.Common.{refl}
use Rattle.cert_text.specs.Text.{functional_text, functional_inside}
use Rattle.report_reader.specs.Functional.{IsLater}
use Rattle.report_reader.proofs.Fronts.{no_line_at, line_value_at, line_front}
use Rattle.report_reader.proofs.FunctionalLines.{no_value, no_room, value_clean, value_residual}
use Rattle.report_reader.proofs.functional.take_value.Goals as goal

pub has_room-requires-clause-residual : goal.has_room-requires-clause-residual
has_room-requires-clause-residual c = value_residual c.args.a c.args.corank c.in-Some-read_functional_value.value c.in-Some-read_functional_value.ensures.some.0

pub returns-in-None-clause-none : goal.returns-in-None-clause-none
unfolding functional_text
returns-in-None-clause-none c _ = no_line_at (IsLater c.args.a c.args.corank c.args.low c.args.left) functional_inside c.args.bytes.now (c.in-None.ensures.none refl)

pub returns-in-None-read_functional_value-clause-none : goal.returns-in-None-read_functional_value-clause-none
unfolding functional_text
returns-in-None-read_functional_value-clause-none c _ =
    line_value_at (IsLater c.args.a c.args.corank c.args.low c.args.left) functional_inside c.args.bytes.now c.in-Some.text.now c.in-Some.rest.now (λ v h. value_clean c.args.a c.args.corank v h.value) c.in-Some.ensures.some.1 c.in-Some.ensures.some.0
    (no_value c.args.a c.args.corank c.args.low c.args.left c.in-Some.text.now (c.in-None-read_functional_value.ensures.none refl))

pub returns-then-has_room-clause-some : goal.returns-then-has_room-clause-some
unfolding functional_text
returns-then-has_room-clause-some c =
    let read = c.in-Some-read_functional_value.ensures.some in
    let room = c.has_room.ensures.0 c.if-has_room.true in
    (record { value = read.0; later = room.0; room = room.1 }, line_front (functional_inside c.in-Some-read_functional_value.value) c.in-Some.text.now c.in-Some.rest.now c.args.bytes.now read.1 c.in-Some.ensures.some.0)

pub returns-else-has_room-clause-none : goal.returns-else-has_room-clause-none
unfolding functional_text
returns-else-has_room-clause-none c _ =
    let read = c.in-Some-read_functional_value.ensures.some in
    line_value_at (IsLater c.args.a c.args.corank c.args.low c.args.left) functional_inside c.args.bytes.now c.in-Some.text.now c.in-Some.rest.now (λ v h. value_clean c.args.a c.args.corank v h.value) c.in-Some.ensures.some.1 c.in-Some.ensures.some.0
    (no_room c.args.a c.args.corank c.args.low c.args.left c.in-Some-read_functional_value.value c.in-Some.text.now read.0 read.1 (λ h. let yes_room = c.has_room.ensures.1 h in let other = c.if-has_room.false in absurd (cc (yes_room, other))))
