use Rattle.std.proofs.Common.{refl}
use Rattle.std.specs.List.{flat_map}
use Rattle.cert_text.specs.Text.{functional_text}
use Rattle.report_reader.specs.Functional.{AreFrom, IsFunctional, functional_lines}
use Rattle.report_reader.proofs.Stops.{halt_map}
use Rattle.report_reader.proofs.FunctionalLines.{behind_head, functional_read, head_stop}
use Rattle.report_reader.proofs.functional.read_functional.Goals as goal

pub returns-in-None-clause-halt : goal.returns-in-None-clause-halt
returns-in-None-clause-halt c = head_stop c.args.a c.args.corank c.args.bytes.now c.requires (c.in-None.ensures.none refl)

pub returns-in-Err-clause-halt : goal.returns-in-Err-clause-halt
returns-in-Err-clause-halt c =
    let head = c.in-Some.ensures.some in
    halt_map (AreFrom c.args.a c.args.corank 0 c.in-Some.head.1) (flat_map functional_text) c.in-Some.rest.now (IsFunctional c.args.a c.args.corank) functional_lines c.args.bytes.now
    (λ left s. behind_head c.args.a c.args.corank c.in-Some.head c.args.bytes.now c.in-Some.rest.now left c.requires head.0 head.1 s) c.in-Err.halt c.in-Err.ensures.halt

pub returns-in-Ok-clause-ok : goal.returns-in-Ok-clause-ok
returns-in-Ok-clause-ok c =
    let head = c.in-Some.ensures.some in
    let read = c.in-Ok.ensures.ok in
    functional_read c.args.a c.args.corank c.in-Some.head c.in-Ok.values c.args.bytes.now c.in-Some.rest.now c.in-Ok.end.now c.requires head.0 head.1 read.0 read.1
