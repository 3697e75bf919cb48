use Rattle.std.proofs.Common.{[], arith}
use Rattle.report_reader.proofs.Found.{some_is}
use Rattle.report_reader.proofs.PartLines.{many_none, many_more, more_lines, no_lines}
use Rattle.report_reader.specs.States.{pushed}
use Rattle.report_reader.proofs.change.pass_parts.Goals as goal

pub loop-count-init : goal.loop-count-init
loop-count-init c = (record { names = []; parts = [] }, many_none c.args.frame 8, no_lines c.args.bytes.now)

pub loop-count-preserved : goal.loop-count-preserved
loop-count-preserved c =
    let i = c.loop-count.invariant in
    let q = c.in-Ok-Some.field-0-0-0 in
    let read = some_is c.in-Ok-Some.field-0 (q, c.in-Ok-Some.after) _ c.in-Ok-Some.field-0-is c.in-Ok-Some.ensures.some in
    (pushed i.0 q, many_more c.args.frame 8 c.loop-count.count i.0 q i.1 read.0, more_lines c.args.frame 8 c.loop-count.count i.0 q c.loop-count.rest.now c.in-Ok-Some.after.now c.args.bytes.now i.1 i.2 read.1)

pub returns-in-Ok-None : goal.returns-in-Ok-None
returns-in-Ok-None c = let i = c.loop-count.invariant in record { passed = i.0; parts = i.1; few = omega (arith, c.loop-count-test.true); text = i.2; next = λ lt. c.in-Ok-None.ensures.none c.in-Ok-None.field-0-is }
