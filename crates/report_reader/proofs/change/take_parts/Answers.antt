use Rattle.std.proofs.Common.{arith}
use Rattle.report_reader.proofs.Found.{some_is}
use Rattle.report_reader.proofs.PartLines.{many_same_value, many_start, many_more, more_lines, too_few}
use Rattle.report_reader.specs.States.{pushed}
use Rattle.report_reader.proofs.change.take_parts.Goals as goal

pub loop-count-init : goal.loop-count-init
loop-count-init c = many_start c.args.frame c.args.n c.new-parts.result c.args.bytes.now c.new-parts.ensures

pub returns-in-Ok-None-clause-none : goal.returns-in-Ok-None-clause-none
returns-in-Ok-None-clause-none c _ =
    let i = c.loop-count.invariant in
    too_few c.args.frame c.args.n c.loop-count.count c.args.n c.loop-count.parts c.args.bytes.now c.loop-count.rest.now c.requires.frame i.0 (omega (arith, c.loop-count-test.true)) i.1 (c.in-Ok-None.ensures.none c.in-Ok-None.field-0-is)

pub loop-count-preserved : goal.loop-count-preserved
loop-count-preserved c =
    let i = c.loop-count.invariant in
    let q = c.in-Ok-Some.part in
    let read = some_is c.in-Ok-Some.field-0 (q, c.in-Ok-Some.after) _ c.in-Ok-Some.field-0-is c.in-Ok-Some.ensures.some in
    let more = many_more c.args.frame c.args.n c.loop-count.count c.loop-count.parts q i.0 read.0 in
    let text = more_lines c.args.frame c.args.n c.loop-count.count c.loop-count.parts q c.loop-count.rest.now c.in-Ok-Some.after.now c.args.bytes.now i.0 i.1 read.1 in
    many_same_value c.args.frame c.args.n _ c.push.new.self (pushed c.loop-count.parts q) c.in-Ok-Some.after.now c.args.bytes.now c.in-Ok.ensures more text
