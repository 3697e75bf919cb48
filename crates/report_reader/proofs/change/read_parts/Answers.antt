use Rattle.std.proofs.Common.{refl, arith}
use Rattle.report_reader.proofs.Found.{some_is}
use Rattle.report_reader.proofs.PartLines.{parts_stop, no_inverse, none_so_many, parts_read, parts_are}
use Rattle.report_reader.proofs.change.read_parts.Goals as goal
use Rattle.report_reader.proofs.change.read_parts.Goals.{then-count-eq0-via-then-count-eq0, then-count-eq0-via-else-count-eq0+then-count-frame}

pub returns-in-None-clause-halt : goal.returns-in-None-clause-halt
returns-in-None-clause-halt c =
    let p = c.in-Ok.ensures in
    parts_stop c.args.frame c.in-Ok.passed.0 p.passed c.args.bytes.now c.in-Ok.passed.1.now c.requires.frame p.parts p.few p.text p.next
    (no_inverse c.args.frame c.in-Ok.passed.0 p.passed c.args.bytes.now c.in-Ok.passed.1.now c.requires.frame p.parts p.text (c.in-None.ensures.none refl))

pub returns-then-count-eq0-clause-halt : goal.returns-then-count-eq0-clause-halt
returns-then-count-eq0-clause-halt c =
    let p = c.in-Ok.ensures in
    parts_stop c.args.frame c.in-Ok.passed.0 p.passed c.args.bytes.now c.in-Ok.passed.1.now c.requires.frame p.parts p.few p.text p.next
    (λ v more ok size e.
    let a = ok.some_name in
    let b = ok.corank in
    elim c.then-count-eq0.branch [
      | then-count-eq0-via-then-count-eq0 w ↦ (let t = w.if-count-eq0.true in omega (arith, a, size, t))
      | then-count-eq0-via-else-count-eq0+then-count-frame w ↦ (let t = w.if-count-frame.true in omega (arith, b, size, t))
    ])

pub returns-in-Ok-None-clause-halt : goal.returns-in-Ok-None-clause-halt
returns-in-Ok-None-clause-halt c =
    let p = c.in-Ok.ensures in
    parts_stop c.args.frame c.in-Ok.passed.0 p.passed c.args.bytes.now c.in-Ok.passed.1.now c.requires.frame p.parts p.few p.text p.next
    (none_so_many c.args.frame c.in-Ok.passed.0 c.args.bytes.now (c.in-Ok-None.ensures.none c.in-Ok-None.field-0-is))

pub returns-in-Ok-Some-clause-ok : goal.returns-in-Ok-Some-clause-ok
returns-in-Ok-Some-clause-ok c =
    let p = c.in-Ok.ensures in
    let read = some_is c.in-Ok-Some.field-0 (c.in-Ok-Some.parts, c.in-Ok-Some.field-0-0-1) _ c.in-Ok-Some.field-0-is c.in-Ok-Some.ensures.some in
    let count = c.in-Ok.passed.0 in
    let few = p.few in
    let some = c.if-count-eq0.false in
    let corank = c.if-count-frame.false in (
      parts_are c.args.frame count c.in-Ok-Some.parts read.0 (omega (arith, some)) few corank,
      parts_read c.args.frame count p.passed c.in-Ok-Some.parts c.args.bytes.now c.in-Ok.passed.1.now c.in-Some.rest.now c.in-Ok-Some.field-0-0-1.now c.requires.frame p.parts p.text read.0 read.1 c.in-Some.ensures.some,
    )
