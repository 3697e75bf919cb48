use Rattle.line_io.proofs.Collecting.{collects_line, collects_more, collects_none, gives_ended, gives_rest, no_chunk, passes_limit, takes_more, undecided, was_going}
use Rattle.line_io.proofs.lines.Lines.next_chunk.Goals as goal
use Rattle.std.proofs.Common.{rules, arith, inr, sym, ◌∙◌}

pub loop-found-init : goal.loop-found-init
loop-found-init g c = collects_none c.args.self.now _ _ _ c.new-chunk.ensures (omega (arith, c.if-self-gt-CHUNKS_LIMIT.false)) c.if-self-2.false c.if-self.false

pub returns-then-is_ended-clause-chunk : goal.returns-then-is_ended-clause-chunk
returns-then-is_ended-clause-chunk g c =
    gives_ended c.args.self.now c.loop-found.self c.collect.new.self _ _ _ _ _ _ _ c.loop-found.invariant c.collect.ensures.same (c.in-Ok.ensures.found (search rules)) (search rules) c.into_bytes.ensures

pub loop-found-preserved-then-found : goal.loop-found-preserved-then-found
loop-found-preserved-then-found g c =
    collects_line c.args.self.now c.loop-found.self c.collect.new.self _ _ _ _ _ _ _ c.loop-found.invariant c.collect.ensures.same (c.in-Ok.ensures.found (search rules)) (search rules) c.begin_line.ensures

pub returns-then-self-3-clause-chunk : goal.returns-then-self-3-clause-chunk
returns-then-self-3-clause-chunk g c =
    gives_rest c.args.self.now c.loop-found.self c.collect.new.self _ _ _ _ _ _ _ c.loop-found.invariant c.collect.ensures.same (c.in-Ok.ensures.all (search rules)) c.if-self-3.true (search rules) c.into_bytes-then-self-3.ensures

pub returns-in-Err-clause-fault : goal.returns-in-Err-clause-fault
returns-in-Err-clause-fault g c =
    let failed = c.in-Err.ensures.failed in
    λ _. (c.in-Err.ensures.stopped.3, inr (omega (arith, failed.0, c.loop-found.invariant.rises), no_chunk _ c.loop-found.self _ _ _ _ _ _ c.loop-found.invariant (c.in-Ok.ensures.all (search rules)).0 (sym c.collect.ensures.same.1 ∙ c.if-self-3.false) failed.1))

pub returns-in-Err-clause-unread : goal.returns-in-Err-clause-unread
returns-in-Err-clause-unread g c =
    let was = was_going _ c.loop-found.self _ _ _ _ _ c.loop-found.invariant (c.in-Ok.ensures.all (search rules)).0 (sym c.collect.ensures.same.1 ∙ c.if-self-3.false) in
    λ d. undecided c.args.self.now was.0 was.1 c.if-self-2.false c.if-self.false (omega (arith, c.if-self-gt-CHUNKS_LIMIT.false)) d

pub returns-then-self-gt-CHUNKS_LIMIT-2-clause-passed : goal.returns-then-self-gt-CHUNKS_LIMIT-2-clause-passed
returns-then-self-gt-CHUNKS_LIMIT-2-clause-passed g c =
    λ _. inr (passes_limit _ c.loop-found.self c.fill.new.self _ _ _ _ _ _ _ c.loop-found.invariant (c.in-Ok.ensures.all (search rules)).0 (sym c.collect.ensures.same.1 ∙ c.if-self-3.false) c.collect.ensures.same.0
    c.in-Ok-fill.ensures.ok c.in-Ok-fill.ensures.counted (omega (arith, c.if-self-gt-CHUNKS_LIMIT-2.true)) c.fill.new.self.small)

pub returns-then-self-gt-CHUNKS_LIMIT-2-clause-taken : goal.returns-then-self-gt-CHUNKS_LIMIT-2-clause-taken
returns-then-self-gt-CHUNKS_LIMIT-2-clause-taken g c =
    takes_more _ c.loop-found.self c.fill.new.self _ _ _ _ _ _ _ c.loop-found.invariant (c.in-Ok.ensures.all (search rules)).0 c.collect.ensures.same.0 c.in-Ok-fill.ensures.ok c.in-Ok-fill.ensures.counted c.fill.new.self.small

pub returns-then-self-gt-CHUNKS_LIMIT-2-clause-unread : goal.returns-then-self-gt-CHUNKS_LIMIT-2-clause-unread
returns-then-self-gt-CHUNKS_LIMIT-2-clause-unread g c =
    let was = was_going _ c.loop-found.self _ _ _ _ _ c.loop-found.invariant (c.in-Ok.ensures.all (search rules)).0 (sym c.collect.ensures.same.1 ∙ c.if-self-3.false) in
    λ d. undecided c.args.self.now was.0 was.1 c.if-self-2.false c.if-self.false (omega (arith, c.if-self-gt-CHUNKS_LIMIT.false)) d

pub loop-found-preserved : goal.loop-found-preserved
loop-found-preserved g c =
    collects_more _ c.loop-found.self c.collect.new.self c.fill.new.self _ _ _ _ _ _ _ _ c.loop-found.invariant c.collect.ensures.same (c.in-Ok.ensures.all (search rules)) c.if-self-3.false
    c.in-Ok-fill.ensures.ok c.in-Ok-fill.ensures.counted c.in-Ok-fill.ensures.sound c.in-Ok-fill.ensures.memory c.in-Ok-fill.ensures.ended (omega (arith, c.if-self-gt-CHUNKS_LIMIT-2.false)) c.fill.new.self.small c.in-Ok-fill.ensures.later

pub returns-in-Err-clause-still : goal.returns-in-Err-clause-still
returns-in-Err-clause-still g c =
    let was = was_going _ c.loop-found.self _ _ _ _ _ c.loop-found.invariant (c.in-Ok.ensures.all (search rules)).0 (sym c.collect.ensures.same.1 ∙ c.if-self-3.false) in
    λ d. undecided c.args.self.now was.0 was.1 c.if-self-2.false c.if-self.false (omega (arith, c.if-self-gt-CHUNKS_LIMIT.false)) d

pub returns-then-self-gt-CHUNKS_LIMIT-2-clause-still : goal.returns-then-self-gt-CHUNKS_LIMIT-2-clause-still
returns-then-self-gt-CHUNKS_LIMIT-2-clause-still g c =
    let was = was_going _ c.loop-found.self _ _ _ _ _ c.loop-found.invariant (c.in-Ok.ensures.all (search rules)).0 (sym c.collect.ensures.same.1 ∙ c.if-self-3.false) in
    λ d. undecided c.args.self.now was.0 was.1 c.if-self-2.false c.if-self.false (omega (arith, c.if-self-gt-CHUNKS_LIMIT.false)) d
