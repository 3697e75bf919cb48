use Rattle.line_io.proofs.Reading.{gathers_none, gathers_small, gathers_more, hands_out_ended, hands_out_rest, not_after, no_line, passes_limit, still, takes_more, went_on}
use Rattle.line_io.proofs.lines.Lines.next_line.Goals as goal
use Rattle.std.proofs.Common.{rules, refl, arith, inr, sym, ◌∙◌}

pub loop-self-init : goal.loop-self-init
loop-self-init g c = gathers_none c.args.self.now _ _ _ c.clear.ensures refl refl refl (omega (arith, c.if-self-gt-INPUT_LIMIT.false)) c.if-self.false

pub gather-requires : goal.gather-requires
gather-requires g c = record { small = gathers_small _ c.loop-self.self _ _ _ _ c.loop-self.invariant c.args.self.now.small }

pub returns-then-gather-clause-line : goal.returns-then-gather-clause-line
returns-then-gather-clause-line g c = λ _. hands_out_ended _ c.loop-self.self _ _ _ _ _ _ _ c.loop-self.invariant (c.if-gather.ensures.found refl) c.gather.ensures.same.0 c.gather.ensures.same.1 c.finish.ensures.line

pub returns-then-gather-clause-end : goal.returns-then-gather-clause-end
returns-then-gather-clause-end g c = λ e. not_after _ c.loop-self.self _ _ _ _ _ _ _ _ _ c.loop-self.invariant (c.if-gather.ensures.found refl).3 c.finish.ensures.line e refl

pub returns-then-gather-clause-fault : goal.returns-then-gather-clause-fault
returns-then-gather-clause-fault g c = λ e. not_after _ c.loop-self.self _ _ _ _ _ _ _ _ _ c.loop-self.invariant (c.if-gather.ensures.found refl).3 c.finish.ensures.line e refl

pub returns-then-gather-clause-limit : goal.returns-then-gather-clause-limit
returns-then-gather-clause-limit g c = (
  (λ e. not_after _ c.loop-self.self _ _ _ _ _ _ _ _ _ c.loop-self.invariant (c.if-gather.ensures.found refl).3 c.finish.ensures.line e refl),
  (λ more. absurd (omega (arith, more, c.gather.ensures.same.0, c.loop-self.invariant.open_still))),
)

pub returns-then-self-2-clause-line : goal.returns-then-self-2-clause-line
returns-then-self-2-clause-line g c = λ _. hands_out_rest _ c.loop-self.self _ _ _ _ _ _ _ c.loop-self.invariant (c.if-gather.ensures.all refl) c.gather.ensures.same.0 c.if-self-2.true (search rules) c.finish-then-self-2.ensures.line

pub returns-then-self-2-clause-end : goal.returns-then-self-2-clause-end
returns-then-self-2-clause-end g c = λ e. not_after _ c.loop-self.self _ _ _ _ _ _ _ _ _ c.loop-self.invariant (c.if-gather.ensures.all refl).2 c.finish-then-self-2.ensures.line e refl

pub returns-then-self-2-clause-fault : goal.returns-then-self-2-clause-fault
returns-then-self-2-clause-fault g c = λ e. not_after _ c.loop-self.self _ _ _ _ _ _ _ _ _ c.loop-self.invariant (c.if-gather.ensures.all refl).2 c.finish-then-self-2.ensures.line e refl

pub returns-then-self-2-clause-limit : goal.returns-then-self-2-clause-limit
returns-then-self-2-clause-limit g c = (
  (λ e. not_after _ c.loop-self.self _ _ _ _ _ _ _ _ _ c.loop-self.invariant (c.if-gather.ensures.all refl).2 c.finish-then-self-2.ensures.line e refl),
  (λ more. absurd (omega (arith, more, c.gather.ensures.same.0, c.loop-self.invariant.open_still))),
)

pub returns-in-Err-clause-fault : goal.returns-in-Err-clause-fault
returns-in-Err-clause-fault g c =
    let failed = c.in-Err.ensures.failed in
    λ _. (c.in-Err.ensures.stopped.3, inr (omega (arith, failed.0, c.loop-self.invariant.rises), no_line _ c.loop-self.self _ _ _ _ _ c.loop-self.invariant (c.if-gather.ensures.all refl).0 (sym c.gather.ensures.same.1 ∙ c.if-self-2.false) failed.1))

pub returns-then-self-gt-INPUT_LIMIT-2-clause-taken : goal.returns-then-self-gt-INPUT_LIMIT-2-clause-taken
returns-then-self-gt-INPUT_LIMIT-2-clause-taken g c = takes_more _ c.loop-self.self c.fill.new.self _ _ _ _ _ _ c.loop-self.invariant c.gather.ensures.same.0 c.in-Ok.ensures.ok c.in-Ok.ensures.counted

pub loop-self-preserved : goal.loop-self-preserved
loop-self-preserved g c =
    gathers_more _ c.loop-self.self c.gather.new.self _ _ _ _ _ _ _ c.loop-self.invariant c.gather.ensures.same (c.if-gather.ensures.all refl) c.if-self-2.false
    c.in-Ok.ensures.ok c.in-Ok.ensures.counted c.in-Ok.ensures.line c.in-Ok.ensures.sound c.in-Ok.ensures.ended (omega (arith, c.if-self-gt-INPUT_LIMIT-2.false)) c.fill.new.self.small c.in-Ok.ensures.later

pub returns-then-self-gt-INPUT_LIMIT-2-clause-passed : goal.returns-then-self-gt-INPUT_LIMIT-2-clause-passed
returns-then-self-gt-INPUT_LIMIT-2-clause-passed g c =
    λ _. inr (passes_limit _ c.loop-self.self c.gather.new.self c.fill.new.self _ _ _ _ _ c.loop-self.invariant c.gather.ensures.same (c.if-gather.ensures.all refl).0 c.if-self-2.false
    c.in-Ok.ensures.ok c.in-Ok.ensures.counted (omega (arith, c.if-self-gt-INPUT_LIMIT-2.true)) c.fill.new.self.small)

pub returns-then-gather-clause-passed : goal.returns-then-gather-clause-passed
returns-then-gather-clause-passed g c = λ e. not_after _ c.loop-self.self _ _ _ _ _ _ _ _ _ c.loop-self.invariant (c.if-gather.ensures.found refl).3 c.finish.ensures.line e refl

pub returns-then-self-2-clause-passed : goal.returns-then-self-2-clause-passed
returns-then-self-2-clause-passed g c = λ e. not_after _ c.loop-self.self _ _ _ _ _ _ _ _ _ c.loop-self.invariant (c.if-gather.ensures.all refl).2 c.finish-then-self-2.ensures.line e refl

pub returns-then-gather-clause-still : goal.returns-then-gather-clause-still
returns-then-gather-clause-still g c = still _ c.loop-self.self _ _ _ _ _ c.loop-self.invariant c.if-self.false (omega (arith, c.if-self-gt-INPUT_LIMIT.false)) c.gather.ensures.same.0

pub returns-then-self-2-clause-still : goal.returns-then-self-2-clause-still
returns-then-self-2-clause-still g c = still _ c.loop-self.self _ _ _ _ _ c.loop-self.invariant c.if-self.false (omega (arith, c.if-self-gt-INPUT_LIMIT.false)) c.gather.ensures.same.0

pub returns-in-Err-clause-still : goal.returns-in-Err-clause-still
returns-in-Err-clause-still g c =
    λ d. went_on _ c.loop-self.self _ _ _ _ c.loop-self.invariant (c.if-gather.ensures.all refl).0 (sym c.gather.ensures.same.1 ∙ c.if-self-2.false) c.if-self.false (omega (arith, c.if-self-gt-INPUT_LIMIT.false)) d

pub returns-then-self-gt-INPUT_LIMIT-2-clause-still : goal.returns-then-self-gt-INPUT_LIMIT-2-clause-still
returns-then-self-gt-INPUT_LIMIT-2-clause-still g c =
    λ d. went_on _ c.loop-self.self _ _ _ _ c.loop-self.invariant (c.if-gather.ensures.all refl).0 (sym c.gather.ensures.same.1 ∙ c.if-self-2.false) c.if-self.false (omega (arith, c.if-self-gt-INPUT_LIMIT.false)) d
