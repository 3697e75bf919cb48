use Rattle.std.proofs.Common.{arith, sym, ◌∙◌, subst, List, ℕ}
use Rattle.germ_cli.proofs.Classifying.{all_written, ends, ends_early, ends_memory, ends_write, falls, going_more, going_none, is_line, is_next, is_unbroken, still_small, still_sound, text_is}
use Rattle.germ_cli.proofs.classification.classify_lines.Goals as goal
use Rattle.line_io.specs.Bytes.{AppendsFront}
use Rattle.std.specs.Io.KnownBytes.{Appends}

pub returns-in_default-clause-classifies : goal.returns-in_default-clause-classifies
returns-in_default-clause-classifies g c = ends_early _ _ _

pub loop-status-init : goal.loop-status-init
loop-status-init g c = record { going = going_none _ _ _ _ c.in-Ok.ensures.fresh; read = omega arith; written = omega arith }

pub returns-in-Some-clause-classifies : goal.returns-in-Some-clause-classifies
returns-in-Some-clause-classifies g c =
    let n = c.next_line-next.ensures in
    let going = c.loop-status.invariant.going in
    ends _ _ _ _ _ _ c.loop-status.lines c.next_line-next.new.self _ _ c.in-Some.ensures going (is_next _ _ _ _ _ _ c.loop-status.lines c.next_line-next.new.self _ going n.end n.fault n.limit n.passed n.taken n.ended)

pub text_for-requires-clause-unbroken : goal.text_for-requires-clause-unbroken
text_for-requires-clause-unbroken g c =
    let n = c.next_line-next.ensures in
    is_unbroken c.loop-status.lines c.next_line-next.new.self _ _ c.next_line-next.result c.line.result.now (n.line (is_line c.next_line-next.result c.in_default-end_of.ensures)) c.line.ensures

pub returns-in_default-text_for-clause-classifies : goal.returns-in_default-text_for-clause-classifies
returns-in_default-text_for-clause-classifies g c =
    let n = c.next_line-next.ensures in
    ends_memory _ _ _ _ _ _ c.loop-status.lines c.next_line-next.new.self c.loop-status.invariant.going n.taken (still_small c.next_line-next.result _ c.in_default-end_of.ensures n.limit)

pub returns-then-is_err-clause-classifies : goal.returns-then-is_err-clause-classifies
returns-then-is_err-clause-classifies g c =
    let n = c.next_line-next.ensures in
    let going = c.loop-status.invariant.going in
    let h = n.line (is_line c.next_line-next.result c.in_default-end_of.ensures) in
    let P : List ℕ → Type 0 = λ x. AppendsFront (g.W.Sink.taken c.loop-status.sink) (g.W.Sink.taken c.write_whole.new.sink) x in
    ends_write _ _ _ _ _ _ _ c.loop-status.lines c.next_line-next.new.self c.next_line-next.result c.in-Ok-text_for.text.items going h
    (is_next _ _ _ _ _ _ c.loop-status.lines c.next_line-next.new.self _ going n.end n.fault n.limit n.passed n.taken n.ended) (still_small c.next_line-next.result _ c.in_default-end_of.ensures n.limit)
    (text_is _ _ _ _ _ _ _ _ h c.line.ensures c.in-Ok-text_for.ensures) (subst P c.deref.ensures.value c.write_whole.ensures.front)

pub loop-status-smaller : goal.loop-status-smaller
loop-status-smaller g c =
    let n = c.next_line-next.ensures in
    falls _ _ _ _ _ _ c.loop-status.lines c.next_line-next.new.self c.next_line-next.result c.loop-status.invariant.going (n.line (is_line c.next_line-next.result c.in_default-end_of.ensures))
    (still_small c.next_line-next.result _ c.in_default-end_of.ensures n.limit)

pub loop-status-preserved : goal.loop-status-preserved
loop-status-preserved g c =
    let n = c.next_line-next.ensures in
    let going = c.loop-status.invariant.going in
    let h = n.line (is_line c.next_line-next.result c.in_default-end_of.ensures) in
    let P : List ℕ → Type 0 = λ x. Appends (g.W.Sink.taken c.loop-status.sink) (g.W.Sink.taken c.write_whole.new.sink) x in
    record {
      going =
          going_more _ _ _ _ _ _ _ c.loop-status.lines c.next_line-next.new.self c.next_line-next.result c.in-Ok-text_for.text.items going h
          (is_next _ _ _ _ _ _ c.loop-status.lines c.next_line-next.new.self _ going n.end n.fault n.limit n.passed n.taken n.ended) (still_small c.next_line-next.result _ c.in_default-end_of.ensures n.limit)
          (still_sound _ _ c.next_line-next.result going.sound c.in_default-end_of.ensures n.sound) (text_is _ _ _ _ _ _ _ _ h c.line.ensures c.in-Ok-text_for.ensures)
          (subst P c.deref.ensures.value (all_written c.write_whole.result _ (sym c.is_err.ensures.value ∙ c.if-is_err.false) c.write_whole.ensures.whole));
      read = omega (arith, c.loop-status.invariant.read, n.later);
      written = omega (arith, c.loop-status.invariant.written, c.write_whole.ensures.later);
    }
