use Rattle.germ_cli.proofs.CheckingChunks.{chunk_of, ends_done, ends_early, ends_fault, ends_limit, ends_memory, ends_write, falls, going_more, going_none, or_else, or_then, small_in_memory, still_small, still_sound}
use Rattle.germ_cli.proofs.checking.check_chunks.Goals as goal
use Rattle.germ_cli.proofs.checking.check_chunks.Goals.{then-invalid, else-invalid}
use Rattle.germ_cli.specs.Checking.{IsAnswerTo}
use Rattle.line_io.specs.Bytes.{AppendsFront}
use Rattle.std.proofs.Common.{◌≡◌, ℕ, List, Ok, arith, ap, sym, ◌∙◌, subst}
use Rattle.std.specs.Io.KnownBytes.{Appends}
use Rattle.std.specs.Prelude.{◌||◌}
use Rattle.germ_cli.proofs.Classifying.{all_written}

pub returns-in_default-clause-checks : goal.returns-in_default-clause-checks
returns-in_default-clause-checks g c = ends_early _ _

pub loop-chunk-init : goal.loop-chunk-init
loop-chunk-init g c = record { going = going_none _ _ _ c.in-Ok.ensures.fresh; read = omega arith; written = omega arith }

pub returns-in_default-next_chunk-clause-checks : goal.returns-in_default-next_chunk-clause-checks
returns-in_default-next_chunk-clause-checks g c =
    let going = c.loop-chunk.invariant.going in
    ends_memory _ _ _ _ _ c.loop-chunk.lines c.next_chunk.new.self _ going c.next_chunk.ensures.taken (small_in_memory c.loop-chunk.lines _ going.in_memory c.in_default-next_chunk.ensures.memory.1)

pub returns-in-End-clause-checks : goal.returns-in-End-clause-checks
returns-in-End-clause-checks g c =
    let n = c.in-Ok-next_chunk.ensures in
    ends_done _ _ _ _ _ c.loop-chunk.lines c.next_chunk.new.self _ _ c.loop-chunk.invariant.going (n.end (ap Ok c.in-End.is)) n.ended n.taken
    (still_small c.in-Ok-next_chunk.chunk _ (λ e. let is = c.in-End.is in cc) n.limit) c.end_of.ensures

pub returns-in-ReadFault-clause-checks : goal.returns-in-ReadFault-clause-checks
returns-in-ReadFault-clause-checks g c =
    let n = c.in-Ok-next_chunk.ensures in
    ends_fault _ _ _ _ _ c.loop-chunk.lines c.next_chunk.new.self _ c.loop-chunk.invariant.going (n.fault (ap Ok c.in-ReadFault.is)).1 n.taken
    (still_small c.in-Ok-next_chunk.chunk _ (λ e. let is = c.in-ReadFault.is in cc) n.limit)

pub returns-in-InputLimit-clause-checks : goal.returns-in-InputLimit-clause-checks
returns-in-InputLimit-clause-checks g c =
    let n = c.in-Ok-next_chunk.ensures in
    ends_limit _ _ _ _ _ c.loop-chunk.lines c.next_chunk.new.self _ c.loop-chunk.invariant.going (n.passed (ap Ok c.in-InputLimit.is)) n.taken (n.limit.0 c.in-InputLimit.is)

pub returns-in_default-answer_to-clause-checks : goal.returns-in_default-answer_to-clause-checks
returns-in_default-answer_to-clause-checks g c =
    let n = c.in-Ok-next_chunk.ensures in
    ends_memory _ _ _ _ _ c.loop-chunk.lines c.next_chunk.new.self _ c.loop-chunk.invariant.going n.taken (still_small c.in-Ok-next_chunk.chunk _ (λ e. let is = c.in-Bytes.is in cc) n.limit)

pub returns-then-is_err-clause-checks : goal.returns-then-is_err-clause-checks
returns-then-is_err-clause-checks g c =
    let n = c.in-Ok-next_chunk.ensures in
    let P : List ℕ → Type 0 = λ x. AppendsFront (g.W.Sink.taken c.loop-chunk.sink) (g.W.Sink.taken c.write_whole.new.sink) x in
    let Q : List ℕ → Type 0 = λ x. IsAnswerTo x c.in-Ok-answer_to.answer.text.items c.in-Ok-answer_to.answer.invalid in
    ends_write _ _ _ _ _ _ c.loop-chunk.lines c.next_chunk.new.self _ _ c.in-Bytes.bytes.items c.in-Ok-answer_to.answer.text.items c.loop-chunk.invariant.going
    (chunk_of c.in-Ok-next_chunk.chunk c.in-Bytes.bytes _ c.in-Bytes.is n.chunk) n.ended n.taken (still_small c.in-Ok-next_chunk.chunk _ (λ e. let is = c.in-Bytes.is in cc) n.limit)
    (subst Q c.deref.ensures.value c.in-Ok-answer_to.ensures) (subst P c.deref-in-loop-chunk.ensures.value c.write_whole.ensures.front)

pub loop-chunk-smaller : goal.loop-chunk-smaller
loop-chunk-smaller g c =
    let n = c.in-Ok-next_chunk.ensures in
    falls _ _ _ _ _ c.loop-chunk.lines c.next_chunk.new.self _ c.in-Bytes.bytes.items c.loop-chunk.invariant.going
    (chunk_of c.in-Ok-next_chunk.chunk c.in-Bytes.bytes _ c.in-Bytes.is n.chunk) (still_small c.in-Ok-next_chunk.chunk _ (λ e. let is = c.in-Bytes.is in cc) n.limit)

pub loop-chunk-preserved : goal.loop-chunk-preserved
loop-chunk-preserved g c =
    let n = c.in-Ok-next_chunk.ensures in
    let going = c.loop-chunk.invariant.going in
    let P : List ℕ → Type 0 = λ x. Appends (g.W.Sink.taken c.loop-chunk.sink) (g.W.Sink.taken c.write_whole.new.sink) x in
    let Q : List ℕ → Type 0 = λ x. IsAnswerTo x c.in-Ok-answer_to.answer.text.items c.in-Ok-answer_to.answer.invalid in
    let both : c.if-invalid.invalid ≡ (c.loop-chunk.invalid || c.in-Ok-answer_to.answer.invalid) =
    elim c.if-invalid.branch [ then-invalid w ↦ or_then _ _ _ w.if-invalid.true w.invalid-is | else-invalid w ↦ or_else _ _ _ w.if-invalid.false w.invalid-is ] in
    record {
      going =
          going_more _ _ _ _ _ _ c.loop-chunk.lines c.next_chunk.new.self _ _ _ c.in-Bytes.bytes.items c.in-Ok-answer_to.answer.text.items going
          (chunk_of c.in-Ok-next_chunk.chunk c.in-Bytes.bytes _ c.in-Bytes.is n.chunk) n.ended (still_small c.in-Ok-next_chunk.chunk _ (λ e. let is = c.in-Bytes.is in cc) n.limit)
          (still_sound _ _ going.sound (λ e. let is = c.in-Bytes.is in cc) n.sound) n.in_memory (subst Q c.deref.ensures.value c.in-Ok-answer_to.ensures)
          (subst P c.deref-in-loop-chunk.ensures.value (all_written c.write_whole.result _ (sym c.is_err.ensures.value ∙ c.if-is_err.false) c.write_whole.ensures.whole)) both;
      read = omega (arith, c.loop-chunk.invariant.read, n.later);
      written = omega (arith, c.loop-chunk.invariant.written, c.write_whole.ensures.later);
    }
