use Rattle.line_io.proofs.Collecting.{Collects}
use Rattle.line_io.proofs.lines.Lines.next_chunk.Given as goal
use Rattle.std.proofs.Common.{◌+◌, ◌*◌, ◌-◌, cond, length}

abbrev pub invariant-loop-found : goal.invariant-loop-found
invariant-loop-found g l = Collects l.fn.self l.self l.chunk (g.S.Source.left l.initial.source) (g.S.Source.left l.source) (g.S.Source.faults l.initial.source) (g.S.Source.faults l.source)

abbrev pub decreases-loop-found : goal.decreases-loop-found
decreases-loop-found g l = (268435457 - l.self.taken) * 2 + cond l.self.ended 0 1 + length l.self.buffer
