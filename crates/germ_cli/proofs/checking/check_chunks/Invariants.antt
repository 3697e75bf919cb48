use Rattle.germ_cli.proofs.CheckingChunks.{Going}
use Rattle.germ_cli.proofs.checking.check_chunks.Given as goal
use Rattle.std.proofs.Common.{◌-◌, ◌≤◌, length}

abbrev pub invariant-loop-chunk : goal.invariant-loop-chunk
invariant-loop-chunk g l = record {
  going : Going (g.S.Source.left l.fn.source) (g.S.Source.left l.source) l.lines (g.W.Sink.taken l.fn.sink) (g.W.Sink.taken l.sink) l.invalid;
  read : g.S.Source.faults l.fn.source ≤ g.S.Source.faults l.source;
  written : g.W.Sink.faults l.fn.sink ≤ g.W.Sink.faults l.sink;
}

abbrev pub decreases-loop-chunk : goal.decreases-loop-chunk
decreases-loop-chunk g l = 268435457 - (l.lines.taken - length l.lines.buffer)
