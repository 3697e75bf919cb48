use Rattle.germ_cli.proofs.Classifying.{Going}
use Rattle.germ_cli.proofs.classification.classify_lines.Given as goal
use Rattle.std.proofs.Common.{◌-◌, ◌≤◌, length}

abbrev pub invariant-loop-status : goal.invariant-loop-status
invariant-loop-status g l = record {
  going : Going l.limit (g.S.Source.left l.fn.source) (g.S.Source.left l.source) l.lines (g.W.Sink.taken l.fn.sink) (g.W.Sink.taken l.sink);
  read : g.S.Source.faults l.fn.source ≤ g.S.Source.faults l.source;
  written : g.W.Sink.faults l.fn.sink ≤ g.W.Sink.faults l.sink;
}

abbrev pub decreases-loop-status : goal.decreases-loop-status
decreases-loop-status g l = 16777217 - (l.lines.taken - length l.lines.buffer)
