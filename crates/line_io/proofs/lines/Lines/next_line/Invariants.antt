use Rattle.line_io.proofs.Reading.{Gathers}
use Rattle.line_io.proofs.lines.Lines.next_line.Given as goal
use Rattle.std.proofs.Common.{◌+◌, ◌*◌, ◌-◌, cond}

abbrev pub invariant-loop-self : goal.invariant-loop-self
invariant-loop-self g l = Gathers l.fn.self l.self (g.S.Source.left l.initial.source) (g.S.Source.left l.source) (g.S.Source.faults l.initial.source) (g.S.Source.faults l.source)

abbrev pub decreases-loop-self : goal.decreases-loop-self
decreases-loop-self g l = (16777217 - l.self.taken) * 2 + cond l.self.ended 0 1
