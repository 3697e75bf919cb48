use Rattle.determinator.specs.Turns.{IsAheadBy, IsRunning}
use Rattle.determinator.proofs.run.run_from.Given as goal

abbrev pub invariant-loop-o : goal.invariant-loop-o
invariant-loop-o g l = record {
  running : IsRunning l.names l.corank l.last l.o l.step;
  ahead : IsAheadBy l.names l.corank l.last 2 l.initial.step l.o l.step;
}
