use Rattle.std.proofs.Common.{◌≤◌, length, map}
use Rattle.kill_table.proofs.Killed.{IsPutTo}
use Rattle.kill_table.proofs.moves.put.Given as goal

abbrev pub invariant-loop-step : goal.invariant-loop-step
invariant-loop-step g l = let m = g.F.Ring.meaning l.field in record {
  within : l.step-index ≤ length l.steps;
  put : IsPutTo m (map m.value l.letters) l.n l.steps l.i l.step-index l.all.items;
}
