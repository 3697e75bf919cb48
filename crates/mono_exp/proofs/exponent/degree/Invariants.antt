use Rattle.std.proofs.Common.{◌≡◌, ◌≤◌, sum, take, ◌*◌}
use Rattle.mono_exp.proofs.exponent.degree.Given as goal

abbrev pub invariant-loop-x : goal.invariant-loop-x
invariant-loop-x l = record {
  so_far : l.total ≡ sum (take l.x-index l.x-items);
  bound : l.total ≤ 255 * l.x-index;
}
