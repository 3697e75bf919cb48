use Rattle.std.proofs.Common.{◌≡◌, ◌≤◌, length, take}
use Rattle.lin_row.specs.Lines.{dot, entry}
use Rattle.lin_row.proofs.excluded.value_on.Given as goal

abbrev pub invariant-loop-t : goal.invariant-loop-t
invariant-loop-t g l =
    let r = g.R.Ring.meaning l.ring in
    record {
      within : l.t-index ≤ length l.row;
      elem : r.is_elem l.sum;
      value : r.value l.sum ≡ dot r (take l.t-index l.row) (entry r l.values);
    }
