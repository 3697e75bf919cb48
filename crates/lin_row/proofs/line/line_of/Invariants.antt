use Rattle.std.proofs.Common.{◌≡◌, take}
use Rattle.lin_row.specs.Lines.{AllBelow}
use Rattle.lin_row.proofs.line.line_of.Given as goal

abbrev pub invariant-loop-t : goal.invariant-loop-t
invariant-loop-t g l = record {
  items : l.line.items ≡ take l.t-index l.t-items;
  below : AllBelow 4294967296 (take l.t-index l.t-items);
}
