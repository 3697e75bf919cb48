use Rattle.std.proofs.Common.{◌≢◌, take}
use Rattle.lin_row.specs.Lines.{EachOf, lead_of}
use Rattle.lin_row.specs.Stages.{items_of}
use Rattle.lin_row.proofs.stage.first_with.Given as goal

abbrev pub invariant-loop-i : goal.invariant-loop-i
invariant-loop-i g l = EachOf (λ r. lead_of r ≢ l.column) (items_of (take l.i l.rows))
