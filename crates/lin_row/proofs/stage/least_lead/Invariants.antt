use Rattle.std.proofs.Common.{◌≡◌, ◌≢◌, ◌≤◌, length, take}
use Rattle.lin_row.specs.Lines.{EachOf, lead_of}
use Rattle.lin_row.specs.Stages.{items_of}
use Rattle.lin_row.proofs.stage.least_lead.Given as goal

abbrev pub invariant-loop-row : goal.invariant-loop-row
invariant-loop-row g l = record {
  within : l.row-index ≤ length l.rows;
  bound : l.least ≤ 4294967296;
  least : EachOf (λ r. l.least ≤ lead_of r) (items_of (take l.row-index l.rows));
  some : EachOf (λ r. lead_of r ≢ l.least) (items_of (take l.row-index l.rows)) → l.least ≡ 4294967296;
}
