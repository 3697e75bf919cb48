use Rattle.std.proofs.Common.{◌≤◌, arith}
use Rattle.lin_row.specs.Lines.{lead_of}
use Rattle.lin_row.specs.Stages.{items_of}
use Rattle.lin_row.proofs.StageLaws
use Rattle.lin_row.proofs.stage.next_row.Goals as goal

pub returns-then-least-ge-UNITS : goal.returns-then-least-ge-UNITS
returns-then-least-ge-UNITS g c =
    StageLaws.each_weaker (λ r. c.least_lead-least.result ≤ lead_of r) (λ r. 4294967296 ≤ lead_of r) (items_of c.args.rows.now) (λ r h. omega arith) c.least_lead-least.ensures.least

pub returns : goal.returns
returns g c =
    StageLaws.next_least c.args.rows.now c.first_with.result 4294967296 c.least_lead-least.result c.if-least-ge-UNITS.false c.least_lead-least.ensures.least c.least_lead-least.ensures.some c.first_with.ensures.none c.first_with.ensures.found c.first_with.ensures.first
