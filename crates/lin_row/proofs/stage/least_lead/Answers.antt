use Rattle.std.proofs.Common.{◌≡◌, ◌≢◌, ◌∙◌, ◌≤◌, ap, subst, arith, min, take_all}
use Rattle.lin_row.specs.Lines.{EachOf, lead_of}
use Rattle.lin_row.specs.Stages.{items_of}
use Rattle.lin_row.proofs.StageLaws
use Rattle.lin_row.proofs.stage.least_lead.Goals as goal

pub loop-row-preserved : goal.loop-row-preserved
loop-row-preserved g c =
    let v = c.row-item.result in
    let e : c.min-least.result ≡ min c.loop-row.least (lead_of v.items) = c.min-least.ensures ∙ ap (min c.loop-row.least) (c.lead-first.ensures ∙ ap lead_of c.deref.ensures.value) in
    record {
      within = omega arith;
      bound = omega arith;
      least = StageLaws.least_more c.args.rows.now c.loop-row.row-index v c.loop-row-test.true c.row-item.is c.loop-row.least _ e c.loop-row.invariant.least;
      some = StageLaws.least_some c.args.rows.now c.loop-row.row-index v c.loop-row-test.true c.row-item.is c.loop-row.least _ 4294967296 e c.loop-row.invariant.some;
    }

pub returns-clause-bound : goal.returns-clause-bound
returns-clause-bound g c = c.loop-row.invariant.bound

pub returns-clause-least : goal.returns-clause-least
returns-clause-least g c = subst (λ vs. EachOf (λ r. c.loop-row.least ≤ lead_of r) (items_of vs)) (take_all c.loop-row.row-index c.args.rows.now (omega arith)) c.loop-row.invariant.least

pub returns-clause-some : goal.returns-clause-some
returns-clause-some g c = subst (λ vs. EachOf (λ r. lead_of r ≢ c.loop-row.least) (items_of vs) → c.loop-row.least ≡ 4294967296) (take_all c.loop-row.row-index c.args.rows.now (omega arith)) c.loop-row.invariant.some
