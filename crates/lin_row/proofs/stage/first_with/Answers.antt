use Rattle.std.proofs.Common.{◌≢◌, ◌∙◌, ap, sym, subst, arith, take_all}
use Rattle.lin_row.specs.Lines.{EachOf, lead_of}
use Rattle.lin_row.specs.Stages.{items_of}
use Rattle.lin_row.proofs.StageLaws
use Rattle.lin_row.proofs.stage.first_with.Goals as goal

pub returns-then-lead-column-clause-found : goal.returns-then-lead-column-clause-found
returns-then-lead-column-clause-found g c =
    ap lead_of (StageLaws.items-at c.args.rows.now c.loop-i.i c.index-rows-i.result c.loop-i-test.true c.index-rows-i.is) ∙ ap lead_of (sym c.deref.ensures.value) ∙ sym c.lead.ensures ∙ c.if-lead-column.true

pub returns-then-lead-column-clause-first : goal.returns-then-lead-column-clause-first
returns-then-lead-column-clause-first g c =
    subst (EachOf (λ r. lead_of r ≢ c.args.column)) (sym (StageLaws.items-take c.loop-i.i c.args.rows.now)) c.loop-i.invariant

pub loop-i-preserved : goal.loop-i-preserved
loop-i-preserved g c =
    StageLaws.each_more c.args.rows.now c.loop-i.i c.index-rows-i.result c.loop-i-test.true c.index-rows-i.is (λ r. lead_of r ≢ c.args.column) c.loop-i.invariant (λ e. c.if-lead-column.false (c.lead.ensures ∙ ap lead_of c.deref.ensures.value ∙ e))

pub returns-clause-none : goal.returns-clause-none
returns-clause-none g c =
    subst (λ vs. EachOf (λ r. lead_of r ≢ c.args.column) (items_of vs)) (take_all c.loop-i.i c.args.rows.now (omega arith)) c.loop-i.invariant
