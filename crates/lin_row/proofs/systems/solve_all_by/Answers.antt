use Rattle.std.proofs.Common.{◌∙◌, inl, inr, subst, arith, take_all}
use Rattle.ring_law.proofs.Exits.{fault_handed_on}
use Rattle.lin_row.specs.Rows.{AreSolutions}
use Rattle.lin_row.specs.Systems.{SolvingIsHigh}
use Rattle.lin_row.proofs.BuildLaws
use Rattle.lin_row.proofs.SystemLaws
use Rattle.lin_row.proofs.FormSteps
use Rattle.lin_row.proofs.systems.solve_all_by.Goals as goal

pub returns-in_err-system-clause-cause : goal.returns-in_err-system-clause-cause
returns-in_err-system-clause-cause g c plain = fault_handed_on _ c.from_residual.ensures.1 (λ high. inl high) (c.in_err-system.ensures.cause plain)

pub solve_in-requires-clause-target : goal.solve_in-requires-clause-target
solve_in-requires-clause-target g c =
    BuildLaws.valid-at (g.F.Ring.meaning c.args.field.now) c.args.targets.now c.loop-target.target-index c.target-item.result c.loop-target-test.true c.target-item.is c.requires.targets

pub returns-in_err-solution-clause-cause : goal.returns-in_err-solution-clause-cause
returns-in_err-solution-clause-cause g c plain =
    let m = g.F.Ring.meaning c.args.field.now in
    fault_handed_on _ c.from_residual-in_err-solution.ensures.1
    (λ high. inr (SystemLaws.among_get (λ t. SolvingIsHigh m c.args.rows.now t.entries) c.args.targets.now c.loop-target.target-index c.target-item.result c.loop-target-test.true c.target-item.is high))
    (c.in_err-solution.ensures.cause (c.in_ok-system.ensures.way ∙ plain))

pub loop-target-preserved : goal.loop-target-preserved
loop-target-preserved g c =
    let m = g.F.Ring.meaning c.args.field.now in
    record {
      within = omega arith;
      solutions = rw c.in_ok-push.ensures.items (FormSteps.solutions_more m c.args.rows.now c.args.targets.now c.loop-target.target-index c.target-item.result c.loop-target.all.items c.in_ok-solution.solution c.loop-target-test.true c.target-item.is c.loop-target.invariant.solutions c.in_ok-solution.ensures.solution);
    }

pub returns-clause-solutions : goal.returns-clause-solutions
returns-clause-solutions g c =
    subst (λ ts. AreSolutions (g.F.Ring.meaning c.args.field.now) c.args.rows.now ts c.loop-target.all.items) (take_all c.loop-target.target-index c.args.targets.now (omega arith)) c.loop-target.invariant.solutions
