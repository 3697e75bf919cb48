use Rattle.std.proofs.Common.{inl, inr, subst, arith, take_all}
use Rattle.ring_law.proofs.Exits.{fault_handed_on}
use Rattle.lin_row.specs.Lines.{entry}
use Rattle.lin_row.specs.Rows.{rows_of}
use Rattle.lin_row.specs.System.{lines_of}
use Rattle.lin_row.specs.Plain.{RemainderIsHigh, with_units}
use Rattle.lin_row.specs.Reductions.{AreRemainders}
use Rattle.lin_row.proofs.BuildLaws
use Rattle.lin_row.proofs.FormLaws
use Rattle.lin_row.proofs.FormSteps
use Rattle.lin_row.proofs.ReductionLaws
use Rattle.lin_row.proofs.reduction.reduce_all_by.Goals as goal

pub returns-in_err-pivots-clause-cause : goal.returns-in_err-pivots-clause-cause
returns-in_err-pivots-clause-cause g c plain = fault_handed_on _ c.from_residual.ensures.1 (λ high. inl high) (c.in_err-pivots.ensures.cause plain)

pub left_of-requires-clause-target : goal.left_of-requires-clause-target
left_of-requires-clause-target g c =
    BuildLaws.valid-at (g.F.Ring.meaning c.args.field.now) c.args.targets.now c.loop-target.target-index c.target-item.result c.loop-target-test.true c.target-item.is c.requires.targets

pub returns-in_err-left-clause-cause : goal.returns-in_err-left-clause-cause
returns-in_err-left-clause-cause g c plain =
    let m = g.F.Ring.meaning c.args.field.now in
    let rows = with_units m 4294967296 0 (rows_of c.args.rows.now) in
    let ps = lines_of c.in_ok-pivots.pivots.items in
    let t = c.target-item.result in
    fault_handed_on _ c.from_residual-in_err-left.ensures.1
    (λ high. inr
    (ReductionLaws.among_mapped (RemainderIsHigh m.scalars 4294967296 rows) (λ u. entry m u.entries) c.args.targets.now c.loop-target.target-index t c.loop-target-test.true c.target-item.is
    (ReductionLaws.remainder_high m rows ps (entry m t.entries) (c.in_ok-pivots.ensures.end plain) (rw c.deref-in-loop-target.ensures.value at high))))
    c.in_err-left.ensures.cause

pub loop-target-preserved : goal.loop-target-preserved
loop-target-preserved g c =
    let m = g.F.Ring.meaning c.args.field.now in
    let laws = (g.met.F.Ring.laws c.args.field.now c.requires.ring).numbers in
    let given = rows_of c.args.rows.now in
    let form = rows_of c.in_ok-form.form.items in
    let ps = lines_of c.in_ok-pivots.pivots.items in
    let system = c.in_ok-pivots.ensures.system in
    let left = rw c.deref-in-loop-target.ensures.value at c.in_ok-left.ensures.left in
    let rows = rw c.deref.ensures.value at c.in_ok-form.ensures.rows in
    record {
      within = omega arith;
      remainders = rw c.in_ok-push.ensures.items
          (ReductionLaws.remainders_more m given form c.args.targets.now c.loop-target.target-index c.target-item.result c.loop-target.remainders.items c.in_ok-left.left c.loop-target-test.true c.target-item.is c.loop-target.invariant.remainders
          (record {
            rest = left.rest;
            cleared = rw rows (ReductionLaws.leads_cleared m laws.ring laws.nontrivial ps c.in_ok-left.left.left system.echelon.pivots system.below left.cleared);
          }));
    }

pub returns-clause-reduction : goal.returns-clause-reduction
returns-clause-reduction g c =
    let m = g.F.Ring.meaning c.args.field.now in
    let laws = (g.met.F.Ring.laws c.args.field.now c.requires.ring).numbers.ring in
    let given = rows_of c.args.rows.now in
    let system = c.in_ok-pivots.ensures.system in
    let rows = rw c.deref.ensures.value at c.in_ok-form.ensures.rows in
    rw (c.from_vec.ensures, c.from_vec-2.ensures)
    (record {
      form = rw rows (FormLaws.reduced_form m laws 4294967296 given (lines_of c.in_ok-pivots.pivots.items) system c.in_ok-pivots.ensures.reduced (FormSteps.rows_lines m c.args.rows.now c.requires.rows) system.low);
      remainders =
          subst (λ ts. AreRemainders m given (rows_of c.in_ok-form.form.items) ts c.loop-target.remainders.items) (take_all c.loop-target.target-index c.args.targets.now (omega arith))
          c.loop-target.invariant.remainders;
    })
