use Rattle.std.proofs.Common.{◌∙◌, ◌≤◌, sym, ap, subst}
use Rattle.ring_law.proofs.Exits.{fault_handed_on}
use Rattle.lin_row.specs.Lines.{AllBelow, given_part, entry}
use Rattle.lin_row.specs.System.{lines_of, against, dot_at}
use Rattle.lin_row.specs.Plain.{ClearingIsHigh}
use Rattle.lin_row.specs.Rows.{rows_of}
use Rattle.lin_row.specs.Stages.{functions_of}
use Rattle.lin_row.proofs.SystemLaws
use Rattle.lin_row.proofs.BuildLaws
use Rattle.lin_row.proofs.FormLaws
use Rattle.lin_row.proofs.ReductionLaws
use Rattle.lin_row.proofs.reduction.left_of.Goals as goal

pub remainder-requires-clause-pivots : goal.remainder-requires-clause-pivots
remainder-requires-clause-pivots g c =
    let m = g.F.Ring.meaning c.args.field.now in
    let laws = (g.met.F.Ring.laws c.args.field.now c.requires.ring).numbers.ring in
    SystemLaws.triangular m laws (lines_of c.args.pivots.now) c.requires.system.echelon

pub remainder-requires-clause-line : goal.remainder-requires-clause-line
remainder-requires-clause-line g c = rw c.in_ok-line.ensures.items c.requires.target

pub returns-in_err-left-clause-cause : goal.returns-in_err-left-clause-cause
returns-in_err-left-clause-cause g c =
    let m = g.F.Ring.meaning c.args.field.now in
    fault_handed_on _ c.from_residual-in_err-left.ensures.1
    (λ high. subst (λ xs. ClearingIsHigh m.scalars (functions_of m (lines_of c.args.pivots.now)) (entry m xs)) c.in_ok-line.ensures.items high)
    c.in_err-left.ensures.cause

pub unit_coefficients-requires-clause-line : goal.unit_coefficients-requires-clause-line
unit_coefficients-requires-clause-line g c = rw c.deref-2.ensures.value c.in_ok-left.ensures.line

pub returns-clause-left : goal.returns-clause-left
returns-clause-left g c =
    let m = g.F.Ring.meaning c.args.field.now in
    let laws = (g.met.F.Ring.laws c.args.field.now c.requires.ring).numbers.ring in
    let rows = rows_of c.args.rows.now in
    let ps = lines_of c.args.pivots.now in
    let left = c.in_ok-left.left.items in
    let line = c.in_ok-left.ensures.line in
    let system = c.requires.system in
    let same = rw c.in_ok-line.ensures.items at c.in_ok-left.ensures.same in
    let negated = rw c.deref-2.ensures.value at c.in_ok-coefficients.ensures.value in
    let entries = c.in_ok-entries.ensures.items ∙ ap (given_part 4294967296) c.deref.ensures.value in
    let long = BuildLaws.rows-length c.args.rows.now in
    let coefficients = c.in_ok-coefficients.coefficients.items in
    rw (c.from_vec.ensures, c.from_vec-2.ensures, entries)
    (record {
      rest = record {
        line = FormLaws.given-line m laws left 4294967296 line;
        coefficients = c.in_ok-coefficients.ensures.line;
        within = subst (λ n. AllBelow n coefficients) (sym long) c.in_ok-coefficients.ensures.within;
        sum = λ w.
            ReductionLaws.rest_sum m laws left c.args.target.now.entries coefficients 4294967296 rows w line.rising c.in_ok-line.ensures.below
            (negated (λ j. dot_at m rows j w) (λ j h. ReductionLaws.no_row m laws rows w j (subst (λ n. n ≤ j) (sym long) h)))
            (same (against m 4294967296 rows w) (system.evidence w));
      };
      cleared = ReductionLaws.given_cleared m laws 4294967296 ps left line.rising system.below c.in_ok-left.ensures.cleared;
    })
