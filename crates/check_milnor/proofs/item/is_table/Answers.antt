-- The tests of a table, one after the other.
use Rattle.std.proofs.Common.{length, subst, sym}
use Rattle.std.specs.List.{All}
use Rattle.ring_law.proofs.Exits.{faulted_by}
use Rattle.ext_algebra.specs.Algebra.{algebra_meaning}
use Rattle.mono_exp.specs.Exponents.{IsIn}
use Rattle.jet_poly.proofs.Steps.{if_ok}
use Rattle.report_jet.proofs.ReportJets.{algebra_valid}
use Rattle.check_rows.proofs.JetLemmas.{answer_no, not_both}
use Rattle.check_quotient.specs.Tables.{AreValuesIn}
use Rattle.table_rows.specs.Tables.{IsTableShape}
use Rattle.check_milnor.proofs.Requirements.{table_shape, table_values, basis_inside, places}
use Rattle.check_milnor.proofs.TableTest.{given, joined, row_high}
use Rattle.check_milnor.proofs.item.is_table.Goals as goal

pub are_unit_rows-requires-clause-ring : goal.are_unit_rows-requires-clause-ring
are_unit_rows-requires-clause-ring c = algebra_valid c.args.r.now.carried.algebra c.requires.well_formed.carried.algebra

pub are_unit_rows-requires-clause-values : goal.are_unit_rows-requires-clause-values
are_unit_rows-requires-clause-values c = subst (AreValuesIn (algebra_meaning c.args.r.now.carried.algebra)) (sym c.as_slice-table.ensures) (table_values c.args.r.now c.requires.well_formed)

pub are_in_kernel-requires-clause-ring : goal.are_in_kernel-requires-clause-ring
are_in_kernel-requires-clause-ring c = algebra_valid c.args.r.now.carried.algebra c.requires.well_formed.carried.algebra

pub are_in_kernel-requires-clause-values : goal.are_in_kernel-requires-clause-values
are_in_kernel-requires-clause-values c = subst (AreValuesIn (algebra_meaning c.args.r.now.carried.algebra)) (sym c.as_slice-table.ensures) (table_values c.args.r.now c.requires.well_formed)

pub are_in_kernel-requires-clause-places : goal.are_in_kernel-requires-clause-places
are_in_kernel-requires-clause-places c =
    places c.args.r.now.carried.corank c.args.r.now.carried.order (length c.args.partials.now) c.args.multiples.now c.requires.multiples c.requires.partials.count

pub are_table_rows-requires-clause-ring : goal.are_table_rows-requires-clause-ring
are_table_rows-requires-clause-ring c = algebra_valid c.args.r.now.carried.algebra c.requires.well_formed.carried.algebra

pub are_table_rows-requires-clause-basis : goal.are_table_rows-requires-clause-basis
are_table_rows-requires-clause-basis c = subst (All (λ b. IsIn c.args.r.now.carried.corank b.e)) (sym c.as_slice-basis.ensures) (basis_inside c.args.r.now c.requires.well_formed)

pub are_table_rows-requires-clause-rows : goal.are_table_rows-requires-clause-rows
are_table_rows-requires-clause-rows c =
    subst (λ bs. All (IsTableShape (algebra_meaning c.args.r.now.carried.algebra) c.args.r.now.carried.corank (length bs)) c.as_slice-table.result.now) (sym c.as_slice-basis.ensures)
    (subst (All (IsTableShape (algebra_meaning c.args.r.now.carried.algebra) c.args.r.now.carried.corank (length c.args.r.now.quotient.basis))) (sym c.as_slice-table.ensures) (table_shape c.args.r.now c.requires.well_formed))

pub returns-then-not-are_low-clause-table : goal.returns-then-not-are_low-clause-table
returns-then-not-are_low-clause-table c =
    let r = c.args.r.now in
    answer_no (λ is. not_both c.are_low.result
    (c.are_low.ensures.1
    (given (algebra_meaning r.carried.algebra) r.carried.corank r.carried.order c.args.partials.now c.args.multiples.now r.quotient.basis c.as_slice-basis.result.now r.quotient.table c.as_slice-table.result.now c.as_slice-basis.ensures c.as_slice-table.ensures is).low)
    c.if-not-are_low.true)

pub returns-then-not-are_unit_rows-clause-table : goal.returns-then-not-are_unit_rows-clause-table
returns-then-not-are_unit_rows-clause-table c =
    let r = c.args.r.now in
    answer_no (λ is. not_both c.are_unit_rows.result
    (c.are_unit_rows.ensures.1
    (λ i hi j hj. (given (algebra_meaning r.carried.algebra) r.carried.corank r.carried.order c.args.partials.now c.args.multiples.now r.quotient.basis c.as_slice-basis.result.now r.quotient.table c.as_slice-table.result.now c.as_slice-basis.ensures c.as_slice-table.ensures is).units i j hi hj))
    c.if-not-are_unit_rows.true)

pub returns-then-not-branch-clause-table : goal.returns-then-not-branch-clause-table
returns-then-not-branch-clause-table c =
    let r = c.args.r.now in
    answer_no (λ is. not_both c.in_ok-are_in_kernel.field-0
    (c.in_ok-are_in_kernel.ensures.kernel.1
    (given (algebra_meaning r.carried.algebra) r.carried.corank r.carried.order c.args.partials.now c.args.multiples.now r.quotient.basis c.as_slice-basis.result.now r.quotient.table c.as_slice-table.result.now c.as_slice-basis.ensures c.as_slice-table.ensures is).kernel)
    c.if-not-branch.true)

pub returns-clause-table : goal.returns-clause-table
returns-clause-table c =
    let r = c.args.r.now in
    if_ok c.are_table_rows.result
    (joined (algebra_meaning r.carried.algebra) r.carried.corank r.carried.order c.args.partials.now c.args.multiples.now r.quotient.basis c.as_slice-basis.result.now r.quotient.table c.as_slice-table.result.now c.as_slice-basis.ensures c.as_slice-table.ensures
    (c.are_low.ensures.0 c.if-not-are_low.false) (c.are_unit_rows.ensures.0 c.if-not-are_unit_rows.false) (c.in_ok-are_in_kernel.ensures.kernel.0 c.if-not-branch.false))
    c.are_table_rows.ensures.rows

pub returns-clause-range : goal.returns-clause-range
returns-clause-range c =
    let r = c.args.r.now in
    faulted_by
    (row_high (algebra_meaning r.carried.algebra) r.carried.corank r.carried.order c.args.partials.now c.args.multiples.now r.quotient.basis c.as_slice-basis.result.now r.quotient.table c.as_slice-table.result.now c.as_slice-basis.ensures c.as_slice-table.ensures)
    c.are_table_rows.ensures.range
