-- The number, the monomials and the tests of the table are those of the item.
use Rattle.std.proofs.Common.{◌∙◌, sym, subst}
use Rattle.ring_law.proofs.Exits.{faulted_by, fault_handed_on}
use Rattle.ext_algebra.specs.Algebra.{algebra_meaning}
use Rattle.jet_poly.proofs.Steps.{if_ok}
use Rattle.jacobian_row.specs.Multiples.{AreMultiples}
use Rattle.report_jet.proofs.ReportJets.{algebra_valid}
use Rattle.report_law.specs.Items.{residual_of}
use Rattle.check_rows.specs.Lists.{ArePartialLists}
use Rattle.check_rows.proofs.JetLemmas.{answer_no, not_both}
use Rattle.check_milnor.proofs.Join.{monomials_to_whole}
use Rattle.check_milnor.proofs.Decided.{lists_are, partial_high, number_high, item_decided}
use Rattle.check_milnor.proofs.item.is_milnor_table.Goals as goal

pub returns-then-not-branch-clause-milnor : goal.returns-then-not-branch-clause-milnor
returns-then-not-branch-clause-milnor c =
    answer_no (λ item. not_both c.in_ok-has_all_monomials.field-0 (c.in_ok-has_all_monomials.ensures.whole.1 (monomials_to_whole c.args.r.now c.requires.well_formed item.monomials)) c.if-not-branch.true)

pub partial_lists-requires-clause-ring : goal.partial_lists-requires-clause-ring
partial_lists-requires-clause-ring c = algebra_valid c.args.r.now.carried.algebra c.requires.well_formed.carried.algebra

pub returns-in_err-partials-clause-range : goal.returns-in_err-partials-clause-range
returns-in_err-partials-clause-range c =
    fault_handed_on _ c.from_residual-in_err-partials.ensures.1 (partial_high c.args.r.now c.in-Ok.g c.in-Ok.ensures.n c.in-Ok.ensures.polynomial) c.in_err-partials.ensures.range

pub is_table-requires-clause-partials : goal.is_table-requires-clause-partials
is_table-requires-clause-partials c =
    let r = c.args.r.now in
    subst (ArePartialLists (algebra_meaning r.carried.algebra) r.carried.corank (residual_of r.carried)) (sym c.deref.ensures.value)
    (lists_are r.carried c.in-Ok.g c.in-Ok.ensures.n c.in-Ok.ensures.polynomial c.in_ok-partials.partials.items c.in_ok-partials.ensures.partials)

pub returns-clause-milnor : goal.returns-clause-milnor
returns-clause-milnor c =
    let r = c.args.r.now in
    let partials = subst (ArePartialLists (algebra_meaning r.carried.algebra) r.carried.corank (residual_of r.carried)) (sym c.deref.ensures.value)
    (lists_are r.carried c.in-Ok.g c.in-Ok.ensures.n c.in-Ok.ensures.polynomial c.in_ok-partials.partials.items c.in_ok-partials.ensures.partials) in
    let multiples = subst (AreMultiples r.carried.corank 0 r.carried.order) (sym c.deref-2.ensures.value) c.in_ok-multiples.ensures.multiples in
    let whole = c.in_ok-has_all_monomials.ensures.whole.0 c.if-not-branch.false in
    if_ok c.is_table.result
    (item_decided r c.requires.well_formed c.deref.result.now partials c.deref-2.result.now multiples (c.if-r-len.false ∙ c.len.ensures) whole) c.is_table.ensures.table

pub returns-clause-range : goal.returns-clause-range
returns-clause-range c =
    let r = c.args.r.now in
    let partials = subst (ArePartialLists (algebra_meaning r.carried.algebra) r.carried.corank (residual_of r.carried)) (sym c.deref.ensures.value)
    (lists_are r.carried c.in-Ok.g c.in-Ok.ensures.n c.in-Ok.ensures.polynomial c.in_ok-partials.partials.items c.in_ok-partials.ensures.partials) in
    let multiples = subst (AreMultiples r.carried.corank 0 r.carried.order) (sym c.deref-2.ensures.value) c.in_ok-multiples.ensures.multiples in
    faulted_by (number_high r c.deref.result.now partials c.deref-2.result.now multiples) c.is_table.ensures.range
