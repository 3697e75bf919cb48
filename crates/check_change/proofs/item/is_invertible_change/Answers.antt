use Rattle.std.proofs.Common.{List, All, sym, subst}
use Rattle.ring_law.specs.declared.fraction.Frac.{Frac}
use Rattle.ring_law.proofs.Exits.{faulted_by}
use Rattle.ext_algebra.specs.declared.algebra.Ext.{Ext}
use Rattle.ext_algebra.specs.Algebra.{algebra_meaning}
use Rattle.ext_algebra.specs.AlgebraLaws.{algebra_meaning_laws}
use Rattle.jet_subst.proofs.Tables.{if_ok}
use Rattle.report_jet.proofs.ReportJets.{algebra_valid, elements_valid}
use Rattle.check_change.proofs.ReportChanges.{parts_here, inverse_test, inverse_high}
use Rattle.check_change.proofs.item.is_invertible_change.Goals as goal

pub is_inverse_matrix-requires-clause-ring : goal.is_inverse_matrix-requires-clause-ring
is_inverse_matrix-requires-clause-ring c = algebra_valid c.args.c.now.algebra c.requires.well_formed.algebra

pub is_inverse_matrix-requires-clause-parts : goal.is_inverse_matrix-requires-clause-parts
is_inverse_matrix-requires-clause-parts c = parts_here c.args.c.now c.requires.well_formed c.as_slice-parts.result.now c.as_slice-parts.ensures c.args.c.now.change.n c.requires.well_formed.change_variables

pub is_inverse_matrix-requires-clause-elems : goal.is_inverse_matrix-requires-clause-elems
is_inverse_matrix-requires-clause-elems c =
    subst (λ (zs : List (Ext Frac)). All (algebra_meaning c.args.c.now.algebra).is_elem zs) (sym c.as_slice.ensures) (elements_valid c.args.c.now.algebra c.args.c.now.change.inverse c.requires.well_formed.matrix)

pub returns-clause-inverse : goal.returns-clause-inverse
returns-clause-inverse c =
    let a = c.args.c.now.algebra in
    if_ok c.is_inverse_matrix.result
    (λ b test. inverse_test c.args.c.now c.requires.well_formed c.as_slice-parts.result.now c.as_slice-parts.ensures (algebra_meaning_laws a).numbers c.args.c.now.change.n c.requires.well_formed.change_variables
    c.as_slice.result.now c.as_slice.ensures b test)
    c.is_inverse_matrix.ensures.inverse

pub returns-clause-range : goal.returns-clause-range
returns-clause-range c =
    let a = c.args.c.now.algebra in
    faulted_by
    (λ high. inverse_high c.args.c.now c.requires.well_formed c.as_slice-parts.result.now c.as_slice-parts.ensures (algebra_meaning_laws a).numbers c.args.c.now.change.n c.requires.well_formed.change_variables
    c.as_slice.result.now c.as_slice.ensures high)
    c.is_inverse_matrix.ensures.range
