use Rattle.ring_law.proofs.Exits.{faulted_by}
use Rattle.ext_algebra.specs.AlgebraLaws.{algebra_meaning_laws}
use Rattle.jet_subst.proofs.Tables.{if_ok}
use Rattle.report_jet.proofs.ReportJets.{algebra_valid}
use Rattle.check_change.proofs.ReportChanges.{parts_here, sized, jet_here, carry_test, carry_high}
use Rattle.check_change.proofs.item.is_carried.Goals as goal

pub is_carried_jet-requires-clause-ring : goal.is_carried_jet-requires-clause-ring
is_carried_jet-requires-clause-ring c = algebra_valid c.args.c.now.algebra c.requires.well_formed.algebra

pub is_carried_jet-requires-clause-jet : goal.is_carried_jet-requires-clause-jet
is_carried_jet-requires-clause-jet c = c.in-Ok.ensures.jet c.args.c.now.algebra

pub is_carried_jet-requires-clause-parts : goal.is_carried_jet-requires-clause-parts
is_carried_jet-requires-clause-parts c =
    parts_here c.args.c.now c.requires.well_formed c.as_slice.result.now c.as_slice.ensures _ (sized c.args.c.now c.requires.well_formed c.as_slice.result.now c.as_slice.ensures)

pub is_carried_jet-requires-clause-wanted : goal.is_carried_jet-requires-clause-wanted
is_carried_jet-requires-clause-wanted c = jet_here c.args.c.now c.requires.well_formed c.as_slice.result.now c.as_slice.ensures

pub returns-clause-carried : goal.returns-clause-carried
returns-clause-carried c =
    let a = c.args.c.now.algebra in
    if_ok c.is_carried_jet.result
    (λ b test. carry_test c.args.c.now c.requires.well_formed c.as_slice.result.now c.as_slice.ensures c.args.germ.now c.in-Ok.f c.in-Ok.ensures.n c.requires.same_variables (c.in-Ok.ensures.polynomial a)
    (algebra_meaning_laws a).numbers b test)
    c.is_carried_jet.ensures.carried

pub returns-clause-range : goal.returns-clause-range
returns-clause-range c =
    let a = c.args.c.now.algebra in
    faulted_by
    (λ high. carry_high c.args.c.now c.requires.well_formed c.as_slice.result.now c.as_slice.ensures c.args.germ.now c.in-Ok.f c.in-Ok.ensures.n c.requires.same_variables (c.in-Ok.ensures.polynomial a) high)
    c.is_carried_jet.ensures.range
