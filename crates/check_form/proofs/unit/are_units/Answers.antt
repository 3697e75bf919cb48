use Rattle.std.proofs.Common.{length}
use Rattle.ring_law.proofs.Exits.{faulted_by}
use Rattle.ext_algebra.proofs.ElementTests.{is_algebra-IsAlgebra}
use Rattle.jet_poly.proofs.Steps.{if_ok}
use Rattle.check_form.proofs.Elements.{first_elements, second_elements}
use Rattle.report_jet.proofs.ReportJets.{jet_valid}
use Rattle.check_form.proofs.Reports.{units_test, units_high}
use Rattle.check_form.proofs.unit.are_units.Goals as goal

pub are_units_of-requires-clause-ring : goal.are_units_of-requires-clause-ring
are_units_of-requires-clause-ring c = (is_algebra-IsAlgebra c.args.r.now.carried.algebra).0 c.requires.well_formed.carried.algebra

pub are_units_of-requires-clause-jet : goal.are_units_of-requires-clause-jet
are_units_of-requires-clause-jet c =
    jet_valid (length c.args.r.now.carried.names) c.args.r.now.carried.order c.args.r.now.carried.algebra c.args.r.now.carried.jet c.requires.well_formed.carried.jet

pub are_units_of-requires-clause-firsts : goal.are_units_of-requires-clause-firsts
are_units_of-requires-clause-firsts c = rw c.as_slice-units.ensures (first_elements c.args.r.now.carried.algebra c.args.r.now.units c.requires.well_formed.units)

pub are_units_of-requires-clause-seconds : goal.are_units_of-requires-clause-seconds
are_units_of-requires-clause-seconds c = rw c.as_slice-units.ensures (second_elements c.args.r.now.carried.algebra c.args.r.now.units c.requires.well_formed.units)

pub returns-clause-units : goal.returns-clause-units
returns-clause-units c =
    if_ok c.are_units_of.result (λ b h. units_test c.args.r.now b c.args.r.now.carried.jet.n c.requires.well_formed.carried.jet.variables (rw c.as_slice-units.ensures at h)) c.are_units_of.ensures.units

pub returns-clause-range : goal.returns-clause-range
returns-clause-range c = faulted_by (λ high. units_high c.args.r.now (rw c.as_slice-units.ensures at high)) c.are_units_of.ensures.range
