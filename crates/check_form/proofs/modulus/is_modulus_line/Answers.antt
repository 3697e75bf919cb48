use Rattle.std.proofs.Common.{length, ◌≡◌, ◌↔◌, IsTrue, List, map, ap, subst, ◌∙◌}
use Rattle.ring_law.proofs.Exits.{faulted}
use Rattle.ext_algebra.specs.Algebra.{Value, scalars, value_in}
use Rattle.ext_algebra.proofs.ElementTests.{is_algebra-IsAlgebra}
use Rattle.jet_law.specs.Heights.{IsHigh}
use Rattle.normal_forms.specs.Families.{kind_of}
use Rattle.normal_forms.specs.Units.{IsModulus}
use Rattle.report_law.specs.Items.{coefficients_of}
use Rattle.check_form.specs.FormHeights.{line_heights}
use Rattle.report_jet.proofs.ReportJets.{jet_valid}
use Rattle.check_form.proofs.Reports.{coefficients_are}
use Rattle.check_form.proofs.modulus.is_modulus_line.Goals as goal

pub sum_coefficients-requires-clause-ring : goal.sum_coefficients-requires-clause-ring
sum_coefficients-requires-clause-ring c = (is_algebra-IsAlgebra c.args.r.now.carried.algebra).0 c.requires.well_formed.carried.algebra

pub sum_coefficients-requires-clause-jet : goal.sum_coefficients-requires-clause-jet
sum_coefficients-requires-clause-jet c =
    jet_valid (length c.args.r.now.carried.names) c.args.r.now.carried.order c.args.r.now.carried.algebra c.args.r.now.carried.jet c.requires.well_formed.carried.jet

pub is_line-requires-clause-ring : goal.is_line-requires-clause-ring
is_line-requires-clause-ring c = (is_algebra-IsAlgebra c.args.r.now.carried.algebra).0 c.requires.well_formed.carried.algebra

pub returns-in_err-holds-clause-range : goal.returns-in_err-holds-clause-range
returns-in_err-holds-clause-range c =
    let r = c.args.r.now in
    let a = r.carried.algebra in
    let read : map (value_in a) c.as_slice.result.now ≡ coefficients_of r.carried r.family = ap (map (value_in a)) c.as_slice.ensures.value ∙ c.in_ok-coefs.ensures.values ∙ coefficients_are r c.requires.form.corank in
    faulted _ c.from_residual-in_err-holds.ensures.1
    (subst (λ (v : List (Value a)). IsHigh (line_heights (scalars a) (kind_of r.family) v r.modulus)) read)
    c.in_err-holds.ensures.range

pub returns-clause-modulus : goal.returns-clause-modulus
returns-clause-modulus c =
    let r = c.args.r.now in
    let a = r.carried.algebra in
    let read : map (value_in a) c.as_slice.result.now ≡ coefficients_of r.carried r.family = ap (map (value_in a)) c.as_slice.ensures.value ∙ c.in_ok-coefs.ensures.values ∙ coefficients_are r c.requires.form.corank in
    subst (λ (v : List (Value a)). IsTrue c.in_ok-holds.holds ↔ IsModulus a (kind_of r.family) v r.modulus) read c.in_ok-holds.ensures.line
