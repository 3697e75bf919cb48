use Rattle.ring_law.proofs.Exits.{fault_handed_on, faulted}
use Rattle.jet_law.proofs.High.{high_left, high_right}
use Rattle.normal_forms.specs.Coefficients.{unit_heights_in}
use Rattle.check_form.specs.FormHeights.{pair_heights}
use Rattle.check_form.proofs.unit.are_units_of.Goals as goal

pub returns-in_err-values-clause-range : goal.returns-in_err-values-clause-range
returns-in_err-values-clause-range g c =
    let m = g.R.Ring.meaning c.args.ring.now in
    fault_handed_on _ c.from_residual.ensures.1
    (high_left (unit_heights_in m c.args.family c.args.corank c.args.f.now.terms) (pair_heights m.scalars m.value c.args.pairs.now))
    c.in_err-values.ensures.range

pub returns-in_err-inverse-clause-range : goal.returns-in_err-inverse-clause-range
returns-in_err-inverse-clause-range g c =
    let m = g.R.Ring.meaning c.args.ring.now in
    faulted _ c.from_residual-in_err-inverse.ensures.1
    (high_right (unit_heights_in m c.args.family c.args.corank c.args.f.now.terms) (pair_heights m.scalars m.value c.args.pairs.now))
    c.in_err-inverse.ensures.range
