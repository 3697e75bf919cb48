use Rattle.std.proofs.Common.{◌^◌, ◌≤◌, [], ◌∷◌, map, subst}
use Rattle.ring_law.proofs.Exits.{handed_on}
use Rattle.jet_law.proofs.High.{high_head, high_left, high_right}
use Rattle.ring_formula.specs.Formulas.{formula_heights}
use Rattle.kill_law.specs.Kill.{summands_of, divisor_value}
use Rattle.kill_leads.proofs.lead.over_divisor.Goals as goal

pub returns-in_err-value-clause-range : goal.returns-in_err-value-clause-range
returns-in_err-value-clause-range g c =
    let m = g.F.Ring.meaning c.args.field.now in
    let letters = map m.value c.args.letters.now in
    handed_on _ c.from_residual.ensures.1
    (λ high. high_left (formula_heights m.scalars letters (summands_of c.args.by)) (m.scalars.inverse_height (divisor_value m.scalars letters c.args.by) ∷ []) high)
    c.in_err-value.ensures.range

pub returns-in_err-inverse-clause-range : goal.returns-in_err-inverse-clause-range
returns-in_err-inverse-clause-range g c =
    let m = g.F.Ring.meaning c.args.field.now in
    let letters = map m.value c.args.letters.now in
    handed_on _ c.from_residual-in_err-inverse.ensures.1
    (λ high. high_right (formula_heights m.scalars letters (summands_of c.args.by)) (m.scalars.inverse_height (divisor_value m.scalars letters c.args.by) ∷ [])
    (high_head (m.scalars.inverse_height (divisor_value m.scalars letters c.args.by)) [] (subst (λ z. 2 ^ 120 ≤ m.scalars.inverse_height z) c.in_ok-value.ensures.value high)))
    c.in_err-inverse.ensures.cause
