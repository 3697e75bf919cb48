use Rattle.std.proofs.Common.{◌^◌, ◌≤◌, [], ◌∷◌, map, ap, ap₂, subst, ◌∙◌}
use Rattle.ring_law.proofs.Exits.{handed_on, refused_by}
use Rattle.jet_law.specs.Heights.{IsHigh}
use Rattle.ring_formula.specs.Formulas.{formula_value, formula_heights}
use Rattle.kill_law.specs.Kill.{divisor_value}
use Rattle.kill_leads.proofs.MultipliedHeights
use Rattle.kill_leads.proofs.lead.multiplied.Goals as goal

pub returns-in_err-over-clause-range : goal.returns-in_err-over-clause-range
returns-in_err-over-clause-range g c =
    let m = g.F.Ring.meaning c.args.field.now in
    handed_on _ c.from_residual.ensures.1
    (λ high. MultipliedHeights.over-high m.scalars (map m.value c.args.letters.now) (m.value c.args.v) c.args.entry high)
    c.in_err-over.ensures.range

pub returns-in_err-number-clause-range : goal.returns-in_err-number-clause-range
returns-in_err-number-clause-range g c =
    let m = g.F.Ring.meaning c.args.field.now in
    let letters = map m.value c.args.letters.now in
    handed_on _ c.from_residual-in_err-number.ensures.1
    (λ high. MultipliedHeights.number-high m.scalars letters (m.value c.args.v) c.args.entry (subst (λ z. IsHigh (formula_heights m.scalars letters (z ∷ []))) c.summand.ensures high))
    c.in_err-number.ensures.range

pub returns-in_err-coefficient-clause-range : goal.returns-in_err-coefficient-clause-range
returns-in_err-coefficient-clause-range g c =
    let m = g.F.Ring.meaning c.args.field.now in
    let letters = map m.value c.args.letters.now in
    handed_on _ c.from_residual-in_err-coefficient.ensures.1
    (λ high. MultipliedHeights.product-high m.scalars letters (m.value c.args.v) c.args.entry
    (subst (λ z. 2 ^ 120 ≤ m.scalars.product_height z (m.scalars.inverse (divisor_value m.scalars letters c.args.entry.divisor))) (c.in_ok-number.ensures.value ∙ ap (λ z. formula_value m.scalars letters (z ∷ [])) c.summand.ensures)
    (subst (λ z. 2 ^ 120 ≤ m.scalars.product_height (m.value c.in_ok-number.number) z) c.in_ok-over.ensures.value high)))
    c.in_err-coefficient.ensures.cause

pub returns-clause-range : goal.returns-clause-range
returns-clause-range g c =
    let m = g.F.Ring.meaning c.args.field.now in
    let letters = map m.value c.args.letters.now in
    refused_by
    (λ high. MultipliedHeights.last-high m.scalars letters (m.value c.args.v) c.args.entry
    (subst (λ z. 2 ^ 120 ≤ m.scalars.product_height (m.value c.args.v) z)
    (c.in_ok-coefficient.ensures.value ∙ ap₂ m.scalars.ops.mul (c.in_ok-number.ensures.value ∙ ap (λ z. formula_value m.scalars letters (z ∷ [])) c.summand.ensures) c.in_ok-over.ensures.value) high))
    c.mul-2.ensures.cause
