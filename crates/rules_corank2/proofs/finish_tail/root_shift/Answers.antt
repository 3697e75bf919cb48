use Rattle.std.proofs.Common.{inl, inr, ap, ap₂, sym, ◌∙◌}
use Rattle.ring_law.proofs.Exits.{handed_on}
use Rattle.move_law.specs.Moves.{whole, over}
use Rattle.rules_corank2.proofs.Quotients.{multiple_high, quotient_high}
use Rattle.rules_corank2.proofs.finish_tail.root_shift.Goals as goal

pub over-requires-clause-unit : goal.over-requires-clause-unit
over-requires-clause-unit g c =
    let m = g.F.Ring.meaning c.args.field.now in
    λ z. c.requires.root (sym (c.in_ok-divisor.ensures.value ∙ ap (m.scalars.ops.mul (whole m.scalars 2)) c.at-p.ensures.value) ∙ z)

pub returns-in_err-dividend-clause-range : goal.returns-in_err-dividend-clause-range
returns-in_err-dividend-clause-range g c =
    let m = g.F.Ring.meaning c.args.field.now in
    handed_on _ c.from_residual.ensures.1 (λ high. inl (multiple_high c.args.f.now.n m.scalars 3 (m.value c.at-q.result) _ c.at-q.ensures.value high)) c.in_err-dividend.ensures.range

pub returns-in_err-divisor-clause-range : goal.returns-in_err-divisor-clause-range
returns-in_err-divisor-clause-range g c =
    let m = g.F.Ring.meaning c.args.field.now in
    handed_on _ c.from_residual-in_err-divisor.ensures.1 (λ high. inr (inl (multiple_high c.args.f.now.n m.scalars 2 (m.value c.at-p.result) _ c.at-p.ensures.value high))) c.in_err-divisor.ensures.range

pub returns-in_err-shift-clause-range : goal.returns-in_err-shift-clause-range
returns-in_err-shift-clause-range g c =
    let m = g.F.Ring.meaning c.args.field.now in
    handed_on _ c.from_residual-in_err-shift.ensures.1
    (λ high. inr (inr (quotient_high c.args.f.now.n m.scalars (m.value c.in_ok-dividend.dividend) (m.value c.in_ok-divisor.divisor) _ _
    (c.in_ok-dividend.ensures.value ∙ ap (m.scalars.ops.mul (whole m.scalars 3)) c.at-q.ensures.value)
    (c.in_ok-divisor.ensures.value ∙ ap (m.scalars.ops.mul (whole m.scalars 2)) c.at-p.ensures.value) high)))
    c.in_err-shift.ensures.range

pub returns-clause-value : goal.returns-clause-value
returns-clause-value g c =
    let m = g.F.Ring.meaning c.args.field.now in
    c.in_ok-shift.ensures.value
    ∙ ap₂ (over m.scalars) (c.in_ok-dividend.ensures.value ∙ ap (m.scalars.ops.mul (whole m.scalars 3)) c.at-q.ensures.value) (c.in_ok-divisor.ensures.value ∙ ap (m.scalars.ops.mul (whole m.scalars 2)) c.at-p.ensures.value)
