use Rattle.std.proofs.Common.{◌≡◌, inl, inr, refl, ap, ap₂, sym, ◌∙◌}
use Rattle.ring_law.proofs.Exits.{handed_on}
use Rattle.move_law.specs.Moves.{whole, over}
use Rattle.move_law.specs.Finish.{twice}
use Rattle.rules_corank2.specs.Tails.{tail_divided}
use Rattle.rules_corank2.proofs.Quotients.{product_high, multiple_high, quotient_high}
use Rattle.rules_corank2.proofs.finish_tail.tail_factor.Goals as goal

pub over-requires-clause-unit : goal.over-requires-clause-unit
over-requires-clause-unit g c =
    let m = g.F.Ring.meaning c.args.field.now in
    let scaled : m.value c.in_ok-scaled.scaled ≡ m.scalars.ops.mul (twice 0 m.scalars 0 (m.value c.args.b)) (whole m.scalars c.args.r) = c.in_ok-scaled.ensures.value ∙ ap₂ m.scalars.ops.mul c.in_ok-double.ensures.value c.number.ensures.value in
    λ z. c.requires.unit (sym (c.in_ok-divisor.ensures.value ∙ ap (λ y. m.scalars.ops.mul y (m.value c.args.c)) scaled) ∙ z)

pub returns-in_err-double-clause-range : goal.returns-in_err-double-clause-range
returns-in_err-double-clause-range g c =
    let m = g.F.Ring.meaning c.args.field.now in
    handed_on _ c.from_residual.ensures.1 (λ high. inl (multiple_high 0 m.scalars 2 (m.value c.args.b) (m.value c.args.b) refl high)) c.in_err-double.ensures.range

pub returns-in_err-scaled-clause-range : goal.returns-in_err-scaled-clause-range
returns-in_err-scaled-clause-range g c =
    let m = g.F.Ring.meaning c.args.field.now in
    handed_on _ c.from_residual-in_err-scaled.ensures.1
    (λ high. inr (inl (product_high 0 m.scalars (m.value c.in_ok-double.double) (m.value c.number.result) (twice 0 m.scalars 0 (m.value c.args.b)) (whole m.scalars c.args.r) c.in_ok-double.ensures.value c.number.ensures.value high)))
    c.in_err-scaled.ensures.cause

pub returns-in_err-divisor-clause-range : goal.returns-in_err-divisor-clause-range
returns-in_err-divisor-clause-range g c =
    let m = g.F.Ring.meaning c.args.field.now in
    let scaled : m.value c.in_ok-scaled.scaled ≡ m.scalars.ops.mul (twice 0 m.scalars 0 (m.value c.args.b)) (whole m.scalars c.args.r) = c.in_ok-scaled.ensures.value ∙ ap₂ m.scalars.ops.mul c.in_ok-double.ensures.value c.number.ensures.value in
    handed_on _ c.from_residual-in_err-divisor.ensures.1
    (λ high. inr (inr (inl (product_high 0 m.scalars (m.value c.in_ok-scaled.scaled) (m.value c.args.c) (m.scalars.ops.mul (twice 0 m.scalars 0 (m.value c.args.b)) (whole m.scalars c.args.r)) (m.value c.args.c) scaled refl high))))
    c.in_err-divisor.ensures.cause

pub returns-in_err-factor-clause-range : goal.returns-in_err-factor-clause-range
returns-in_err-factor-clause-range g c =
    let m = g.F.Ring.meaning c.args.field.now in
    let scaled : m.value c.in_ok-scaled.scaled ≡ m.scalars.ops.mul (twice 0 m.scalars 0 (m.value c.args.b)) (whole m.scalars c.args.r) = c.in_ok-scaled.ensures.value ∙ ap₂ m.scalars.ops.mul c.in_ok-double.ensures.value c.number.ensures.value in
    handed_on _ c.from_residual-in_err-factor.ensures.1
    (λ high. inr (inr (inr (quotient_high 0 m.scalars (m.value c.args.e) (m.value c.in_ok-divisor.divisor) (m.value c.args.e) (tail_divided 0 m.scalars (m.value c.args.b) (m.value c.args.c) c.args.r) refl
    (c.in_ok-divisor.ensures.value ∙ ap (λ y. m.scalars.ops.mul y (m.value c.args.c)) scaled) high))))
    c.in_err-factor.ensures.range

pub returns-clause-value : goal.returns-clause-value
returns-clause-value g c =
    let m = g.F.Ring.meaning c.args.field.now in
    let scaled : m.value c.in_ok-scaled.scaled ≡ m.scalars.ops.mul (twice 0 m.scalars 0 (m.value c.args.b)) (whole m.scalars c.args.r) = c.in_ok-scaled.ensures.value ∙ ap₂ m.scalars.ops.mul c.in_ok-double.ensures.value c.number.ensures.value in
    c.in_ok-factor.ensures.value ∙ ap (over m.scalars (m.value c.args.e)) (c.in_ok-divisor.ensures.value ∙ ap (λ y. m.scalars.ops.mul y (m.value c.args.c)) scaled)
