use Rattle.std.proofs.Common.{◌≡◌, inl, inr, ap, subst, ◌∙◌}
use Rattle.ring_theory.specs.Scalars.{SumIsHigh}
use Rattle.ring_theory.proofs.Sums.{two_high}
use Rattle.ring_law.proofs.Exits.{handed_on, refused_by}
use Rattle.jet_poly.proofs.Steps.{if_ok}
use Rattle.bin_forms.proofs.number.less_multiple.Goals as goal

pub returns-in_err-multiple-clause-range : goal.returns-in_err-multiple-clause-range
returns-in_err-multiple-clause-range g c = handed_on _ c.from_residual.ensures.1 (λ high. inl high) c.in_err-multiple.ensures.cause

pub returns-clause-value : goal.returns-clause-value
returns-clause-value g c =
    let m = g.R.Ring.meaning c.args.ring.now in
    let s = m.scalars in
    let opposite : m.value c.neg.result ≡ s.ops.neg (s.ops.mul (m.value c.args.w) (m.value c.args.y)) = c.neg.ensures.value ∙ ap s.ops.neg c.in_ok-multiple.ensures.value in
    if_ok c.add.result (λ z h. h ∙ ap (s.ops.add (m.value c.args.x)) opposite) c.add.ensures.value

pub returns-clause-range : goal.returns-clause-range
returns-clause-range g c =
    let m = g.R.Ring.meaning c.args.ring.now in
    let s = m.scalars in
    let ring = (g.met.R.Ring.laws c.args.ring.now c.requires.ring).numbers.ring in
    let opposite : m.value c.neg.result ≡ s.ops.neg (s.ops.mul (m.value c.args.w) (m.value c.args.y)) = c.neg.ensures.value ∙ ap s.ops.neg c.in_ok-multiple.ensures.value in
    refused_by (λ high. inr (inl (two_high s ring (m.value c.args.x) (s.ops.neg (s.ops.mul (m.value c.args.w) (m.value c.args.y))) (subst (SumIsHigh s (m.value c.args.x)) opposite high)))) c.add.ensures.cause
