use Rattle.std.proofs.Common.{◌≡◌, ◌≤◌, ◌^◌, inl, inr, ap, subst, ◌∙◌}
use Rattle.lin_row.specs.Plain.{Among}
use Rattle.ring_law.proofs.Exits.{handed_on, refused_by}
use Rattle.jet_poly.proofs.Steps.{if_ok}
use Rattle.move_law.specs.Moves.{whole, over}
use Rattle.move_law.specs.Work.{IsWorkHigh}
use Rattle.move_law.specs.Shapes.{over_multiple_work}
use Rattle.bin_forms.proofs.quartic.invariant_ratio.Goals as goal

pub returns-in_err-multiple-clause-range : goal.returns-in_err-multiple-clause-range
returns-in_err-multiple-clause-range g c =
    let m = g.F.Ring.meaning c.args.field.now in
    handed_on _ c.from_residual.ensures.1 (λ high. inl (subst (λ z. 2 ^ 120 ≤ m.scalars.product_height z (m.value c.args.j)) c.whole.ensures.value high)) c.in_err-multiple.ensures.cause

pub returns-clause-value : goal.returns-clause-value
returns-clause-value g c =
    let m = g.F.Ring.meaning c.args.field.now in
    let s = m.scalars in
    let multiple : m.value c.in_ok-multiple.multiple ≡ s.ops.mul (whole s 3) (m.value c.args.j) = c.in_ok-multiple.ensures.value ∙ ap (λ z. s.ops.mul z (m.value c.args.j)) c.whole.ensures.value in
    if_ok c.over_multiple.result (λ w h. h ∙ ap (λ z. over s z (s.ops.mul (whole s 2) (m.value c.args.i))) multiple) c.over_multiple.ensures.value

pub returns-clause-range : goal.returns-clause-range
returns-clause-range g c =
    let m = g.F.Ring.meaning c.args.field.now in
    let s = m.scalars in
    let multiple : m.value c.in_ok-multiple.multiple ≡ s.ops.mul (whole s 3) (m.value c.args.j) = c.in_ok-multiple.ensures.value ∙ ap (λ z. s.ops.mul z (m.value c.args.j)) c.whole.ensures.value in
    refused_by (λ high. inr (subst (λ z. Among (IsWorkHigh 2 s) (over_multiple_work s 2 2 z (m.value c.args.i))) multiple high)) c.over_multiple.ensures.range
