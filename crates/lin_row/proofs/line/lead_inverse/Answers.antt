use Rattle.std.proofs.Common.{◌∙◌, ◌≤◌, ◌^◌, sym, ap, subst}
use Rattle.ring_law.proofs.Exits.{faulted}
use Rattle.lin_row.proofs.LineLaws
use Rattle.lin_row.proofs.BuildLaws
use Rattle.lin_row.proofs.line.lead_inverse.Goals as goal

pub returns-clause-value : goal.returns-clause-value
returns-clause-value g c =
    let m = g.F.Ring.meaning c.args.field.now in
    let laws = (g.met.F.Ring.laws c.args.field.now c.requires.ring).numbers.ring in
    (rw c.in-Some.is at c.in_ok-x.ensures.value) ∙ ap m.scalars.inverse (sym (BuildLaws.lead-value m laws c.args.row.now c.index-row-0.result c.requires.some c.index-row-0.is c.requires.line.rising))

pub returns-clause-unit : goal.returns-clause-unit
returns-clause-unit g c =
    let m = g.F.Ring.meaning c.args.field.now in
    let laws = (g.met.F.Ring.laws c.args.field.now c.requires.ring).numbers.ring in
    ap (λ z. m.scalars.ops.mul z (m.value c.in-Some.x)) (BuildLaws.lead-value m laws c.args.row.now c.index-row-0.result c.requires.some c.index-row-0.is c.requires.line.rising)
    ∙ BuildLaws.times_inverse m laws (g.met.F.Field.inverts c.args.field.now c.requires.ring) c.args.row.now c.index-row-0.result (m.value c.in-Some.x) c.requires.some c.index-row-0.is c.requires.line (rw c.in-Some.is at c.in_ok-x.ensures.value)

pub returns-in_err-x-clause-cause : goal.returns-in_err-x-clause-cause
returns-in_err-x-clause-cause g c =
    let m = g.F.Ring.meaning c.args.field.now in
    let laws = (g.met.F.Ring.laws c.args.field.now c.requires.ring).numbers.ring in
    faulted _ c.from_residual.ensures.1
    (λ high. subst (λ z. 2 ^ 120 ≤ m.scalars.inverse_height z) (sym (BuildLaws.lead-value m laws c.args.row.now c.index-row-0.result c.requires.some c.index-row-0.is c.requires.line.rising)) high)
    c.in_err-x.ensures.cause

pub unreachable-requires : goal.unreachable-requires
unreachable-requires g c =
    let m = g.F.Ring.meaning c.args.field.now in
    let laws = (g.met.F.Ring.laws c.args.field.now c.requires.ring).numbers.ring in
    (LineLaws.units_at m laws c.args.row.now 0 c.index-row-0.result c.requires.some c.index-row-0.is c.requires.line.units).1 (rw c.in-None.is at c.in_ok-x.ensures.zero)
