use Rattle.std.proofs.Common.{false, ◌≤◌, ◌^◌, [], map, take_all, All, sym, ap, ap₂, subst, ◌∙◌, arith}
use Rattle.ring_law.proofs.Exits.{faulted}
use Rattle.jet_subst.proofs.Tables.{all_push}
use Rattle.normal_forms.proofs.Sums.{taken-push}
use Rattle.certificate.proofs.Inverses.{among_image, has_inverse, inverse_is, inverse_valid, unit_at}
use Rattle.certificate.proofs.unit.with_inverses.Goals as goal

pub loop-value-init : goal.loop-value-init
loop-value-init g c =
    let m = g.F.Ring.meaning c.args.field.now in
    record {
      elems = subst (All {X = g.row.F-Elem.Denot × g.row.F-Elem.Denot} (λ u. m.is_elem u.0 × m.is_elem u.1)) (sym c.new-units.ensures.items) (λ i t h. absurd (omega arith));
      values = ap (map {B = g.F.Ring.Value c.args.field.now × g.F.Ring.Value c.args.field.now} (λ u. (m.value u.0, m.value u.1))) c.new-units.ensures.items;
    }

pub returns-in_err-inv-clause-range : goal.returns-in_err-inv-clause-range
returns-in_err-inv-clause-range g c =
    let m = g.F.Ring.meaning c.args.field.now in
    faulted _ c.from_residual.ensures.1
    (λ high. among_image (λ x. 2 ^ 120 ≤ m.scalars.inverse_height x) m.value c.args.values.now c.loop-value.value-index c.value-item.result c.loop-value-test.true
    (subst (λ e. 2 ^ 120 ≤ m.scalars.inverse_height (m.value e)) c.value-item.is high))
    c.in_err-inv.ensures.cause

pub unwrap-inverse-requires : goal.unwrap-inverse-requires
unwrap-inverse-requires g c =
    let m = g.F.Ring.meaning c.args.field.now in
    has_inverse m.scalars (g.met.F.Ring.laws c.args.field.now c.requires.field).numbers c.in_ok-inv.field-0 (m.value c.value-item.result)
    (unit_at m c.args.values.now c.loop-value.value-index c.value-item.result c.loop-value-test.true c.value-item.is c.requires.units) c.in_ok-inv.ensures.zero

pub loop-value-preserved : goal.loop-value-preserved
loop-value-preserved g c =
    let m = g.F.Ring.meaning c.args.field.now in
    record {
      elems = subst (All {X = g.row.F-Elem.Denot × g.row.F-Elem.Denot} (λ u. m.is_elem u.0 × m.is_elem u.1)) (sym c.in_ok-push.ensures.items)
          (all_push (λ (u : g.row.F-Elem.Denot × g.row.F-Elem.Denot). m.is_elem u.0 × m.is_elem u.1) c.loop-value.units.items (c.value-item.result, c.unwrap-inverse.result) c.loop-value.invariant.elems
          (subst m.is_elem (sym c.value-item.is) (c.requires.elems c.loop-value.value-index c.value-item.result c.loop-value-test.true), inverse_valid m.is_elem c.in_ok-inv.field-0 c.unwrap-inverse.result c.unwrap-inverse.ensures c.in_ok-inv.ensures.elem));
      values = taken-push {Y = g.F.Ring.Value c.args.field.now × g.F.Ring.Value c.args.field.now} (λ u. (m.value u.0, m.value u.1)) (λ x. (m.value x, m.scalars.inverse (m.value x))) c.args.values.now c.loop-value.value-index c.value-item.result
          c.loop-value.units.items c.push.new.self.items (c.value-item.result, c.unwrap-inverse.result) c.loop-value-test.true c.in_ok-push.ensures.items c.loop-value.invariant.values
          (ap₂ (λ x y. (x, y)) (ap m.value c.value-item.is) (inverse_is m.value c.in_ok-inv.field-0 c.unwrap-inverse.result (m.scalars.inverse (m.value c.value-item.result)) c.unwrap-inverse.ensures c.in_ok-inv.ensures.value ∙ ap (λ e. m.scalars.inverse (m.value e)) c.value-item.is));
    }

pub returns-clause-elems : goal.returns-clause-elems
returns-clause-elems g c = c.loop-value.invariant.elems

pub returns-clause-values : goal.returns-clause-values
returns-clause-values g c =
    let end = c.loop-value-test.false in
    let last = c.loop-value.auto.value-index-end in
    c.loop-value.invariant.values
    ∙ ap (map {B = g.F.Ring.Value c.args.field.now × g.F.Ring.Value c.args.field.now} (λ x. let m = g.F.Ring.meaning c.args.field.now in (m.value x, m.scalars.inverse (m.value x)))) (take_all c.loop-value.value-index c.args.values.now (omega arith))
