use Rattle.std.proofs.Common.{sym, arith, subst, ◌∷◌, ◌++◌, drop, ◌+◌}
use Rattle.ring_law.proofs.Exits.{faulted, fault_handed_on}
use Rattle.lin_row.specs.Lines.{IsRising}
use Rattle.lin_row.proofs.LineLaws
use Rattle.lin_row.proofs.line.add_multiple.Goals as goal

pub mul-requires-clause-right : goal.mul-requires-clause-right
mul-requires-clause-right g c =
    let m = g.R.Ring.meaning c.args.ring.now in
    let laws = (g.met.R.Ring.laws c.args.ring.now c.requires.ring).numbers.ring in
    (LineLaws.units_at m laws c.args.b.now c.loop-t.t-index c.t-item.result c.loop-t-test.true c.t-item.is c.requires.b_line.units).0

pub returns-in_err-product-clause-cause : goal.returns-in_err-product-clause-cause
returns-in_err-product-clause-cause g c =
    let m = g.R.Ring.meaning c.args.ring.now in
    let laws = (g.met.R.Ring.laws c.args.ring.now c.requires.ring).numbers.ring in
    faulted _ c.from_residual-in_err-product.ensures.1
    (LineLaws.product_refused m laws c.args.a.now c.args.b.now c.loop-t.t-index c.t-item.result (m.value c.args.f) c.loop-t-test.true c.t-item.is c.requires.b_line.rising)
    c.in_err-product.ensures.cause

pub add_entry-requires-clause-units : goal.add_entry-requires-clause-units
add_entry-requires-clause-units g c =
    let m = g.R.Ring.meaning c.args.ring.now in
    let laws = (g.met.R.Ring.laws c.args.ring.now c.requires.ring).numbers.ring in
    LineLaws.units_copied m laws c.loop-t.sum.items c.copy_before.new.line.items (drop c.loop-t.i c.args.a.now) _ c.in_ok-i.ensures.items c.loop-t.invariant.units (LineLaws.units_drop m laws c.loop-t.i c.args.a.now c.requires.a_line.units)

pub returns-in_err-i-2-clause-cause : goal.returns-in_err-i-2-clause-cause
returns-in_err-i-2-clause-cause g c =
    let m = g.R.Ring.meaning c.args.ring.now in
    let laws = (g.met.R.Ring.laws c.args.ring.now c.requires.ring).numbers.ring in
    fault_handed_on _ c.from_residual-in_err-i-2.ensures.1
    (LineLaws.entry_refused m laws c.args.a.now c.args.b.now c.loop-t.t-index c.t-item.result (m.value c.args.f) _ c.loop-t-test.true c.t-item.is c.requires.a_line.rising c.requires.b_line.rising c.in_ok-product.ensures.value)
    c.in_err-i-2.ensures.cause

pub loop-t-preserved : goal.loop-t-preserved
loop-t-preserved g c =
    let m = g.R.Ring.meaning c.args.ring.now in
    let laws = (g.met.R.Ring.laws c.args.ring.now c.requires.ring).numbers.ring in
    let old = c.loop-t.invariant in
    let rest = drop (c.loop-t.t-index + 1) c.args.b.now in
    let left : IsRising (c.copy_before.new.line.items ++ drop c.in_ok-i.i c.args.a.now) = subst (λ ys. IsRising ys) (sym c.in_ok-i.ensures.items) old.rising_a in
    let here : IsRising (c.loop-t.sum.items ++ (c.t-item.result ∷ rest)) = subst (λ ys. IsRising (c.loop-t.sum.items ++ ys)) (LineLaws.next_at c.args.b.now c.loop-t.t-index c.t-item.result c.loop-t-test.true c.t-item.is) old.rising_b in
    let right : IsRising (c.copy_before.new.line.items ++ (c.t-item.result ∷ rest)) = c.in_ok-i.ensures.rising old.rising_a c.t-item.result.1 rest here in
    record {
      within = c.in_ok-i-2.ensures.within;
      next = omega arith;
      units = c.in_ok-i-2.ensures.units;
      rising_a = c.in_ok-i-2.ensures.left c.t-item.result.1 rest left right;
      rising_b = c.in_ok-i-2.ensures.right c.t-item.result.1 rest right;
      value = λ w. LineLaws.added_step m laws c.loop-t.sum.items c.copy_before.new.line.items _ c.args.a.now c.args.b.now c.loop-t.i c.in_ok-i.i c.in_ok-i-2.i c.loop-t.t-index c.t-item.result (m.value c.args.f) _ _ w c.loop-t-test.true c.t-item.is
          c.in_ok-product.ensures.value c.in_ok-i.ensures.items (c.in_ok-i-2.ensures.value w) (old.value w);
    }

pub returns-clause-line : goal.returns-clause-line
returns-clause-line g c =
    let m = g.R.Ring.meaning c.args.ring.now in
    let laws = (g.met.R.Ring.laws c.args.ring.now c.requires.ring).numbers.ring in
    rw (c.in_ok-extend_from_slice.ensures.items, LineLaws.rest_whole c.loop-t.i c.args.a.now)
    (record {
      rising = c.loop-t.invariant.rising_a;
      units = LineLaws.units_append m laws c.loop-t.sum.items _ c.loop-t.invariant.units (LineLaws.units_drop m laws c.loop-t.i c.args.a.now c.requires.a_line.units);
    })

pub returns-clause-value : goal.returns-clause-value
returns-clause-value g c w =
    let m = g.R.Ring.meaning c.args.ring.now in
    let laws = (g.met.R.Ring.laws c.args.ring.now c.requires.ring).numbers.ring in
    rw (c.in_ok-extend_from_slice.ensures.items, LineLaws.rest_whole c.loop-t.i c.args.a.now)
    (LineLaws.added_end m laws c.loop-t.sum.items c.args.a.now c.args.b.now c.loop-t.i c.loop-t.t-index (m.value c.args.f) _ w (omega arith) (c.loop-t.invariant.value w))
