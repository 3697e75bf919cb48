use Rattle.std.proofs.Common.{◌∙◌, ◌≤◌, ◌^◌, sym, ap, arith, subst, ◌∷◌, ◌++◌, drop, take_all, ◌+◌, refl}
use Rattle.ring_law.proofs.Exits.{faulted}
use Rattle.lin_row.specs.Lines.{IsRising, dot}
use Rattle.lin_row.proofs.RingFacts
use Rattle.lin_row.proofs.LineLaws
use Rattle.lin_row.proofs.SystemLaws
use Rattle.lin_row.proofs.line.scaled.Goals as goal

pub mul-requires-clause-right : goal.mul-requires-clause-right
mul-requires-clause-right g c =
    let m = g.R.Ring.meaning c.args.ring.now in
    let laws = (g.met.R.Ring.laws c.args.ring.now c.requires.ring).numbers.ring in
    (LineLaws.units_at m laws c.args.row.now c.loop-t.t-index c.t-item.result c.loop-t-test.true c.t-item.is c.requires.row.units).0

pub returns-in_err-x-clause-cause : goal.returns-in_err-x-clause-cause
returns-in_err-x-clause-cause g c =
    let m = g.R.Ring.meaning c.args.ring.now in
    let laws = (g.met.R.Ring.laws c.args.ring.now c.requires.ring).numbers.ring in
    faulted _ c.from_residual.ensures.1
    (SystemLaws.among_get (λ t. 2 ^ 120 ≤ m.scalars.product_height (m.value c.args.f) (m.value t.1)) c.args.row.now c.loop-t.t-index c.t-item.result c.loop-t-test.true c.t-item.is)
    c.in_err-x.ensures.cause

pub loop-t-preserved : goal.loop-t-preserved
loop-t-preserved g c =
    let m = g.R.Ring.meaning c.args.ring.now in
    let laws = (g.met.R.Ring.laws c.args.ring.now c.requires.ring).numbers.ring in
    let t = c.t-item.result in
    let old = c.loop-t.invariant in
    let here : IsRising (c.loop-t.all.items ++ (t ∷ drop (c.loop-t.t-index + 1) c.args.row.now)) = subst (λ ys. IsRising (c.loop-t.all.items ++ ys)) (LineLaws.next_at c.args.row.now c.loop-t.t-index t c.loop-t-test.true c.t-item.is) old.rising in
    record {
      within = omega arith;
      units = c.in_ok-push_entry.ensures.units;
      rising = c.in_ok-push_entry.ensures.rising _ (LineLaws.rising_same c.loop-t.all.items _ t (t.0, c.in_ok-x.x) refl here);
      below = λ a all. SystemLaws.perhaps_below c.loop-t.all.items _ (t.0, c.in_ok-x.x) c.in_ok-push_entry.ensures.items a (old.below a all) (SystemLaws.below_get c.args.row.now c.loop-t.t-index a t c.loop-t-test.true c.t-item.is all);
      value = λ w. c.in_ok-push_entry.ensures.value w
          ∙ SystemLaws.scaled_step m laws c.args.row.now c.loop-t.t-index t w (m.value c.args.f) _ _ c.loop-t-test.true c.t-item.is (old.value w) c.in_ok-x.ensures.value;
    }

pub returns-clause-line : goal.returns-clause-line
returns-clause-line g c =
    record {
      rising = LineLaws.rising_left c.loop-t.all.items _ c.loop-t.invariant.rising;
      units = c.loop-t.invariant.units;
    }

pub returns-clause-value : goal.returns-clause-value
returns-clause-value g c w =
    let m = g.R.Ring.meaning c.args.ring.now in
    c.loop-t.invariant.value w ∙ ap (λ ys. m.scalars.ops.mul (m.value c.args.f) (dot m ys w)) (take_all c.loop-t.t-index c.args.row.now (omega arith))

pub loop-t-init : goal.loop-t-init
loop-t-init g c =
    let m = g.R.Ring.meaning c.args.ring.now in
    let laws = (g.met.R.Ring.laws c.args.ring.now c.requires.ring).numbers.ring in
    record {
      within = omega arith;
      units = rw c.new-all.ensures.items tt;
      rising = rw c.new-all.ensures.items c.requires.row.rising;
      below = λ a all. rw c.new-all.ensures.items tt;
      value = λ w. rw c.new-all.ensures.items (sym (RingFacts.mul_zero m.scalars.ops laws (m.value c.args.f)));
    }
