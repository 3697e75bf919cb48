use Rattle.std.proofs.Common.{sym, refl, length-append, arith, [], ◌∷◌}
use Rattle.lin_row.proofs.StageLaws
use Rattle.lin_row.proofs.ExcludedLaws
use Rattle.lin_row.proofs.systems.coefficients.Goals as goal

pub loop-k-init : goal.loop-k-init
loop-k-init g c = rw c.new-all.ensures.items (record { length = refl; valid = tt; value = tt })

pub loop-k-preserved : goal.loop-k-preserved
loop-k-preserved g c =
    let m = g.R.Ring.meaning c.args.ring.now in
    let laws = (g.met.R.Ring.laws c.args.ring.now c.requires.ring).numbers.ring in
    record {
      length = rw c.in_ok-push.ensures.items (omega (arith, length-append c.loop-k.all.items (c.negated_entry-x.result ∷ []), c.loop-k.invariant.length));
      valid = rw c.in_ok-push.ensures.items (StageLaws.each_push m.is_elem c.loop-k.all.items c.negated_entry-x.result c.loop-k.invariant.valid c.negated_entry-x.ensures.elem);
      value = rw c.in_ok-push.ensures.items (ExcludedLaws.negated_push m laws c.args.left.now 4294967296 c.loop-k.k c.loop-k.all.items c.negated_entry-x.result (sym c.loop-k.invariant.length) c.loop-k.invariant.value c.negated_entry-x.ensures.value);
    }
