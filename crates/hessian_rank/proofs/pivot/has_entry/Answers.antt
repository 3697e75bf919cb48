use Rattle.hessian_rank.proofs.Pivots.{test_is}
use Rattle.hessian_rank.proofs.pivot.has_entry.Goals as goal

pub returns : goal.returns
returns g c =
    let m = g.R.Ring.meaning c.args.ring.now in
    test_is m (g.met.R.Ring.laws c.args.ring.now c.requires.ring).numbers c.eq.result c.entry.result c.zero.result _ c.eq.ensures c.zero.ensures.value c.entry.ensures.value
