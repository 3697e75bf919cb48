use Rattle.jet_subst.proofs.Reduced.{one_jet}
use Rattle.jet_subst.proofs.truncated.one.Goals as goal

pub returns-clause-one : goal.returns-clause-one
returns-clause-one g c =
    rw (c.from_rising.ensures, c.in_ok-push.ensures.items, c.new-terms.ensures.items)
    (one_jet (g.R.Ring.meaning c.args.ring.now) (g.met.R.Ring.laws c.args.ring.now c.requires) c.args.n c.args.k c.one.result c.one.ensures.elem c.one.ensures.value)
