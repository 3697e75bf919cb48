use Rattle.ring_law.proofs.Exits.{faulted_by}
use Rattle.rules_corank2.proofs.FinishMoves.{composed_first, composed_ok, composed_fault}
use Rattle.std.proofs.Common.{subst}
use Rattle.rules_corank2.specs.Finishes.{IsCompositeOf}
use Rattle.rules_corank2.proofs.finish_state.composed.Goals as goal

pub returns-in-None-clause-change : goal.returns-in-None-clause-change
returns-in-None-clause-change g c moves move of to =
    let m = g.R.Ring.meaning c.args.ring.now in
    composed_first m (g.met.R.Ring.laws c.args.ring.now c.requires.ring).numbers c.args.next.n c.args.k moves move c.args.next to (subst (IsCompositeOf m c.args.next.n c.args.k moves) c.in-None.is of)

pub returns-in-Some-clause-change : goal.returns-in-Some-clause-change
returns-in-Some-clause-change g c =
    let e = c.then.ensures in
    composed_ok (g.R.Ring.meaning c.args.ring.now) (g.met.R.Ring.laws c.args.ring.now c.requires.ring).numbers c.args.next.n c.args.k c.in-Some.first c.args.next c.args.first c.in-Some.is c.then.result e.change e.n e.order e.moves

pub returns-in-Some-clause-range : goal.returns-in-Some-clause-range
returns-in-Some-clause-range g c =
    faulted_by
    (composed_fault (g.R.Ring.meaning c.args.ring.now) (g.met.R.Ring.laws c.args.ring.now c.requires.ring).numbers c.args.next.n c.args.k c.in-Some.first c.args.next c.args.first c.in-Some.is c.requires.order_at_least_1)
    c.then.ensures.range
