use Rattle.std.proofs.Common.{inl}
use Rattle.ring_law.proofs.Exits.{faulted_by}
use Rattle.rules_corank2.proofs.BinaryMoves.{both_ok, composed_high}
use Rattle.rules_corank2.proofs.begin_moves.two_changes.Goals as goal

pub returns-clause-change : goal.returns-clause-change
returns-clause-change g c =
    let e = c.then.ensures in
    both_ok (g.R.Ring.meaning c.args.ring.now) (g.met.R.Ring.laws c.args.ring.now c.requires.ring).numbers c.args.first.now.n c.args.first.now c.args.next.now c.then.result e.change e.n e.order e.moves

pub returns-clause-range : goal.returns-clause-range
returns-clause-range g c =
    faulted_by (λ high u v tu tv. inl (composed_high (g.R.Ring.meaning c.args.ring.now) (g.met.R.Ring.laws c.args.ring.now c.requires.ring).numbers c.args.first.now.n c.args.first.now c.args.next.now u v tu tv high)) c.then.ensures.range
