use Rattle.std.proofs.Common.{◌≡◌, ◌<◌, ◌≤◌, List, [], get_or, take, sym, subst, ◌∙◌, arith}
use Rattle.ring_law.proofs.Exits.{fault_handed_on}
use Rattle.coord_change.specs.Chains.{IsChain}
use Rattle.chain_lift.proofs.OpenChains.{move_at, taken, high_before, all_taken}
use Rattle.chain_lift.proofs.lifting.push_all.Goals as goal

pub push-requires : goal.push-requires
push-requires g c =
    let m = g.R.Ring.meaning c.args.ring.now in
    let h = c.requires.ready in
    let i = c.loop-change.change-index in
    let q = c.loop-change.invariant h.n h.last h.o h.germ h.moves h.is h.changes_are in
    let from = move_at m h.n h.last i h.moves c.args.changes.now c.change-item.result h.changes_are c.loop-change-test.true c.change-item.is in
    record {
      ring = c.requires.ring;
      stands = record { n = h.n; last = h.last; germ = h.germ; o = h.o; moves = take i h.moves; is = q };
      change = from.exactly.change;
      variables = from.exactly.variables ∙ sym q.germ_is.variables;
      order = let x = q.germ_is.order in let y = from.exactly.order in let z = from.at_least in omega arith;
    }

pub loop-change-preserved : goal.loop-change-preserved
loop-change-preserved g c = λ n last o f moves q a.
    let m = g.R.Ring.meaning c.args.ring.now in
    let i = c.loop-change.change-index in
    let from = move_at m n last i moves c.args.changes.now c.change-item.result a c.loop-change-test.true c.change-item.is in
    taken m n last f o i moves c.args.changes.now a c.loop-change-test.true c.push.new.chain
    (c.in_ok-push.ensures.chain n last o from.order f (take i moves) (get_or moves i []) (c.loop-change.invariant n last o f moves q a) from.at_least from.exactly)

pub returns-in_err-push-clause-range : goal.returns-in_err-push-clause-range
returns-in_err-push-clause-range g c =
    let m = g.R.Ring.meaning c.args.ring.now in
    let i = c.loop-change.change-index in
    fault_handed_on _ c.from_residual.ensures.1
    (λ high n last o f moves q a.
    let from = move_at m n last i moves c.args.changes.now c.change-item.result a c.loop-change-test.true c.change-item.is in
    high_before m n last f o i moves c.args.changes.now a c.loop-change-test.true
    (high n last o from.order f (take i moves) (get_or moves i []) (c.loop-change.invariant n last o f moves q a) from.at_least from.exactly))
    c.in_err-push.ensures.range

pub returns-clause-chain : goal.returns-clause-chain
returns-clause-chain g c = λ n last o f moves q a.
    all_taken (g.R.Ring.meaning c.args.ring.now) n last f o c.loop-change.change-index moves c.args.changes.now c.loop-change.chain a (omega arith) (c.loop-change.invariant n last o f moves q a)
