use Rattle.std.proofs.Common.{◌≡◌, ◌<◌, ◌≤◌, [], sym, subst, ◌∙◌, arith}
use Rattle.ring_law.proofs.Exits.{fault_handed_on}
use Rattle.coord_change.specs.Chains.{IsChain}
use Rattle.chain_lift.proofs.lifting.grow_to.Goals as goal

pub loop-o-init : goal.loop-o-init
loop-o-init g c = λ n last o f q. subst (λ k. IsChain (g.R.Ring.meaning c.args.ring.now) n last f k [] c.args.chain.now) (sym q.order_is ∙ sym c.order-o.ensures) q

pub grow-requires : goal.grow-requires
grow-requires g c =
    let h = c.requires.ready in
    let q = c.loop-o.invariant h.n h.last h.o h.germ h.is in
    let inside = c.loop-o-test.true in
    let most = c.requires.at_most_last in
    record {
      ring = c.requires.ring;
      stands = record { n = h.n; last = h.last; germ = h.germ; o = c.loop-o._o; moves = []; is = q };
      below_last = let x = q.order_is in let y = q.germ_is.order in let z = h.is.germ_is.order in omega arith;
    }

pub loop-o-preserved : goal.loop-o-preserved
loop-o-preserved g c = λ n last o f q. subst (λ k. IsChain (g.R.Ring.meaning c.args.ring.now) n last f k [] c.grow.new.chain) (omega arith) (c.in_ok-grow.ensures.chain n last c.loop-o._o f [] (c.loop-o.invariant n last o f q))

pub returns-in_err-grow-clause-memory : goal.returns-in_err-grow-clause-memory
returns-in_err-grow-clause-memory g c =
    let h = c.requires.ready in
    fault_handed_on _ c.from_residual.ensures.1
    (λ high. high h.n h.last c.loop-o._o h.germ [] (c.loop-o.invariant h.n h.last h.o h.germ h.is))
    c.in_err-grow.ensures.range

pub returns-clause-chain : goal.returns-clause-chain
returns-clause-chain g c = λ n last o f q. subst (λ k. IsChain (g.R.Ring.meaning c.args.ring.now) n last f k [] c.loop-o.chain) (omega arith) (c.loop-o.invariant n last o f q)
