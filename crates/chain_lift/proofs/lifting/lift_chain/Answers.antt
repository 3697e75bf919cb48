use Rattle.std.proofs.Common.{◌≡◌, ℕ, ◌<◌, ◌≤◌, [], map, sym, subst, ◌∙◌, arith}
use Rattle.ring_law.proofs.Exits.{fault_handed_on}
use Rattle.ext_algebra.specs.Algebra.{scalars, algebra_meaning}
use Rattle.jet_law.specs.Canonical.{jet}
use Rattle.coord_change.specs.CarryHeights.{IsCarryAllHigh}
use Rattle.coord_change.specs.Chains.{IsChain}
use Rattle.move_law.specs.Algebras.{lifted, lifted_move}
use Rattle.chain_lift.proofs.LiftedChains.{germ_here, low_here, moves_here}
use Rattle.chain_lift.proofs.lifting.lift_chain.Goals as goal

pub start-requires : goal.start-requires
start-requires g c =
    let h = c.requires.stands in
    let f = germ_here c.args.algebra h.n h.last h.o h.germ h.moves c.args.chain.now h.is c.germ.result.now c.germ.ensures in
    record {
      ring = c.requires.algebra;
      jet = f.jet;
      given = subst (λ z. 0 < z) (sym f.variables) h.is.given;
      at_most_8_variables = subst (λ z. z ≤ 8) (sym f.variables) h.is.at_most_8_variables;
      order_at_least_2 = let x = h.is.order_at_least_2 in let y = h.is.order_at_most_last in let z = f.order in omega arith;
      order_at_most_16 = let x = h.is.last_at_most_16 in let z = f.order in omega arith;
    }

pub grow_to-requires : goal.grow_to-requires
grow_to-requires g c =
    let a = c.args.algebra in
    let h = c.requires.stands in
    let f = germ_here a h.n h.last h.o h.germ h.moves c.args.chain.now h.is c.germ.result.now c.germ.ensures in
    let q = c.in_ok-made.ensures.chain h.n h.last (lifted a h.germ) (low_here a h.n h.last h.o h.germ h.moves c.args.chain.now h.is) f in
    record {
      ring = c.requires.algebra;
      ready = record { n = h.n; last = h.last; germ = lifted a h.germ; o = 2; moves = []; is = q; changes_are = tt };
      upwards = let x = q.order_is in let y = h.is.order_is in let z = h.is.order_at_least_2 in let w = c.order.ensures in omega arith;
      at_most_last = let x = q.germ_is.order in let y = h.is.order_is in let z = h.is.order_at_most_last in let w = c.order.ensures in omega arith;
    }

pub push_all-requires : goal.push_all-requires
push_all-requires g c =
    let a = c.args.algebra in
    let h = c.requires.stands in
    let f = germ_here a h.n h.last h.o h.germ h.moves c.args.chain.now h.is c.germ.result.now c.germ.ensures in
    let q = c.in_ok-made.ensures.chain h.n h.last (lifted a h.germ) (low_here a h.n h.last h.o h.germ h.moves c.args.chain.now h.is) f in
    record {
      ring = c.requires.algebra;
      ready = record {
        n = h.n;
        last = h.last;
        germ = lifted a h.germ;
        o = c.order.result;
        moves = map (lifted_move a) h.moves;
        is = c.in_ok-grow_to.ensures.chain h.n h.last 2 (lifted a h.germ) q;
        changes_are = moves_here a h.n h.last h.o h.germ h.moves c.args.chain.now h.is c.moves.result.now c.moves.ensures;
      };
    }

pub returns-in_err-push_all-clause-range : goal.returns-in_err-push_all-clause-range
returns-in_err-push_all-clause-range g c =
    let a = c.args.algebra in
    let p = c.args.chain.now in
    fault_handed_on _ c.from_residual-in_err-push_all.ensures.1
    (λ high n last o germ moves is.
    let q = c.in_ok-made.ensures.chain n last (lifted a germ) (low_here a n last o germ moves p is) (germ_here a n last o germ moves p is c.germ.result.now c.germ.ensures) in
    subst (λ k. IsCarryAllHigh n (scalars a) k (map (lifted_move a) moves) (jet n (scalars a) k (lifted a germ))) (c.order.ensures ∙ is.order_is)
    (high n last c.order.result (lifted a germ) (map (lifted_move a) moves) (c.in_ok-grow_to.ensures.chain n last 2 (lifted a germ) q) (moves_here a n last o germ moves p is c.moves.result.now c.moves.ensures)))
    c.in_err-push_all.ensures.range

pub returns-clause-chain : goal.returns-clause-chain
returns-clause-chain g c = λ n last o germ moves is.
    let a = c.args.algebra in
    let p = c.args.chain.now in
    let q = c.in_ok-made.ensures.chain n last (lifted a germ) (low_here a n last o germ moves p is) (germ_here a n last o germ moves p is c.germ.result.now c.germ.ensures) in
    subst (λ k. IsChain (algebra_meaning a) n last (lifted a germ) k (map (lifted_move a) moves) c.push_all.new.chain) (c.order.ensures ∙ is.order_is)
    (c.in_ok-push_all.ensures.chain n last c.order.result (lifted a germ) (map (lifted_move a) moves) (c.in_ok-grow_to.ensures.chain n last 2 (lifted a germ) q) (moves_here a n last o germ moves p is c.moves.result.now c.moves.ensures))
