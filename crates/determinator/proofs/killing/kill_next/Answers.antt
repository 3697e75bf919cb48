use Rattle.std.proofs.Common.{suc, ◌≤◌, sym, subst, ◌∙◌, arith}
use Rattle.ring_law.proofs.Exits.{fault_handed_on}
use Rattle.move_law.specs.Algebras.{lifted}
use Rattle.determinator.proofs.PartPlacing.{kill, kill_is, high_kill, high_push, jet_here, units_here, placed_after}
use Rattle.determinator.proofs.killing.kill_next.Goals as goal

pub extend2-requires-clause-jet : goal.extend2-requires-clause-jet
extend2-requires-clause-jet g c =
    let h = c.requires.placed in
    (jet_here h.n h.c h.last h.germ c.args.algebra c.args.part h.o h.moves c.args.chain.now h.is c.carried-f.result.now c.carried-f.ensures).jet

pub extend2-requires-clause-two_variables : goal.extend2-requires-clause-two_variables
extend2-requires-clause-two_variables g c =
    let h = c.requires.placed in
    let jet = jet_here h.n h.c h.last h.germ c.args.algebra c.args.part h.o h.moves c.args.chain.now h.is c.carried-f.result.now c.carried-f.ensures in
    let e = jet.variables in
    let few = h.is.place.corank in
    let two = h.is.part.two in
    omega arith

pub extend2-requires-clause-at_most_8_variables : goal.extend2-requires-clause-at_most_8_variables
extend2-requires-clause-at_most_8_variables g c =
    let h = c.requires.placed in
    let jet = jet_here h.n h.c h.last h.germ c.args.algebra c.args.part h.o h.moves c.args.chain.now h.is c.carried-f.result.now c.carried-f.ensures in
    subst (λ z. z ≤ 8) (sym jet.variables) h.is.place.chain_is.at_most_8_variables

pub extend2-requires-clause-base : goal.extend2-requires-clause-base
extend2-requires-clause-base g c = c.requires.placed.is.part.base

pub extend2-requires-clause-units : goal.extend2-requires-clause-units
extend2-requires-clause-units g c =
    let h = c.requires.placed in
    units_here h.n h.c h.last h.germ c.args.algebra c.args.part h.o h.moves c.args.chain.now h.is c.carried-f.result.now c.carried-f.ensures

pub extend2-requires-clause-above : goal.extend2-requires-clause-above
extend2-requires-clause-above g c =
    let h = c.requires.placed in
    let jet = jet_here h.n h.c h.last h.germ c.args.algebra c.args.part h.o h.moves c.args.chain.now h.is c.carried-f.result.now c.carried-f.ensures in
    let d = h.is.part.degree in
    let e = jet.order in
    let k = c.order.ensures in
    omega arith

pub returns-in_err-change-clause-range : goal.returns-in_err-change-clause-range
returns-in_err-change-clause-range g c =
    let a = c.args.algebra in
    fault_handed_on _ c.from_residual.ensures.1
    (λ high n k last o germ moves place. high_kill n k last germ a c.args.part o moves c.args.chain.now place c.carried-f.result.now c.order.result c.carried-f.ensures c.order.ensures high)
    c.in_err-change.ensures.range

pub push-requires-clause-stands : goal.push-requires-clause-stands
push-requires-clause-stands g c =
    let h = c.requires.placed in
    record { n = h.n; last = h.last; germ = lifted c.args.algebra h.germ; o = suc h.o; moves = h.moves; is = h.is.place.chain_is }

pub push-requires-clause-variables : goal.push-requires-clause-variables
push-requires-clause-variables g c =
    let h = c.requires.placed in
    let jet = jet_here h.n h.c h.last h.germ c.args.algebra c.args.part h.o h.moves c.args.chain.now h.is c.carried-f.result.now c.carried-f.ensures in
    c.in_ok-change.ensures.change.variables ∙ jet.variables ∙ sym h.is.place.chain_is.germ_is.variables

pub push-requires-clause-order : goal.push-requires-clause-order
push-requires-clause-order g c =
    let chain = c.requires.placed.is.place.chain_is in
    let e = chain.germ_is.order in
    let k = c.in_ok-change.ensures.change.order in
    let s = chain.last_at_most_16 in
    omega arith

pub returns-in_err-push-clause-range : goal.returns-in_err-push-clause-range
returns-in_err-push-clause-range g c =
    let a = c.args.algebra in
    let p = c.args.part in
    fault_handed_on _ c.from_residual-in_err-push.ensures.1
    (λ high n k last o germ moves place.
    high_push n k last germ a p o moves c.args.chain.now place
    (high n last (suc o) 16 (lifted a germ) moves (kill n k last germ a p o moves) place.place.chain_is place.place.chain_is.last_at_most_16
    (kill_is n k last germ a p o moves c.args.chain.now place c.carried-f.result.now c.order.result c.in_ok-change.change c.carried-f.ensures c.order.ensures c.in_ok-change.ensures.change)))
    c.in_err-push.ensures.range

pub returns-clause-chain : goal.returns-clause-chain
returns-clause-chain g c n k last o germ moves place =
    let a = c.args.algebra in
    let p = c.args.part in
    placed_after n k last germ a p o moves c.args.chain.now place c.requires.field _
    (c.in_ok-push.ensures.chain n last (suc o) 16 (lifted a germ) moves (kill n k last germ a p o moves) place.place.chain_is place.place.chain_is.last_at_most_16
    (kill_is n k last germ a p o moves c.args.chain.now place c.carried-f.result.now c.order.result c.in_ok-change.change c.carried-f.ensures c.order.ensures c.in_ok-change.ensures.change))
