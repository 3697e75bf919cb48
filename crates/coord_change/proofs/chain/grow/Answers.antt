use Rattle.std.proofs.Common.{◌≡◌, ◌+◌, suc, List, map, length, All, sym, ◌∙◌, ap, subst, arith}
use Rattle.ring_law.proofs.Exits.{fault_handed_on}
use Rattle.jet_law.specs.Canonical.{jet}
use Rattle.jet_poly.specs.JetTerms.{JetTerms}
use Rattle.jet_poly.specs.Jets.{IsJet}
use Rattle.jet_subst.proofs.Tables.{length-mapped}
use Rattle.coord_change.specs.declared.change.Change.{Change}
use Rattle.coord_change.specs.Changes.{IsChange}
use Rattle.coord_change.specs.Moves.{move_from}
use Rattle.coord_change.specs.CarryHeights.{IsCarryAllHigh}
use Rattle.coord_change.specs.Chains.{IsChain, AreCarried}
use Rattle.coord_change.proofs.ChainLemmas
use Rattle.coord_change.proofs.chain.grow.Goals as goal

pub grown_jets-requires-clause-jet : goal.grown_jets-requires-clause-jet
grown_jets-requires-clause-jet g c =
    let m = g.R.Ring.meaning c.args.ring.now in
    subst (λ (u : JetTerms g.row.R-Elem.Denot). IsJet m u) (sym c.germ.ensures) c.requires.stands.is.germ_is.jet

pub grown_jets-requires-clause-changes : goal.grown_jets-requires-clause-changes
grown_jets-requires-clause-changes g c =
    let m = g.R.Ring.meaning c.args.ring.now in
    let s = c.requires.stands in
    subst (λ (cs : List (Change g.row.R-Elem.Denot)). All (IsChange m) cs) (sym c.moves.ensures) (ChainLemmas.changes m s.n s.last s.moves c.args.chain.now.moves s.is.moves_are)

pub grown_jets-requires-clause-variables : goal.grown_jets-requires-clause-variables
grown_jets-requires-clause-variables g c =
    let m = g.R.Ring.meaning c.args.ring.now in
    let s = c.requires.stands in
    subst (λ (cs : List (Change g.row.R-Elem.Denot)). All (λ d. d.n ≡ c.germ.result.now.n) cs) (sym c.moves.ensures)
    (subst (λ z. All (λ (d : Change g.row.R-Elem.Denot). d.n ≡ z) c.args.chain.now.moves) (sym (ap (λ (u : JetTerms g.row.R-Elem.Denot). u.n) c.germ.ensures ∙ s.is.germ_is.variables))
    (ChainLemmas.variables m s.n s.last s.moves c.args.chain.now.moves s.is.moves_are))

pub grown_jets-requires-clause-carried : goal.grown_jets-requires-clause-carried
grown_jets-requires-clause-carried g c =
    let m = g.R.Ring.meaning c.args.ring.now in
    let l = (g.met.R.Ring.laws c.args.ring.now c.requires.ring).numbers in
    let s = c.requires.stands in
    let chain = c.args.chain.now in
    ChainLemmas.of_changes m s.n l s.last s.o c.order-o.result s.germ s.moves chain s.is (c.order-o.ensures ∙ s.is.order_is) (λ i z w f. AreCarried m z i w f c.jets.result.now) c.germ.result.now c.moves.result.now c.germ.ensures c.moves.ensures
    (subst (λ (js : List (JetTerms g.row.R-Elem.Denot)). AreCarried m s.n s.o s.moves (jet s.n m.scalars s.o s.germ) js) (sym c.jets.ensures) (record { count = s.is.count; each = s.is.jets_are }))

pub returns-in_err-jets-clause-range : goal.returns-in_err-jets-clause-range
returns-in_err-jets-clause-range g c =
    let m = g.R.Ring.meaning c.args.ring.now in
    let l = (g.met.R.Ring.laws c.args.ring.now c.requires.ring).numbers in
    fault_handed_on _ c.from_residual.ensures.1
    (λ high n last o p moves q. ChainLemmas.as_germ m n l last o (c.order-o.result + 1) p moves c.args.chain.now q (let a = c.order-o.ensures in let b = q.order_is in omega arith)
    (let a = c.order-o.ensures in let b = c.requires.below_last in let d = q.germ_is.order in omega arith)
    (λ i z w f. IsCarryAllHigh z m.scalars i w f) c.germ.result.now c.moves.result.now c.germ.ensures c.moves.ensures high)
    c.in_err-jets.ensures.range

pub set-requires : goal.set-requires
set-requires g c =
    let m = g.R.Ring.meaning c.args.ring.now in
    let a = c.in_ok-jets.ensures.jets.count in
    let b = length-mapped (move_from m c.germ.result.now.n) c.moves.result.now in
    let d = ap length c.moves.ensures in
    record { count = omega arith }

pub returns-clause-chain : goal.returns-clause-chain
returns-clause-chain g c n last o p moves q =
    let m = g.R.Ring.meaning c.args.ring.now in
    let l = (g.met.R.Ring.laws c.args.ring.now c.requires.ring).numbers in
    subst (IsChain m n last p (suc o) moves) (sym c.set.ensures)
    (ChainLemmas.grown m n l last o (c.order-o.result + 1) p moves c.args.chain.now q (let a = c.order-o.ensures in let b = q.order_is in omega arith)
    (let a = c.order-o.ensures in let b = c.requires.below_last in let d = q.germ_is.order in omega arith)
    c.germ.result.now c.moves.result.now c.in_ok-jets.jets.items c.germ.ensures c.moves.ensures c.in_ok-jets.ensures.jets)
