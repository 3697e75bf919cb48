use Rattle.std.proofs.Common.{[], ◌∷◌, ◌++◌, sym, ◌∙◌, ap, subst}
use Rattle.ring_law.proofs.Exits.{fault_handed_on}
use Rattle.jet_law.specs.Terms.{poly_of}
use Rattle.jet_poly.specs.JetTerms.{JetTerms}
use Rattle.coord_change.specs.declared.change.Change.{Change}
use Rattle.coord_change.specs.Moves.{move_from}
use Rattle.coord_change.specs.Carries.{carry}
use Rattle.coord_change.specs.CarryHeights.{IsCarryHigh}
use Rattle.coord_change.specs.MoveJets.{IsJetFor}
use Rattle.coord_change.specs.Chains.{IsChain, carried_in}
use Rattle.coord_change.proofs.ChainLemmas
use Rattle.coord_change.proofs.chain.push.Goals as goal

pub returns-in_err-jet-clause-range : goal.returns-in_err-jet-clause-range
returns-in_err-jet-clause-range g c =
    let m = g.R.Ring.meaning c.args.ring.now in
    let change = c.args.change.now in
    fault_handed_on _ c.from_residual.ensures.1
    (λ high n last o k p moves move q le e. ChainLemmas.as_move m n last o k p moves move c.args.chain.now change q e (λ i z w f. IsCarryHigh z m.scalars i w f)
    (subst (λ i. IsCarryHigh change.n m.scalars i (move_from m change.n change) (poly_of change.n m.value (carried_in c.args.chain.now).terms)) c.order-2.ensures
    (subst (λ (u : JetTerms g.row.R-Elem.Denot). IsCarryHigh change.n m.scalars c.order-2.result (move_from m change.n change) (poly_of change.n m.value u.terms)) c.carried.ensures high)))
    c.in_err-jet.ensures.range

pub returns-clause-chain : goal.returns-clause-chain
returns-clause-chain g c n last o k p moves move q le e =
    let m = g.R.Ring.meaning c.args.ring.now in
    let change = c.args.change.now in
    let old = c.args.chain.now in
    subst (IsChain m n last p o (moves ++ move ∷ []))
    (sym (c.in_ok-add.ensures.added ∙ ap (λ (d : Change g.row.R-Elem.Denot). record { germ = old.germ; order = old.order; moves = old.moves ++ d ∷ []; jets = old.jets ++ c.in_ok-jet.jet ∷ [] }) c.in_ok-copy.ensures))
    (ChainLemmas.pushed m n last o k p moves move old change q e le c.in_ok-jet.jet
    (subst (λ i. IsJetFor m change.n i (carry change.n m.scalars i (move_from m change.n change) (poly_of change.n m.value (carried_in old).terms)) c.in_ok-jet.jet) c.order-2.ensures
    (subst (λ (u : JetTerms g.row.R-Elem.Denot). IsJetFor m change.n c.order-2.result (carry change.n m.scalars c.order-2.result (move_from m change.n change) (poly_of change.n m.value u.terms)) c.in_ok-jet.jet) c.carried.ensures c.in_ok-jet.ensures.jet)))

pub carried_jet-requires-clause-same_variables : goal.carried_jet-requires-clause-same_variables
carried_jet-requires-clause-same_variables g c =
    let m = g.R.Ring.meaning c.args.ring.now in
    let s = c.requires.stands in
    ap (λ (u : JetTerms g.row.R-Elem.Denot). u.n) c.carried.ensures ∙ (ChainLemmas.carried_is m s.n s.last s.o s.germ s.moves c.args.chain.now s.is).variables ∙ sym (c.requires.variables ∙ s.is.germ_is.variables)
