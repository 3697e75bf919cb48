use Rattle.std.proofs.Common.{◌≡◌, ℕ, ◌<◌, List, [], map, All, sym, ◌∙◌, ap, subst}
use Rattle.ring_law.proofs.Exits.{fault_handed_on}
use Rattle.jet_poly.specs.JetTerms.{JetTerms}
use Rattle.coord_change.specs.declared.change.Change.{Change}
use Rattle.coord_change.specs.Changes.{IsChange}
use Rattle.jet_subst.specs.Parts.{part_of}
use Rattle.coord_change.specs.Moves.{Move, move_from, variable_of}
use Rattle.coord_change.specs.Carries.{composite}
use Rattle.coord_change.specs.CarryHeights.{IsCompositeHigh}
use Rattle.coord_change.specs.MoveJets.{IsMoveExactly}
use Rattle.coord_change.proofs.ChainLemmas
use Rattle.coord_change.proofs.CompositeLemmas
use Rattle.coord_change.proofs.chain.composite.Goals as goal

pub composed-requires-clause-changes : goal.composed-requires-clause-changes
composed-requires-clause-changes g c =
    let m = g.R.Ring.meaning c.args.ring.now in
    let s = c.requires.stands in
    subst (λ (cs : List (Change g.row.R-Elem.Denot)). All (IsChange m) cs) (sym c.moves-moves.ensures) (ChainLemmas.changes m s.n s.last s.moves c.args.chain.now.moves s.is.moves_are)

pub composed-requires-clause-variables : goal.composed-requires-clause-variables
composed-requires-clause-variables g c =
    let m = g.R.Ring.meaning c.args.ring.now in
    let s = c.requires.stands in
    let size = c.n-n.ensures ∙ ap (λ (u : JetTerms g.row.R-Elem.Denot). u.n) c.germ.ensures ∙ s.is.germ_is.variables in
    subst (λ (cs : List (Change g.row.R-Elem.Denot)). All (λ d. d.n ≡ c.n-n.result) cs) (sym c.moves-moves.ensures)
    (subst (λ z. All (λ (d : Change g.row.R-Elem.Denot). d.n ≡ z) c.args.chain.now.moves) (sym size)
    (ChainLemmas.variables m s.n s.last s.moves c.args.chain.now.moves s.is.moves_are))

pub returns-in_err-all-clause-range : goal.returns-in_err-all-clause-range
returns-in_err-all-clause-range g c =
    let m = g.R.Ring.meaning c.args.ring.now in
    fault_handed_on _ c.from_residual-in_err-all.ensures.1
    (λ high n last o p moves q. ChainLemmas.as_moves m n last o p moves c.args.chain.now q (λ i z w. IsCompositeHigh z m.scalars i w) c.n-n.result c.order-2.result c.moves-moves.result.now
    (c.n-n.ensures ∙ ap (λ (u : JetTerms g.row.R-Elem.Denot). u.n) c.germ.ensures) c.order-2.ensures c.moves-moves.ensures high)
    c.in_err-all.ensures.range

pub returns-clause-change : goal.returns-clause-change
returns-clause-change g c n last o p moves q =
    let m = g.R.Ring.meaning c.args.ring.now in
    ChainLemmas.as_moves m n last o p moves c.args.chain.now q (λ i z w. IsMoveExactly m z i (composite z m.scalars i w) c.in_ok-all.all) c.n-n.result c.order-2.result c.moves-moves.result.now
    (c.n-n.ensures ∙ ap (λ (u : JetTerms g.row.R-Elem.Denot). u.n) c.germ.ensures) c.order-2.ensures c.moves-moves.ensures c.in_ok-all.ensures.change

pub returns-then-is_empty-clause-change : goal.returns-then-is_empty-clause-change
returns-then-is_empty-clause-change g c n last o p moves q =
    let m = g.R.Ring.meaning c.args.ring.now in
    let none : c.moves-moves.result.now ≡ [] = ChainLemmas.none_left c.moves-moves.result.now c.is_empty.result c.is_empty.ensures c.if-is_empty.true in
    let e = c.in_ok-unit.ensures in
    let size = c.n-n.ensures ∙ ap (λ (u : JetTerms g.row.R-Elem.Denot). u.n) c.germ.ensures ∙ q.germ_is.variables in
    subst (λ ms. IsMoveExactly m n o (composite n m.scalars o ms) c.in_ok-unit.unit) (sym (sym (ChainLemmas.moves_are m n last moves c.args.chain.now.moves q.moves_are) ∙ ap (map (move_from m n)) (sym c.moves-moves.ensures ∙ none)))
    (CompositeLemmas.identity_is m n o c.in_ok-unit.unit e.change (e.n ∙ size) (e.order ∙ c.order.ensures ∙ q.order_is)
    (λ i h. subst (λ z. (j : ℕ) → j < z → part_of z m.value c.in_ok-unit.unit.parts j ≡ variable_of z m.scalars j) size e.parts i h))
