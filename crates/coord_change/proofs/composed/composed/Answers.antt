use Rattle.std.proofs.Common.{◌+◌, ◌<◌, map, length, sym, ◌∙◌, ap, subst, refl, arith}
use Rattle.ring_law.proofs.Exits.{fault_handed_on}
use Rattle.jet_law.specs.Canonical.{jet}
use Rattle.coord_change.specs.declared.change.Change.{Change}
use Rattle.coord_change.specs.Changes.{IsChange}
use Rattle.coord_change.specs.Moves.{move_from}
use Rattle.coord_change.specs.MoveJets.{IsMoveExactly}
use Rattle.coord_change.proofs.CompositeLemmas
use Rattle.coord_change.proofs.composed.composed.Goals as goal

pub loop-i-init : goal.loop-i-init
loop-i-init g c =
    let m = g.R.Ring.meaning c.args.ring.now in
    let first = c.in_ok-all.ensures ∙ c.index-moves-0.is in
    record {
      within = let z = c.requires.given in omega arith;
      change = subst (IsChange m) (sym first) (c.requires.changes 0 c.index-moves-0.result c.requires.given);
      variables = ap (λ (u : Change g.row.R-Elem.Denot). u.n) first ∙ c.requires.variables 0 c.index-moves-0.result c.requires.given;
      moves = ap (move_from m c.args.n) c.in_ok-all.ensures ∙ CompositeLemmas.composed_first m c.args.n c.args.k c.args.moves.now c.index-moves-0.result c.requires.given c.index-moves-0.is;
    }

pub then-requires-clause-next_change : goal.then-requires-clause-next_change
then-requires-clause-next_change g c =
    let m = g.R.Ring.meaning c.args.ring.now in
    subst (IsChange m) (sym c.index-moves-next.is) (c.requires.changes (c.loop-i.i + 1) c.index-moves-next.result (let a = c.loop-i-test.true in omega arith))

pub then-requires-clause-same_variables : goal.then-requires-clause-same_variables
then-requires-clause-same_variables g c =
    ap (λ (u : Change g.row.R-Elem.Denot). u.n) c.index-moves-next.is ∙ c.requires.variables (c.loop-i.i + 1) c.index-moves-next.result (let a = c.loop-i-test.true in omega arith) ∙ sym c.loop-i.invariant.variables

pub loop-i-preserved : goal.loop-i-preserved
loop-i-preserved g c =
    let m = g.R.Ring.meaning c.args.ring.now in
    let inv = c.loop-i.invariant in
    let e = c.in_ok-longer.ensures in
    let inside : c.loop-i.i + 1 < length c.args.moves.now = let a = c.loop-i-test.true in omega arith in
    record {
      within = omega arith;
      change = e.change;
      variables = e.n ∙ inv.variables;
      moves = CompositeLemmas.longer_is m c.args.n c.args.k c.loop-i.i (c.loop-i.i + 1) c.args.moves.now c.loop-i.all c.index-moves-next.result refl inside c.index-moves-next.is inv.variables inv.moves c.in_ok-longer.longer e.moves;
    }

pub returns-in_err-longer-clause-range : goal.returns-in_err-longer-clause-range
returns-in_err-longer-clause-range g c =
    let m = g.R.Ring.meaning c.args.ring.now in
    let inv = c.loop-i.invariant in
    let inside : c.loop-i.i + 1 < length c.args.moves.now = let a = c.loop-i-test.true in omega arith in
    let is_change = subst (IsChange m) (sym c.index-moves-next.is) (c.requires.changes (c.loop-i.i + 1) c.index-moves-next.result inside) in
    let in_n = ap (λ (u : Change g.row.R-Elem.Denot). u.n) c.index-moves-next.is ∙ c.requires.variables (c.loop-i.i + 1) c.index-moves-next.result inside in
    fault_handed_on _ c.from_residual-in_err-longer.ensures.1
    (CompositeLemmas.longer_high m c.args.n c.args.k c.loop-i.i (c.loop-i.i + 1) c.args.moves.now c.loop-i.all c.index-moves-next.result refl inside c.index-moves-next.is inv.variables inv.moves inv.change is_change in_n)
    c.in_err-longer.ensures.range

pub returns-clause-change : goal.returns-clause-change
returns-clause-change g c =
    let m = g.R.Ring.meaning c.args.ring.now in
    let l = (g.met.R.Ring.laws c.args.ring.now c.requires.ring).numbers in
    let n = c.args.n in
    let k = c.args.k in
    let inv = c.loop-i.invariant in
    let cut : IsMoveExactly m n k (map (jet n m.scalars k) (move_from m n c.loop-i.all)) c.in_ok-last.last =
    subst (λ z. IsMoveExactly m z k (map (jet z m.scalars k) (move_from m z c.loop-i.all)) c.in_ok-last.last) inv.variables c.in_ok-last.ensures.change in
    subst (λ w. IsMoveExactly m n k w c.in_ok-last.last)
    (ap (map (jet n m.scalars k)) inv.moves
    ∙ CompositeLemmas.composite_of_moves m n l k c.loop-i.i c.args.moves.now c.requires.given (let a = c.loop-i-test.false in let b = c.requires.given in omega arith) c.requires.changes c.requires.variables)
    cut
