use Rattle.std.proofs.Common.{◌≡◌, ◌+◌, ◌≤◌, [], ◌∷◌, ◌++◌, map, take, take_all, length, sym, ◌∙◌, ap, subst, refl, arith}
use Rattle.ring_law.proofs.Exits.{fault_handed_on}
use Rattle.jet_law.specs.Terms.{poly_of}
use Rattle.jet_law.specs.Canonical.{jet}
use Rattle.jet_poly.specs.JetTerms.{JetTerms}
use Rattle.jet_poly.specs.Jets.{IsJet}
use Rattle.jet_subst.specs.Parts.{jet_at}
use Rattle.jet_subst.proofs.PowerLemmas.{at_index}
use Rattle.jet_subst.proofs.Tables.{length-mapped}
use Rattle.coord_change.specs.declared.change.Change.{Change}
use Rattle.coord_change.specs.Changes.{IsChange}
use Rattle.coord_change.specs.Moves.{move_from}
use Rattle.coord_change.specs.Chains.{AreCarried}
use Rattle.coord_change.proofs.ChainLemmas
use Rattle.coord_change.proofs.GrowthLemmas
use Rattle.coord_change.proofs.growth.grown_jets.Goals as goal

pub loop-i-init : goal.loop-i-init
loop-i-init g c =
    let m = g.R.Ring.meaning c.args.ring.now in
    let n = c.args.f.now.n in
    let k = c.args.o + 1 in
    let f = jet n m.scalars k (poly_of n m.value c.args.f.now.terms) in
    let items : c.push.new.self.items ≡ c.in_ok-first.first ∷ [] = c.in_ok-push.ensures.items ∙ ap (λ zs. zs ++ c.in_ok-first.first ∷ []) c.new-grown.ensures.items in
    record {
      within = omega arith;
      carried = subst (AreCarried m n k [] f) (sym items) (ChainLemmas.carried_first m n k f c.in_ok-first.first c.in_ok-first.ensures.jet);
      steps = omega arith;
    }

pub extended_jet-requires : goal.extended_jet-requires
extended_jet-requires g c =
    let m = g.R.Ring.meaning c.args.ring.now in
    let l = (g.met.R.Ring.laws c.args.ring.now c.requires.ring).numbers in
    let n = c.args.f.now.n in
    let k = c.args.o + 1 in
    let f = jet n m.scalars k (poly_of n m.value c.args.f.now.terms) in
    let i = c.loop-i.i in
    let cs = c.args.moves.now in
    let b = ChainLemmas.before_is m n k i cs f c.loop-i.grown.items c.loop-i.invariant.within c.loop-i.invariant.carried in
    let here : c.index.result.now ≡ jet_at c.loop-i.grown.items i = at_index c.loop-i.grown.items i i c.index.result.now c.index.ensures refl (ChainLemmas.place_inside m n k i cs f c.loop-i.grown.items c.loop-i.invariant.within c.loop-i.invariant.carried) in
    let en : c.index-moves-i.result.n ≡ n = ap (λ (u : Change g.row.R-Elem.Denot). u.n) c.index-moves-i.is ∙ c.requires.variables i c.index-moves-i.result c.loop-i-test.true in
    let there : c.index-jets-i.result ≡ jet_at c.args.jets.now (i + 1) = at_index c.args.jets.now (i + 1) (i + 1) c.index-jets-i.result c.index-jets-i.is refl
    (let x = c.requires.carried.count in let y = length-mapped (move_from m n) cs in let z = c.loop-i-test.true in omega arith) in
    record {
      ring = c.requires.ring;
      change = subst (IsChange m) (sym c.index-moves-i.is) (c.requires.changes i c.index-moves-i.result c.loop-i-test.true);
      jet = subst (λ (u : JetTerms g.row.R-Elem.Denot). IsJet m u) (sym here) b.jet;
      same_variables = ap (λ (u : JetTerms g.row.R-Elem.Denot). u.n) here ∙ b.variables ∙ sym en;
      degree = let x : c.index.result.now.order ≡ k = ap (λ (u : JetTerms g.row.R-Elem.Denot). u.order) here ∙ b.order in omega arith;
      order_at_most_16 = c.requires.order_at_most_16;
      lower = GrowthLemmas.below m n l c.args.o i cs c.index-moves-i.result (poly_of n m.value c.args.f.now.terms) c.args.jets.now c.loop-i.grown.items c.index.result.now c.index-jets-i.result c.requires.changes c.requires.variables
          c.loop-i-test.true c.index-moves-i.is en c.requires.carried c.loop-i.invariant.carried here there;
    }

pub loop-i-preserved : goal.loop-i-preserved
loop-i-preserved g c =
    let m = g.R.Ring.meaning c.args.ring.now in
    let n = c.args.f.now.n in
    let k = c.args.o + 1 in
    let f = jet n m.scalars k (poly_of n m.value c.args.f.now.terms) in
    let i = c.loop-i.i in
    let cs = c.args.moves.now in
    let here : c.index.result.now ≡ jet_at c.loop-i.grown.items i = at_index c.loop-i.grown.items i i c.index.result.now c.index.ensures refl (ChainLemmas.place_inside m n k i cs f c.loop-i.grown.items c.loop-i.invariant.within c.loop-i.invariant.carried) in
    let en : c.index-moves-i.result.n ≡ n = ap (λ (u : Change g.row.R-Elem.Denot). u.n) c.index-moves-i.is ∙ c.requires.variables i c.index-moves-i.result c.loop-i-test.true in
    record {
      within = omega arith;
      carried = subst (AreCarried m n k (take (i + 1) (map (move_from m n) cs)) f) (sym c.in_ok-push-2.ensures.items)
          (ChainLemmas.carried_next m n k i cs c.index-moves-i.result f c.loop-i.grown.items c.index.result.now c.loop-i-test.true c.index-moves-i.is en here c.loop-i.invariant.carried c.in_ok-next.next c.in_ok-next.ensures.jet);
      steps = let x = c.in_ok-next.ensures.steps in let y = c.loop-i.invariant.steps in omega arith;
    }

pub returns-in_err-next-clause-range : goal.returns-in_err-next-clause-range
returns-in_err-next-clause-range g c =
    let m = g.R.Ring.meaning c.args.ring.now in
    let n = c.args.f.now.n in
    let k = c.args.o + 1 in
    let f = jet n m.scalars k (poly_of n m.value c.args.f.now.terms) in
    let i = c.loop-i.i in
    let cs = c.args.moves.now in
    let here : c.index.result.now ≡ jet_at c.loop-i.grown.items i = at_index c.loop-i.grown.items i i c.index.result.now c.index.ensures refl (ChainLemmas.place_inside m n k i cs f c.loop-i.grown.items c.loop-i.invariant.within c.loop-i.invariant.carried) in
    let en : c.index-moves-i.result.n ≡ n = ap (λ (u : Change g.row.R-Elem.Denot). u.n) c.index-moves-i.is ∙ c.requires.variables i c.index-moves-i.result c.loop-i-test.true in
    fault_handed_on _ c.from_residual-in_err-next.ensures.1
    (ChainLemmas.high_next m n k i cs c.index-moves-i.result f c.loop-i.grown.items c.index.result.now c.loop-i-test.true c.index-moves-i.is en here c.loop-i.invariant.carried)
    c.in_err-next.ensures.range

pub returns-clause-jets : goal.returns-clause-jets
returns-clause-jets g c =
    let m = g.R.Ring.meaning c.args.ring.now in
    let n = c.args.f.now.n in
    let k = c.args.o + 1 in
    let f = jet n m.scalars k (poly_of n m.value c.args.f.now.terms) in
    let last : length c.args.moves.now ≤ c.loop-i.i = c.loop-i-test.false in
    subst (λ ms. AreCarried m n k ms f c.loop-i.grown.items) (take_all c.loop-i.i (map (move_from m n) c.args.moves.now) (let y = length-mapped (move_from m n) c.args.moves.now in omega arith)) c.loop-i.invariant.carried
