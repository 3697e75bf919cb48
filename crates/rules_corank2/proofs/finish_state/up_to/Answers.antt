use Rattle.std.proofs.Common.{◌≡◌, ◌+◌, ◌<◌, ◌≤◌, List, [], ◌∷◌, ◌++◌, map, take, take_all, length, get_or, All, length-append, sym, ◌∙◌, ap, ap₂, refl, subst, arith}
use Rattle.std.proofs.lemmas.List.{map-append, take_more}
use Rattle.jet_law.specs.Terms.{poly_of}
use Rattle.jet_law.specs.Canonical.{jet}
use Rattle.jet_poly.specs.JetTerms.{JetTerms}
use Rattle.jet_subst.specs.Parts.{IsPart, jet_at}
use Rattle.jet_subst.proofs.PowerLemmas.{any_default}
use Rattle.jet_subst.proofs.Tables.{all_push}
use Rattle.coord_change.specs.Moves.{move_from}
use Rattle.coord_change.specs.MoveJets.{IsJetFor, IsMoveExactly}
use Rattle.mono_exp.specs.declared.exponent.Exp.{Exp}
use Rattle.jet_poly.specs.JetTerms.{IsRising}
use Rattle.coord_change.proofs.Canonicals
use Rattle.coord_change.proofs.CompositeLemmas
use Rattle.rules_corank2.proofs.finish_state.up_to.Goals as goal

pub loop-part-preserved : goal.loop-part-preserved
loop-part-preserved g c =
    let m = g.R.Ring.meaning c.args.ring.now in
    let old = c.args.c.now in
    let n = old.n in
    let k = c.args.k in
    let idx = c.loop-part.part-index in
    let part = c.in_ok-jet.jet in
    let items = c.in_ok-push.ensures.items in
    let inside : idx < length old.parts = subst (λ (zs : List (JetTerms g.row.R-Elem.Denot)). idx < length zs) c.as_slice-part-items.ensures c.loop-part-test.true in
    let read : c.part-item.result ≡ get_or old.parts idx c.part-item.result = c.part-item.is ∙ ap (λ zs. get_or zs idx c.part-item.result) c.as_slice-part-items.ensures in
    let here : c.part-item.result ≡ jet_at old.parts idx = read ∙ any_default old.parts idx c.part-item.result _ inside in
    let en : c.part-item.result.n ≡ n = ap (λ (p : JetTerms g.row.R-Elem.Denot). p.n) read ∙ (c.requires.change.parts idx c.part-item.result inside).variables in
    let e : IsJetFor m n k (jet n m.scalars k (poly_of n m.value c.part-item.result.terms)) part =
    subst (λ z. IsJetFor m z k (jet z m.scalars k (poly_of z m.value c.part-item.result.terms)) part) en
    (let h = c.in_ok-jet.ensures in
    Canonicals.is_jet_for m c.part-item.result.n (g.met.R.Ring.laws c.args.ring.now c.requires.ring).numbers k part (poly_of c.part-item.result.n m.value c.part-item.result.terms) h.jet h.n h.order
    (subst (λ (zs : List (Exp × g.row.R-Elem.Denot)). IsRising zs) c.terms.ensures.terms c.terms.ensures.rising)
    (Canonicals.cut_agrees m c.part-item.result.n (g.met.R.Ring.laws c.args.ring.now c.requires.ring).numbers k (poly_of c.part-item.result.n m.value part.terms) (poly_of c.part-item.result.n m.value c.part-item.result.terms) h.cut)) in
    record {
      within = omega arith;
      count = ap length items ∙ length-append c.loop-part.parts.items (part ∷ []) ∙ ap (λ z. z + 1) c.loop-part.invariant.count;
      jets = subst (All (IsPart m n)) (sym items) (all_push (IsPart m n) c.loop-part.parts.items part c.loop-part.invariant.jets (record { jet = e.jet; variables = e.variables }));
      orders = subst (All (λ (p : JetTerms g.row.R-Elem.Denot). p.order ≡ k)) (sym items) (all_push (λ (p : JetTerms g.row.R-Elem.Denot). p.order ≡ k) c.loop-part.parts.items part c.loop-part.invariant.orders e.order);
      cut =
          ap (map (λ (p : JetTerms g.row.R-Elem.Denot). poly_of n m.value p.terms)) items
          ∙ map-append (λ (p : JetTerms g.row.R-Elem.Denot). poly_of n m.value p.terms) c.loop-part.parts.items (part ∷ [])
          ∙ ap₂ (λ xs x. xs ++ x ∷ []) c.loop-part.invariant.cut (e.polynomial ∙ ap (λ (u : JetTerms g.row.R-Elem.Denot). jet n m.scalars k (poly_of n m.value u.terms)) here)
          ∙ sym (ap (map (λ (p : JetTerms g.row.R-Elem.Denot). jet n m.scalars k (poly_of n m.value p.terms))) (take_more old.parts idx (jet_at old.parts idx) inside ∙ ap (λ x. take idx old.parts ++ x ∷ []) (any_default old.parts idx _ _ inside))
          ∙ map-append (λ (p : JetTerms g.row.R-Elem.Denot). jet n m.scalars k (poly_of n m.value p.terms)) (take idx old.parts) (jet_at old.parts idx ∷ []));
    }

pub returns-clause-change : goal.returns-clause-change
returns-clause-change g c =
    let m = g.R.Ring.meaning c.args.ring.now in
    let l = (g.met.R.Ring.laws c.args.ring.now c.requires.ring).numbers in
    let old = c.args.c.now in
    let n = old.n in
    let k = c.args.k in
    let all : length old.parts ≤ c.loop-part.part-index = subst (λ (zs : List (JetTerms g.row.R-Elem.Denot)). length zs ≤ c.loop-part.part-index) c.as_slice-part-items.ensures c.loop-part-test.false in
    let inv = c.loop-part.invariant in
    subst (λ (zs : List (JetTerms g.row.R-Elem.Denot)). IsMoveExactly m n k (map (jet n m.scalars k) (move_from m n old)) (record { n = n; order = k; parts = zs; inverse = c.in_ok-inverse.inverse })) (sym c.from_vec.ensures)
    (subst (λ (es : List g.row.R-Elem.Denot). IsMoveExactly m n k (map (jet n m.scalars k) (move_from m n old)) (record { n = n; order = k; parts = c.loop-part.parts.items; inverse = es })) (sym (c.in_ok-inverse.ensures ∙ c.as_slice.ensures))
    (CompositeLemmas.change_cut m n l k c.requires.order_at_least_1 c.requires.order_at_most_17 old c.loop-part.parts.items c.requires.change refl
    (let x = inv.count in let y = inv.within in omega arith) inv.jets inv.orders
    (inv.cut ∙ ap (map (λ (p : JetTerms g.row.R-Elem.Denot). jet n m.scalars k (poly_of n m.value p.terms))) (take_all c.loop-part.part-index old.parts all))))
