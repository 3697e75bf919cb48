use Rattle.std.proofs.Common.{◌≡◌, ℕ, ◌+◌, ◌<◌, List, [], ◌∷◌, length, All, length-append, sym, ◌∙◌, ap, subst, arith}
use Rattle.ring_theory.proofs.ValueSet.{values_are_set}
use Rattle.poly_law.specs.Sums.{unit_at}
use Rattle.poly_law.specs.Exps.{variable}
use Rattle.poly_law.specs.ExpList.{exps}
use Rattle.poly_law.specs.Poly.{coefficient, term}
use Rattle.poly_law.proofs.ExpLists.{exps_are}
use Rattle.jet_poly.specs.JetTerms.{JetTerms}
use Rattle.jet_subst.specs.Parts.{IsPart, part_of}
use Rattle.jet_subst.proofs.Tables.{all_push}
use Rattle.coord_change.specs.Changes.{IsChange, entry_of}
use Rattle.coord_change.proofs.ChangeLemmas
use Rattle.coord_change.proofs.unit.identity.Goals as goal

pub loop-i-preserved : goal.loop-i-preserved
loop-i-preserved g c =
    let m = g.R.Ring.meaning c.args.ring.now in
    let n = c.args.n in
    let part = c.in_ok-part.part in
    let e = c.in_ok-part.ensures in
    let items = c.in_ok-push.ensures.items in
    record {
      count = ap length items ∙ length-append c.loop-i.parts.items (part ∷ []) ∙ ap (λ z. z + 1) c.loop-i.invariant.count;
      jets = subst (All (IsPart m n)) (sym items) (all_push (IsPart m n) c.loop-i.parts.items part c.loop-i.invariant.jets (record { jet = e.jet; variables = e.n }));
      orders = subst (All (λ (p : JetTerms g.row.R-Elem.Denot). p.order ≡ c.args.order)) (sym items) (all_push (λ (p : JetTerms g.row.R-Elem.Denot). p.order ≡ c.args.order) c.loop-i.parts.items part c.loop-i.invariant.orders e.order);
      values = subst (λ (zs : List (JetTerms g.row.R-Elem.Denot)). (j : ℕ) → j < c.loop-i.i + 1 → part_of n m.value zs j ≡ term (exps n) m.scalars.ops (variable (exps n) j)) (sym items)
          (ChangeLemmas.parts_more m n (λ j f. f ≡ term (exps n) m.scalars.ops (variable (exps n) j)) c.loop-i.parts.items part c.loop-i.i c.loop-i.invariant.count c.loop-i.invariant.values e.value);
    }

pub returns-clause-change : goal.returns-clause-change
returns-clause-change g c =
    let m = g.R.Ring.meaning c.args.ring.now in
    let l = (g.met.R.Ring.laws c.args.ring.now c.requires.ring).numbers in
    let n = c.args.n in
    let r = m.scalars.ops in
    let last = c.loop-i-test.false in
    let end = c.loop-i.auto.i-end in
    let count = c.loop-i.invariant.count in
    subst (λ (zs : List (JetTerms g.row.R-Elem.Denot)). IsChange m (record { n = n; order = c.args.order; parts = zs; inverse = c.from_vec-2.result })) (sym c.from_vec.ensures)
    (subst (λ (es : List g.row.R-Elem.Denot). IsChange m (record { n = n; order = c.args.order; parts = c.loop-i.parts.items; inverse = es })) (sym c.from_vec-2.ensures)
    (record {
      given = c.requires.given;
      at_most_8_variables = c.requires.at_most_8_variables;
      order_at_most_17 = c.requires.order_at_most_17;
      count = omega arith;
      parts = c.loop-i.invariant.jets;
      orders = c.loop-i.invariant.orders;
      elems = c.in_ok-inverse.ensures.elems;
      entries = c.in_ok-inverse.ensures.count;
      invertible = ChangeLemmas.invertible_same_to (exps n) (exps_are n) r l.ring (λ i. term (exps n) r (variable (exps n) i)) (part_of n m.value c.loop-i.parts.items) (unit_at r) (entry_of m n c.in_ok-inverse.inverse.items)
          (λ i h b _. sym (ap (λ z. coefficient (exps n) r z b) (c.loop-i.invariant.values i (omega arith)))) (λ i j h y. sym (c.in_ok-inverse.ensures.entries i j h y))
          (ChangeLemmas.identity_invertible (exps n) (exps_are n) r l.ring (values_are_set m.scalars l));
    }))
