use Rattle.std.proofs.Common.{◌≡◌, ℕ, ◌+◌, ◌<◌, List, [], ◌∷◌, length, All, length-append, sym, ◌∙◌, ap, subst, arith}
use Rattle.poly_law.specs.Polynomials.{SameIn}
use Rattle.jet_poly.specs.JetTerms.{JetTerms}
use Rattle.jet_subst.specs.Parts.{IsPart, part_of}
use Rattle.jet_subst.proofs.Tables.{all_push}
use Rattle.coord_change.specs.Changes.{entry_of}
use Rattle.coord_change.specs.Linear.{linear_form}
use Rattle.coord_change.proofs.ChangeLemmas
use Rattle.coord_change.proofs.forms.linear_jets.Goals as goal

pub loop-i-preserved : goal.loop-i-preserved
loop-i-preserved g c =
    let m = g.R.Ring.meaning c.args.ring.now in
    let n = c.args.n in
    let jet = c.in_ok-jet.jet in
    let e = c.in_ok-jet.ensures in
    let items = c.in_ok-push.ensures.items in
    record {
      count = ap length items ∙ length-append c.loop-i.jets.items (jet ∷ []) ∙ ap (λ z. z + 1) c.loop-i.invariant.count;
      jets = subst (All (IsPart m n)) (sym items) (all_push (IsPart m n) c.loop-i.jets.items jet c.loop-i.invariant.jets (record { jet = e.jet; variables = e.n }));
      orders = subst (All (λ (p : JetTerms g.row.R-Elem.Denot). p.order ≡ c.args.order)) (sym items) (all_push (λ (p : JetTerms g.row.R-Elem.Denot). p.order ≡ c.args.order) c.loop-i.jets.items jet c.loop-i.invariant.orders e.order);
      values = subst (λ (zs : List (JetTerms g.row.R-Elem.Denot)). (j : ℕ) → j < c.loop-i.i + 1 → SameIn n m.scalars.ops (part_of n m.value zs j) (linear_form n m.scalars.ops (entry_of m n c.args.matrix.now j))) (sym items)
          (ChangeLemmas.parts_more m n (λ j f. SameIn n m.scalars.ops f (linear_form n m.scalars.ops (entry_of m n c.args.matrix.now j))) c.loop-i.jets.items jet c.loop-i.i c.loop-i.invariant.count c.loop-i.invariant.values e.value);
    }

pub returns-clause-values : goal.returns-clause-values
returns-clause-values g c i h =
    let last = c.loop-i-test.false in
    let end = c.loop-i.auto.i-end in
    c.loop-i.invariant.values i (omega arith)
