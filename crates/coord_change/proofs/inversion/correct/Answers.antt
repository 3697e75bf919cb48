use Rattle.std.proofs.Common.{◌≡◌, ◌<◌, ◌+◌, ◌++◌, ℕ, inr, List, [], ◌∷◌, length, get_or, All, length-append, sym, ◌∙◌, ap, subst, arith}
use Rattle.ring_law.proofs.Exits.{fault_handed_on}
use Rattle.poly_law.specs.Polynomials.{SameIn, StartsAtIn, poly_in, cut_in, substitute}
use Rattle.jet_law.specs.Terms.{poly_of}
use Rattle.jet_poly.specs.JetTerms.{JetTerms}
use Rattle.jet_subst.specs.Parts.{IsPart, jet_at, part_of}
use Rattle.jet_subst.proofs.PowerLemmas.{any_default}
use Rattle.jet_subst.proofs.Tables.{all_push}
use Rattle.coord_change.specs.Changes.{entry_of}
use Rattle.coord_change.specs.InverseChanges.{combination_of, corrected, CombinationIsHigh}
use Rattle.coord_change.proofs.ChangeLemmas
use Rattle.coord_change.proofs.InverseSteps
use Rattle.coord_change.proofs.inversion.correct.Goals as goal

pub combination-requires-clause-starts : goal.combination-requires-clause-starts
combination-requires-clause-starts g c t h =
    let m = g.R.Ring.meaning c.args.ring.now in
    let laws = (g.met.R.Ring.laws c.args.ring.now c.requires.ring).numbers in
    let n = c.args.c.now.n in
    subst (λ (zs : List (JetTerms g.row.R-Elem.Denot)). StartsAtIn n m.scalars.ops c.args.d (part_of n m.value zs t)) (sym c.deref.ensures.value)
    (InverseSteps.component_starts n m.scalars.ops laws.ring c.args.d (substitute n n m.scalars.ops (part_of n m.value c.args.jets.now) (part_of n m.value c.args.c.now.parts t)) (part_of n m.value c.in_ok-terms.terms.items t) (c.in_ok-terms.ensures.components t h))

pub returns-in_err-change-clause-range : goal.returns-in_err-change-clause-range
returns-in_err-change-clause-range g c =
    let m = g.R.Ring.meaning c.args.ring.now in
    let n = c.args.c.now.n in
    fault_handed_on _ c.from_residual-in_err-change.ensures.1
    (λ high. inr (record {
      terms = part_of n m.value c.in_ok-terms.terms.items;
      are = c.in_ok-terms.ensures.components;
      row = c.loop-u.u;
      inside = c.loop-u-test.true;
      high = subst (λ (zs : List (JetTerms g.row.R-Elem.Denot)). CombinationIsHigh n m.scalars (entry_of m n c.args.c.now.inverse c.loop-u.u) (part_of n m.value zs) c.args.d) c.deref.ensures.value
          (subst (λ (es : List g.row.R-Elem.Denot). CombinationIsHigh n m.scalars (entry_of m n es c.loop-u.u) (part_of n m.value c.deref.result.now) c.args.d) c.as_slice.ensures high);
    }))
    c.in_err-change.ensures.range

pub loop-u-preserved : goal.loop-u-preserved
loop-u-preserved g c =
    let m = g.R.Ring.meaning c.args.ring.now in
    let laws = (g.met.R.Ring.laws c.args.ring.now c.requires.ring).numbers in
    let n = c.args.c.now.n in
    let u = c.loop-u.u in
    let d = c.args.d in
    let ops = m.scalars.ops in
    let row = entry_of m n c.args.c.now.inverse u in
    let terms = part_of n m.value c.in_ok-terms.terms.items in
    let next = c.in_ok-next.next in
    let items = c.in_ok-push.ensures.items in
    let within : u < length c.args.jets.now = (let e = c.requires.count in let h = c.loop-u-test.true in omega arith) in
    let read : c.index-jets-from.result ≡ get_or c.args.jets.now u c.index-jets-from.result = c.index-jets-from.is ∙ ap (λ z. get_or c.args.jets.now z c.index-jets-from.result) c.from.ensures in
    let here : c.index-jets-from.result ≡ jet_at c.args.jets.now u = read ∙ any_default c.args.jets.now u c.index-jets-from.result _ within in
    let variables : c.index-jets-from.result.n ≡ n = ap (λ (p : JetTerms g.row.R-Elem.Denot). p.n) read ∙ (c.requires.jets u c.index-jets-from.result within).variables in
    let change : SameIn n ops (poly_of n m.value c.in_ok-change.change.terms) (cut_in n ops d (combination_of n ops row terms)) =
    subst (λ (zs : List (JetTerms g.row.R-Elem.Denot)). SameIn n ops (poly_of n m.value c.in_ok-change.change.terms) (cut_in n ops d (combination_of n ops row (part_of n m.value zs)))) c.deref.ensures.value
    (subst (λ (es : List g.row.R-Elem.Denot). SameIn n ops (poly_of n m.value c.in_ok-change.change.terms) (cut_in n ops d (combination_of n ops (entry_of m n es u) (part_of n m.value c.deref.result.now)))) c.as_slice.ensures c.in_ok-change.ensures.value) in
    let difference : poly_of n m.value next.terms ≡ part_of n m.value c.args.jets.now u ++ (poly_in n ops).neg (poly_of n m.value c.in_ok-change.change.terms) =
    subst (λ z. poly_of z m.value next.terms ≡ poly_of z m.value c.index-jets-from.result.terms ++ (poly_in z ops).neg (poly_of z m.value c.in_ok-change.change.terms)) variables c.in_ok-next.ensures.difference
    ∙ ap (λ (p : JetTerms g.row.R-Elem.Denot). poly_of n m.value p.terms ++ (poly_in n ops).neg (poly_of n m.value c.in_ok-change.change.terms)) here in
    let value : SameIn n ops (poly_of n m.value next.terms) (corrected n ops (part_of n m.value c.args.c.now.parts) (entry_of m n c.args.c.now.inverse) (part_of n m.value c.args.jets.now) d u) =
    InverseSteps.corrected_made n ops laws.ring row (part_of n m.value c.args.jets.now u) (poly_of n m.value c.in_ok-change.change.terms) (poly_of n m.value next.terms) terms
    (λ t. substitute n n ops (part_of n m.value c.args.jets.now) (part_of n m.value c.args.c.now.parts t)) d c.in_ok-terms.ensures.components change difference in
    record {
      count = ap length items ∙ length-append c.loop-u.all.items (next ∷ []) ∙ ap (λ z. z + 1) c.loop-u.invariant.count;
      jets = subst (All (IsPart m n)) (sym items) (all_push (IsPart m n) c.loop-u.all.items next c.loop-u.invariant.jets (record { jet = c.in_ok-next.ensures.jet; variables = c.in_ok-next.ensures.n ∙ variables }));
      orders = subst (All (λ (p : JetTerms g.row.R-Elem.Denot). p.order ≡ d)) (sym items) (all_push (λ (p : JetTerms g.row.R-Elem.Denot). p.order ≡ d) c.loop-u.all.items next c.loop-u.invariant.orders (c.in_ok-next.ensures.order ∙ c.in_ok-change.ensures.order));
      values = subst (λ (zs : List (JetTerms g.row.R-Elem.Denot)). (j : ℕ) → j < u + 1 → SameIn n ops (part_of n m.value zs j)
          (corrected n ops (part_of n m.value c.args.c.now.parts) (entry_of m n c.args.c.now.inverse) (part_of n m.value c.args.jets.now) d j)) (sym items)
          (ChangeLemmas.parts_more m n (λ j f. SameIn n ops f (corrected n ops (part_of n m.value c.args.c.now.parts) (entry_of m n c.args.c.now.inverse) (part_of n m.value c.args.jets.now) d j))
          c.loop-u.all.items next u c.loop-u.invariant.count c.loop-u.invariant.values value);
    }

pub returns-clause-values : goal.returns-clause-values
returns-clause-values g c u h =
    let last = c.loop-u-test.false in
    let end = c.loop-u.auto.u-end in
    c.loop-u.invariant.values u (omega arith)
