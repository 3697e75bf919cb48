use Rattle.std.proofs.Common.{◌≡◌, ℕ, ◌+◌, ◌<◌, ◌≤◌, List, [], ◌∷◌, ◌++◌, inl, map, take, length, get_or, All, length-append, sym, ◌∙◌, ap, ap₂, subst, arith}
use Rattle.std.proofs.lemmas.List.{map-append, take_more}
use Rattle.ring_theory.proofs.ValueSet.{values_are_set}
use Rattle.ring_law.proofs.Exits.{fault_handed_on}
use Rattle.poly_law.specs.Sums.{sum_to}
use Rattle.poly_law.specs.ExpList.{exps}
use Rattle.poly_law.specs.Poly.{IsInvertible}
use Rattle.poly_law.specs.Polynomials.{SameIn, cut_in, substitute}
use Rattle.poly_law.proofs.ExpLists.{exps_are}
use Rattle.jet_law.specs.Terms.{poly_of}
use Rattle.mono_exp.specs.declared.exponent.Exp.{Exp}
use Rattle.jet_poly.specs.JetTerms.{JetTerms, IsRising}
use Rattle.jet_subst.specs.Parts.{IsPart, jet_at, part_of}
use Rattle.jet_subst.specs.Substitutions.{IsSubstHigh}
use Rattle.jet_subst.proofs.PowerLemmas.{any_default}
use Rattle.jet_subst.proofs.Tables.{all_push}
use Rattle.coord_change.specs.Changes.{IsChange, entry_of}
use Rattle.coord_change.specs.Moves.{move_from}
use Rattle.coord_change.specs.Carries.{carry, compose}
use Rattle.coord_change.proofs.Canonicals
use Rattle.coord_change.proofs.ChangeLemmas
use Rattle.coord_change.proofs.CompositeLemmas
use Rattle.coord_change.proofs.composition.then.Goals as goal

pub returns-in_err-carried-clause-range : goal.returns-in_err-carried-clause-range
returns-in_err-carried-clause-range g c =
    let m = g.R.Ring.meaning c.args.ring.now in
    let first = c.args.first.now in
    let next = c.args.next.now in
    let idx = c.loop-part.part-index in
    let here : c.part-item.result ≡ jet_at first.parts idx = c.part-item.is ∙ ap (λ zs. get_or zs idx c.part-item.result) c.as_slice-part-items.ensures
    ∙ any_default first.parts idx c.part-item.result _ (subst (λ (zs : List (JetTerms g.row.R-Elem.Denot)). idx < length zs) c.as_slice-part-items.ensures c.loop-part-test.true) in
    fault_handed_on _ c.from_residual.ensures.1
    (λ high. inl (record {
      part = idx;
      inside = subst (λ z. idx < z) c.requires.first_change.count (subst (λ (zs : List (JetTerms g.row.R-Elem.Denot)). idx < length zs) c.as_slice-part-items.ensures c.loop-part-test.true);
      high = subst (λ (u : JetTerms g.row.R-Elem.Denot). IsSubstHigh (exps first.n) (exps first.n) m.scalars c.args.k (part_of first.n m.value next.parts) (poly_of first.n m.value u.terms)) here
          (subst (λ z. IsSubstHigh (exps z) (exps z) m.scalars c.args.k (part_of z m.value next.parts) (poly_of z m.value c.part-item.result.terms)) c.requires.same_variables high);
    }))
    c.in_err-carried.ensures.range

pub loop-part-preserved : goal.loop-part-preserved
loop-part-preserved g c =
    let m = g.R.Ring.meaning c.args.ring.now in
    let l = (g.met.R.Ring.laws c.args.ring.now c.requires.ring).numbers in
    let first = c.args.first.now in
    let next = c.args.next.now in
    let n = first.n in
    let idx = c.loop-part.part-index in
    let part = c.in_ok-carried.carried in
    let e = c.in_ok-carried.ensures in
    let items = c.in_ok-push.ensures.items in
    let inside : idx < length first.parts = subst (λ (zs : List (JetTerms g.row.R-Elem.Denot)). idx < length zs) c.as_slice-part-items.ensures c.loop-part-test.true in
    let here : c.part-item.result ≡ jet_at first.parts idx = c.part-item.is ∙ ap (λ zs. get_or zs idx c.part-item.result) c.as_slice-part-items.ensures ∙ any_default first.parts idx c.part-item.result _ inside in
    let value : SameIn n m.scalars.ops (poly_of n m.value part.terms) (cut_in n m.scalars.ops c.args.k (substitute n n m.scalars.ops (part_of n m.value next.parts) (part_of n m.value first.parts idx))) =
    subst (λ (u : JetTerms g.row.R-Elem.Denot). SameIn n m.scalars.ops (poly_of n m.value part.terms) (cut_in n m.scalars.ops c.args.k (substitute n n m.scalars.ops (part_of n m.value next.parts) (poly_of n m.value u.terms)))) here
    (subst (λ z. SameIn z m.scalars.ops (poly_of z m.value part.terms) (cut_in z m.scalars.ops c.args.k (substitute z z m.scalars.ops (part_of z m.value next.parts) (poly_of z m.value c.part-item.result.terms)))) c.requires.same_variables e.value) in
    let polynomial : poly_of n m.value part.terms ≡ carry n m.scalars c.args.k (move_from m n next) (part_of n m.value first.parts idx) =
    (Canonicals.carried_for m n l c.args.k next (part_of n m.value first.parts idx) part e.jet (e.n ∙ c.requires.same_variables) e.order
    (subst (λ (zs : List (Exp × g.row.R-Elem.Denot)). IsRising zs) c.terms-terms.ensures.terms c.terms-terms.ensures.rising) value).polynomial in
    record {
      within = omega arith;
      count = ap length items ∙ length-append c.loop-part.parts.items (part ∷ []) ∙ ap (λ z. z + 1) c.loop-part.invariant.count;
      jets = subst (All (IsPart m n)) (sym items) (all_push (IsPart m n) c.loop-part.parts.items part c.loop-part.invariant.jets (record { jet = e.jet; variables = e.n ∙ c.requires.same_variables }));
      orders = subst (All (λ (p : JetTerms g.row.R-Elem.Denot). p.order ≡ c.args.k)) (sym items) (all_push (λ (p : JetTerms g.row.R-Elem.Denot). p.order ≡ c.args.k) c.loop-part.parts.items part c.loop-part.invariant.orders e.order);
      values = subst (λ (zs : List (JetTerms g.row.R-Elem.Denot)). (j : ℕ) → j < idx + 1 → SameIn n m.scalars.ops (part_of n m.value zs j)
          (cut_in n m.scalars.ops c.args.k (substitute n n m.scalars.ops (part_of n m.value next.parts) (part_of n m.value first.parts j)))) (sym items)
          (ChangeLemmas.parts_more m n (λ j f. SameIn n m.scalars.ops f (cut_in n m.scalars.ops c.args.k (substitute n n m.scalars.ops (part_of n m.value next.parts) (part_of n m.value first.parts j))))
          c.loop-part.parts.items part idx c.loop-part.invariant.count c.loop-part.invariant.values
          value);
      moves =
          ap (map (λ (p : JetTerms g.row.R-Elem.Denot). poly_of n m.value p.terms)) items
          ∙ map-append (λ (p : JetTerms g.row.R-Elem.Denot). poly_of n m.value p.terms) c.loop-part.parts.items (part ∷ [])
          ∙ ap₂ (λ xs x. xs ++ x ∷ []) c.loop-part.invariant.moves polynomial
          ∙ sym (ap (map (λ (p : JetTerms g.row.R-Elem.Denot). carry n m.scalars c.args.k (move_from m n next) (poly_of n m.value p.terms))) (take_more first.parts idx (jet_at first.parts idx) inside ∙ ap (λ x. take idx first.parts ++ x ∷ []) (any_default first.parts idx _ _ inside))
          ∙ map-append (λ (p : JetTerms g.row.R-Elem.Denot). carry n m.scalars c.args.k (move_from m n next) (poly_of n m.value p.terms)) (take idx first.parts) (jet_at first.parts idx ∷ []));
    }

pub returns-clause-parts : goal.returns-clause-parts
returns-clause-parts g c i h =
    let m = g.R.Ring.meaning c.args.ring.now in
    let first = c.args.first.now in
    let next = c.args.next.now in
    let n = first.n in
    let all : length first.parts ≤ c.loop-part.part-index = subst (λ (zs : List (JetTerms g.row.R-Elem.Denot)). length zs ≤ c.loop-part.part-index) c.as_slice-part-items.ensures c.loop-part-test.false in
    let count = c.requires.first_change.count in
    subst (λ (zs : List (JetTerms g.row.R-Elem.Denot)). SameIn n m.scalars.ops (part_of n m.value zs i) (cut_in n m.scalars.ops c.args.k (substitute n n m.scalars.ops (part_of n m.value next.parts) (part_of n m.value first.parts i)))) (sym c.from_vec.ensures)
    (c.loop-part.invariant.values i (omega arith))

pub returns-clause-change : goal.returns-clause-change
returns-clause-change g c =
    let m = g.R.Ring.meaning c.args.ring.now in
    let l = (g.met.R.Ring.laws c.args.ring.now c.requires.ring).numbers in
    let first = c.args.first.now in
    let next = c.args.next.now in
    let n = first.n in
    let r = m.scalars.ops in
    let all : length first.parts ≤ c.loop-part.part-index = subst (λ (zs : List (JetTerms g.row.R-Elem.Denot)). length zs ≤ c.loop-part.part-index) c.as_slice-part-items.ensures c.loop-part-test.false in
    let count = c.requires.first_change.count in
    let parts = c.loop-part.invariant.count in
    let within = c.loop-part.invariant.within in
    let inverse = c.in_ok-inverse.ensures in
    let next_invertible : IsInvertible (exps n) r (part_of n m.value next.parts) (entry_of m n next.inverse) =
    subst (λ z. IsInvertible (exps z) r (part_of z m.value next.parts) (entry_of m z next.inverse)) c.requires.same_variables c.requires.next_change.invertible in
    subst (λ (zs : List (JetTerms g.row.R-Elem.Denot)). IsChange m (record { n = n; order = c.args.k; parts = zs; inverse = c.from_vec-2.result })) (sym c.from_vec.ensures)
    (subst (λ (es : List g.row.R-Elem.Denot). IsChange m (record { n = n; order = c.args.k; parts = c.loop-part.parts.items; inverse = es })) (sym c.from_vec-2.ensures)
    (record {
      given = c.requires.first_change.given;
      at_most_8_variables = c.requires.first_change.at_most_8_variables;
      order_at_most_17 = c.requires.order_at_most_17;
      count = omega arith;
      parts = c.loop-part.invariant.jets;
      orders = c.loop-part.invariant.orders;
      elems = inverse.elems;
      entries = inverse.count;
      invertible = ChangeLemmas.composition_invertible (exps n) (exps_are n) r l.ring (values_are_set m.scalars l) c.args.k c.requires.order_at_least_1 (part_of n m.value first.parts) (part_of n m.value next.parts)
          (part_of n m.value c.loop-part.parts.items) (entry_of m n first.inverse) (entry_of m n next.inverse) (entry_of m n c.in_ok-inverse.inverse.items) c.requires.first_change.invertible next_invertible
          (λ i h. c.loop-part.invariant.values i (omega arith))
          (λ i j h y. inverse.entries i j h y ∙ ap₂ (λ (b a : List g.row.R-Elem.Denot). sum_to r n (λ t. r.mul (entry_of m n b i t) (entry_of m n a t j))) c.as_slice.ensures c.as_slice-2.ensures);
    }))

pub returns-clause-moves : goal.returns-clause-moves
returns-clause-moves g c =
    let m = g.R.Ring.meaning c.args.ring.now in
    let first = c.args.first.now in
    let next = c.args.next.now in
    let n = first.n in
    let all : length first.parts ≤ c.loop-part.part-index = subst (λ (zs : List (JetTerms g.row.R-Elem.Denot)). length zs ≤ c.loop-part.part-index) c.as_slice-part-items.ensures c.loop-part-test.false in
    ap (map (λ (p : JetTerms g.row.R-Elem.Denot). poly_of n m.value p.terms)) c.from_vec.ensures
    ∙ c.loop-part.invariant.moves
    ∙ CompositeLemmas.composed m n c.args.k first (move_from m n next) c.loop-part.part-index all
