use Rattle.std.proofs.Common.{◌≡◌, ◌<◌, ◌+◌, ◌⊎◌, ℕ, List, All, sym, ◌∙◌, ap, subst, refl, arith}
use Rattle.ring_theory.proofs.ValueSet.{values_are_set}
use Rattle.ring_law.proofs.Exits.{fault_handed_on}
use Rattle.poly_law.specs.ExpList.{exps}
use Rattle.poly_law.specs.Laws.{IsInverse}
use Rattle.poly_law.specs.Poly.{coefficient}
use Rattle.poly_law.specs.Polynomials.{SameIn}
use Rattle.poly_law.proofs.ExpLists.{exps_are}
use Rattle.jet_poly.specs.JetTerms.{JetTerms}
use Rattle.jet_subst.specs.Parts.{part_of}
use Rattle.coord_change.specs.Changes.{IsChange, entry_of}
use Rattle.coord_change.specs.Linear.{linear_part_of, linear_form}
use Rattle.coord_change.specs.InverseChanges.{corrected, inverse_to, SubstitutionIsHigh, CorrectionIsHigh}
use Rattle.coord_change.proofs.ChangeLemmas
use Rattle.coord_change.proofs.InverseSteps
use Rattle.coord_change.proofs.inversion.invert_to.Goals as goal

pub loop-i-init : goal.loop-i-init
loop-i-init g c =
    let m = g.R.Ring.meaning c.args.ring.now in
    let n = c.args.c.now.n in
    let e = c.in_ok-parts.ensures in
    record {
      count = e.count;
      jets = e.jets;
      orders = e.orders;
      values = λ u h b.
          subst (λ (es : List g.row.R-Elem.Denot). coefficient (exps n) m.scalars.ops (part_of n m.value c.in_ok-parts.parts.items u) b ≡ coefficient (exps n) m.scalars.ops (linear_form n m.scalars.ops (entry_of m n es u)) b) c.as_slice.ensures (e.values u h b)
          ∙ ap (λ z. coefficient (exps n) m.scalars.ops z b)
          (sym (InverseSteps.inverse_to-one n m.scalars.ops (g.met.R.Ring.laws c.args.ring.now c.requires.ring).numbers.ring (values_are_set m.scalars (g.met.R.Ring.laws c.args.ring.now c.requires.ring).numbers)
          (part_of n m.value c.args.c.now.parts) (entry_of m n c.args.c.now.inverse) u));
    }

pub returns-in_err-next-clause-range : goal.returns-in_err-next-clause-range
returns-in_err-next-clause-range g c =
    let m = g.R.Ring.meaning c.args.ring.now in
    let laws = (g.met.R.Ring.laws c.args.ring.now c.requires.ring).numbers in
    let n = c.args.c.now.n in
    let parts = part_of n m.value c.args.c.now.parts in
    let matrix = entry_of m n c.args.c.now.inverse in
    let i = c.loop-i.i in
    fault_handed_on _ c.from_residual-in_err-next.ensures.1
    (λ high. record {
      degree = i;
      positive = c.loop-i.auto.i;
      below = c.loop-i-test.true;
      high = InverseSteps.step_high_same n m.scalars laws.ring (values_are_set m.scalars laws) parts matrix (part_of n m.value c.loop-i.parts.items) (inverse_to n m.scalars.ops parts matrix i) c.loop-i.invariant.values (i + 1)
          (subst (λ (zs : List (JetTerms g.row.R-Elem.Denot)). SubstitutionIsHigh n m.scalars parts (part_of n m.value zs) (i + 1) ⊎ CorrectionIsHigh n m.scalars parts matrix (part_of n m.value zs) (i + 1)) c.deref.ensures.value high);
    })
    c.in_err-next.ensures.range

pub loop-i-preserved : goal.loop-i-preserved
loop-i-preserved g c =
    let m = g.R.Ring.meaning c.args.ring.now in
    let laws = (g.met.R.Ring.laws c.args.ring.now c.requires.ring).numbers in
    let set = values_are_set m.scalars laws in
    let n = c.args.c.now.n in
    let parts = part_of n m.value c.args.c.now.parts in
    let matrix = entry_of m n c.args.c.now.inverse in
    let i = c.loop-i.i in
    let e = c.in_ok-next.ensures in
    record {
      count = e.count;
      jets = e.jets;
      orders = e.orders;
      values = λ u h b.
          subst (λ (zs : List (JetTerms g.row.R-Elem.Denot)). SameIn n m.scalars.ops (part_of n m.value c.in_ok-next.next.items u) (corrected n m.scalars.ops parts matrix (part_of n m.value zs) (i + 1) u)) c.deref.ensures.value (e.values u h) b
          ∙ InverseSteps.corrected_same n m.scalars.ops laws.ring set parts matrix (part_of n m.value c.loop-i.parts.items) (inverse_to n m.scalars.ops parts matrix i) c.loop-i.invariant.values (i + 1) u h b
          ∙ ap (λ z. coefficient (exps n) m.scalars.ops z b) (sym (InverseSteps.inverse_to-next n m.scalars.ops laws.ring set parts matrix i u c.loop-i.auto.i));
    }

pub returns-clause-change : goal.returns-clause-change
returns-clause-change g c =
    let m = g.R.Ring.meaning c.args.ring.now in
    let laws = (g.met.R.Ring.laws c.args.ring.now c.requires.ring).numbers in
    let set = values_are_set m.scalars laws in
    let ch = c.requires.change in
    let n = c.args.c.now.n in
    let r = m.scalars.ops in
    let parts = part_of n m.value c.args.c.now.parts in
    let matrix = entry_of m n c.args.c.now.inverse in
    let k = c.args.k in
    let last = c.loop-i-test.false in
    let end = c.loop-i.auto.i-end c.requires.order_at_least_1 in
    let i_is : c.loop-i.i ≡ k = omega arith in
    let psi = part_of n m.value c.loop-i.parts.items in
    let values : (u : ℕ) → u < n → SameIn n r (psi u) (inverse_to n r parts matrix k u) = λ u h. subst (λ z. SameIn n r (psi u) (inverse_to n r parts matrix z u)) i_is (c.loop-i.invariant.values u h) in
    let inverse = c.in_ok-inverse.ensures in
    subst (λ (zs : List (JetTerms g.row.R-Elem.Denot)). IsChange m (record { n = n; order = k; parts = zs; inverse = c.from_vec-2.result })) (sym c.from_vec.ensures)
    (subst (λ (es : List g.row.R-Elem.Denot). IsChange m (record { n = n; order = k; parts = c.loop-i.parts.items; inverse = es })) (sym c.from_vec-2.ensures)
    (record {
      given = ch.given;
      at_most_8_variables = ch.at_most_8_variables;
      order_at_most_17 = c.requires.order_at_most_17;
      count = c.loop-i.invariant.count;
      parts = c.loop-i.invariant.jets;
      orders = subst (λ z. All (λ (p : JetTerms g.row.R-Elem.Denot). p.order ≡ z) c.loop-i.parts.items) i_is c.loop-i.invariant.orders;
      elems = inverse.elems;
      entries = inverse.count;
      invertible = ChangeLemmas.invertible_same_to (exps n) (exps_are n) r laws.ring psi psi (linear_part_of m n c.args.c.now.parts) (entry_of m n c.in_ok-inverse.inverse.items) (λ i h b z. refl)
          (λ i j h z. sym (inverse.entries i j h z ∙ ap (λ (zs : List (JetTerms g.row.R-Elem.Denot)). linear_part_of m n zs i j) c.as_slice-2.ensures))
          (InverseSteps.inverse_invertible n r laws.ring set parts matrix ch.invertible k c.requires.order_at_least_1 psi values);
    }))

pub returns-clause-inverse : goal.returns-clause-inverse
returns-clause-inverse g c =
    let m = g.R.Ring.meaning c.args.ring.now in
    let laws = (g.met.R.Ring.laws c.args.ring.now c.requires.ring).numbers in
    let set = values_are_set m.scalars laws in
    let n = c.args.c.now.n in
    let r = m.scalars.ops in
    let parts = part_of n m.value c.args.c.now.parts in
    let matrix = entry_of m n c.args.c.now.inverse in
    let k = c.args.k in
    let last = c.loop-i-test.false in
    let end = c.loop-i.auto.i-end c.requires.order_at_least_1 in
    let i_is : c.loop-i.i ≡ k = omega arith in
    let psi = part_of n m.value c.loop-i.parts.items in
    let values : (u : ℕ) → u < n → SameIn n r (psi u) (inverse_to n r parts matrix k u) = λ u h. subst (λ z. SameIn n r (psi u) (inverse_to n r parts matrix z u)) i_is (c.loop-i.invariant.values u h) in
    subst (λ (zs : List (JetTerms g.row.R-Elem.Denot)). IsInverse r n parts k (part_of n m.value zs)) (sym c.from_vec.ensures)
    (InverseSteps.inverse n r laws.ring set parts matrix c.requires.change.invertible k c.requires.order_at_least_1 psi values)
