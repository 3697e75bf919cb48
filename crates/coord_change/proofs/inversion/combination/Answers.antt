use Rattle.std.proofs.Common.{◌≡◌, ◌<◌, ◌+◌, ◌*◌, ◌++◌, suc, inl, inr, List, length, get_or, All, sym, ◌∙◌, ap, ap₂, subst, arith}
use Rattle.ring_law.proofs.Exits.{fault_handed_on}
use Rattle.poly_law.specs.ExpList.{exps}
use Rattle.poly_law.specs.Poly.{coefficient, scale}
use Rattle.poly_law.specs.Polynomials.{poly_in, cut_in}
use Rattle.poly_law.specs.Sums.{sum_to}
use Rattle.mono_exp.specs.declared.exponent.Exp.{Exp}
use Rattle.mono_exp.specs.Exponents.{IsIn}
use Rattle.jet_law.specs.Heights.{IsHigh, sums_heights}
use Rattle.jet_law.specs.Terms.{poly_of}
use Rattle.jet_poly.specs.JetTerms.{JetTerms, IsRising}
use Rattle.jet_subst.specs.Parts.{jet_at, part_of}
use Rattle.jet_subst.specs.Substitutions.{IsMultipleHigh}
use Rattle.jet_subst.proofs.PowerLemmas.{any_default}
use Rattle.coord_change.specs.Changes.{entry_of}
use Rattle.coord_change.specs.InverseChanges.{combination_of}
use Rattle.coord_change.proofs.Matrices
use Rattle.coord_change.proofs.InverseSteps
use Rattle.coord_change.proofs.inversion.combination.Goals as goal

pub push_scaled-requires-clause-elem : goal.push_scaled-requires-clause-elem
push_scaled-requires-clause-elem g c =
    let m = g.R.Ring.meaning c.args.ring.now in
    let n = c.args.n in
    let t = c.loop-t.t in
    let a = c.index-matrix-from.result in
    let place : c.from.result * c.from-in-loop-t.result + c.from-in-loop-t-2.result ≡ n * c.args.u + t = ap₂ (λ y z. y + z) (ap₂ (λ y z. y * z) c.from.ensures c.from-in-loop-t.ensures) c.from-in-loop-t-2.ensures in
    let inside : n * c.args.u + t < length c.args.matrix.now = (let p = Matrices.place_inside n c.args.u t c.requires.row c.loop-t-test.true in let e = c.requires.entries in omega arith) in
    subst m.is_elem (sym (c.index-matrix-from.is ∙ ap (λ z. get_or c.args.matrix.now z a) place)) (c.requires.elems (n * c.args.u + t) a inside)

pub returns-in_err-push_scaled-clause-range : goal.returns-in_err-push_scaled-clause-range
returns-in_err-push_scaled-clause-range g c =
    let m = g.R.Ring.meaning c.args.ring.now in
    let n = c.args.n in
    let t = c.loop-t.t in
    let a = c.index-matrix-from.result in
    let place : c.from.result * c.from-in-loop-t.result + c.from-in-loop-t-2.result ≡ n * c.args.u + t = ap₂ (λ y z. y + z) (ap₂ (λ y z. y * z) c.from.ensures c.from-in-loop-t.ensures) c.from-in-loop-t-2.ensures in
    let inside : n * c.args.u + t < length c.args.matrix.now = (let p = Matrices.place_inside n c.args.u t c.requires.row c.loop-t-test.true in let e = c.requires.entries in omega arith) in
    let here : entry_of m n c.args.matrix.now c.args.u t ≡ m.value a = Matrices.entry_read m n c.args.matrix.now c.args.u t a inside (c.index-matrix-from.is ∙ ap (λ z. get_or c.args.matrix.now z a) place) in
    let within : t < length c.args.jets.now = (let e = c.requires.count in let h = c.loop-t-test.true in omega arith) in
    let jet : c.index-jets-from.result ≡ jet_at c.args.jets.now t = c.index-jets-from.is ∙ ap (λ z. get_or c.args.jets.now z c.index-jets-from.result) c.from-in-loop-t-3.ensures ∙ any_default c.args.jets.now t c.index-jets-from.result _ within in
    fault_handed_on _ c.from_residual.ensures.1
    (λ high. record {
      high = inl (
        t,
        c.loop-t-test.true,
        subst (λ z. IsMultipleHigh m.scalars z (part_of n m.value c.args.jets.now t)) (sym here)
            (subst (λ (p : JetTerms g.row.R-Elem.Denot). IsMultipleHigh m.scalars (m.value a) (poly_of n m.value p.terms)) jet
            (subst (λ (ts : List (Exp × g.row.R-Elem.Denot)). IsMultipleHigh m.scalars (m.value a) (poly_of n m.value ts)) c.terms.ensures.terms (high n))),
      );
    })
    c.in_err-push_scaled.ensures.range

pub loop-t-preserved : goal.loop-t-preserved
loop-t-preserved g c =
    let m = g.R.Ring.meaning c.args.ring.now in
    let n = c.args.n in
    let t = c.loop-t.t in
    let a = c.index-matrix-from.result in
    let place : c.from.result * c.from-in-loop-t.result + c.from-in-loop-t-2.result ≡ n * c.args.u + t = ap₂ (λ y z. y + z) (ap₂ (λ y z. y * z) c.from.ensures c.from-in-loop-t.ensures) c.from-in-loop-t-2.ensures in
    let inside : n * c.args.u + t < length c.args.matrix.now = (let p = Matrices.place_inside n c.args.u t c.requires.row c.loop-t-test.true in let e = c.requires.entries in omega arith) in
    let here : entry_of m n c.args.matrix.now c.args.u t ≡ m.value a = Matrices.entry_read m n c.args.matrix.now c.args.u t a inside (c.index-matrix-from.is ∙ ap (λ z. get_or c.args.matrix.now z a) place) in
    let within : t < length c.args.jets.now = (let e = c.requires.count in let h = c.loop-t-test.true in omega arith) in
    let jet : c.index-jets-from.result ≡ jet_at c.args.jets.now t = c.index-jets-from.is ∙ ap (λ z. get_or c.args.jets.now z c.index-jets-from.result) c.from-in-loop-t-3.ensures ∙ any_default c.args.jets.now t c.index-jets-from.result _ within in
    let read : c.index-jets-from.result ≡ get_or c.args.jets.now t c.index-jets-from.result = c.index-jets-from.is ∙ ap (λ z. get_or c.args.jets.now z c.index-jets-from.result) c.from-in-loop-t-3.ensures in
    let part = c.requires.jets t c.index-jets-from.result within in
    let variables : All (λ (v : Exp × g.row.R-Elem.Denot). IsIn n v.0.e) c.terms.result.now =
    subst (All (λ (v : Exp × g.row.R-Elem.Denot). IsIn n v.0.e)) (sym (c.terms.ensures.terms ∙ ap (λ (p : JetTerms g.row.R-Elem.Denot). p.terms) read))
    (subst (λ z. All (λ (v : Exp × g.row.R-Elem.Denot). IsIn z v.0.e) (get_or c.args.jets.now t c.index-jets-from.result).terms) part.variables part.jet.variables) in
    let terms : poly_of n m.value c.terms.result.now ≡ part_of n m.value c.args.jets.now t = ap (poly_of n m.value) c.terms.ensures.terms ∙ ap (λ (p : JetTerms g.row.R-Elem.Denot). poly_of n m.value p.terms) jet in
    record {
      elems = c.in_ok-push_scaled.ensures.elems;
      variables = c.in_ok-push_scaled.ensures.variables n c.loop-t.invariant.variables variables;
      sum = c.in_ok-push_scaled.ensures.multiples n
          ∙ ap₂ (λ y z. y ++ z) c.loop-t.invariant.sum (ap₂ (λ y z. scale (exps n) m.scalars.ops y z) (sym here) terms)
          ∙ ap (λ z. sum_to (poly_in n m.scalars.ops) z (λ t. scale (exps n) m.scalars.ops (entry_of m n c.args.matrix.now c.args.u t) (part_of n m.value c.args.jets.now t))) (let e : suc t ≡ t + 1 = omega arith in e);
    }

pub returns-in_err-sum-clause-range : goal.returns-in_err-sum-clause-range
returns-in_err-sum-clause-range g c =
    let m = g.R.Ring.meaning c.args.ring.now in
    let n = c.args.n in
    let last = c.loop-t-test.false in
    let end = c.loop-t.auto.t-end in
    let t_is : c.loop-t.t ≡ n = omega arith in
    let sum : poly_of n m.value c.deref.result.now ≡ combination_of n m.scalars.ops (entry_of m n c.args.matrix.now c.args.u) (part_of n m.value c.args.jets.now) =
    ap (poly_of n m.value) c.deref.ensures.value ∙ c.loop-t.invariant.sum
    ∙ ap (λ z. sum_to (poly_in n m.scalars.ops) z (λ t. scale (exps n) m.scalars.ops (entry_of m n c.args.matrix.now c.args.u t) (part_of n m.value c.args.jets.now t))) t_is in
    fault_handed_on _ c.from_residual-in_err-sum.ensures.1
    (λ high. record { high = inr (subst (λ z. IsHigh (sums_heights (exps n) m.scalars (cut_in n m.scalars.ops c.args.d z))) sum high) })
    c.in_err-sum.ensures.range

pub returns-clause-degrees : goal.returns-clause-degrees
returns-clause-degrees g c =
    let m = g.R.Ring.meaning c.args.ring.now in
    let laws = (g.met.R.Ring.laws c.args.ring.now c.requires.ring).numbers in
    let n = c.args.n in
    let last = c.loop-t-test.false in
    let end = c.loop-t.auto.t-end in
    let t_is : c.loop-t.t ≡ n = omega arith in
    let sum : poly_of n m.value c.deref.result.now ≡ combination_of n m.scalars.ops (entry_of m n c.args.matrix.now c.args.u) (part_of n m.value c.args.jets.now) =
    ap (poly_of n m.value) c.deref.ensures.value ∙ c.loop-t.invariant.sum
    ∙ ap (λ z. sum_to (poly_in n m.scalars.ops) z (λ t. scale (exps n) m.scalars.ops (entry_of m n c.args.matrix.now c.args.u t) (part_of n m.value c.args.jets.now t))) t_is in
    let made = c.in_ok-sum.ensures in
    InverseSteps.degrees_from m laws.ring n c.args.d c.in_ok-sum.sum.terms (cut_in n m.scalars.ops c.args.d (poly_of n m.value c.deref.result.now))
    (subst (λ z. All (λ (v : Exp × g.row.R-Elem.Denot). IsIn z v.0.e) c.in_ok-sum.sum.terms) made.n made.jet.variables) (subst (λ (ts : List (Exp × g.row.R-Elem.Denot)). IsRising ts) c.terms-terms.ensures.terms c.terms-terms.ensures.rising) made.jet.units made.sum
    (InverseSteps.cut_starts n m.scalars.ops laws.ring c.args.d c.args.d (poly_of n m.value c.deref.result.now)
    (λ b h. ap (λ z. coefficient (exps n) m.scalars.ops z b) sum ∙ InverseSteps.combination_starts n m.scalars.ops laws.ring (entry_of m n c.args.matrix.now c.args.u) (part_of n m.value c.args.jets.now) c.args.d c.requires.starts b h))

pub returns-clause-value : goal.returns-clause-value
returns-clause-value g c b =
    let m = g.R.Ring.meaning c.args.ring.now in
    let n = c.args.n in
    let last = c.loop-t-test.false in
    let end = c.loop-t.auto.t-end in
    let t_is : c.loop-t.t ≡ n = omega arith in
    let sum : poly_of n m.value c.deref.result.now ≡ combination_of n m.scalars.ops (entry_of m n c.args.matrix.now c.args.u) (part_of n m.value c.args.jets.now) =
    ap (poly_of n m.value) c.deref.ensures.value ∙ c.loop-t.invariant.sum
    ∙ ap (λ z. sum_to (poly_in n m.scalars.ops) z (λ t. scale (exps n) m.scalars.ops (entry_of m n c.args.matrix.now c.args.u t) (part_of n m.value c.args.jets.now t))) t_is in
    c.in_ok-sum.ensures.sum b ∙ ap (λ z. coefficient (exps n) m.scalars.ops (cut_in n m.scalars.ops c.args.d z) b) sum
