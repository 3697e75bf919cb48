use Rattle.std.proofs.Common.{◌∙◌, inl, inr, [], ◌∷◌, ◌++◌, All, map, take_all, sym, ap, subst, arith}
use Rattle.ring_law.proofs.Exits.{fault_handed_on}
use Rattle.poly_law.specs.ExpList.{exps}
use Rattle.poly_law.specs.Polynomials.{cut_in}
use Rattle.poly_law.specs.Poly.{coefficient}
use Rattle.mono_exp.specs.declared.exponent.Exp.{Exp}
use Rattle.mono_exp.specs.Exponents.{IsIn}
use Rattle.jet_law.specs.Heights.{IsHigh, sums_heights}
use Rattle.jet_law.specs.Terms.{poly_of}
use Rattle.jet_poly.specs.JetTerms.{JetTerms}
use Rattle.coord_change.specs.Linear.{one_at}
use Rattle.kill_law.specs.Kill.{cofactor}
use Rattle.kill_table.specs.Moves.{IsPutFor}
use Rattle.kill_table.specs.Steps.{IsReady, Takes, put_by}
use Rattle.kill_table.proofs.Steps.{all-at, all-each}
use Rattle.kill_table.proofs.Killed.{put_for, starts-put, puts-more, cofactor-ready, taking-high}
use Rattle.kill_table.proofs.moves.put.Goals as goal

pub loop-step-init : goal.loop-step-init
loop-step-init g c =
    let m = g.F.Ring.meaning c.args.field.now in
    record {
      within = omega arith;
      put = starts-put m (map m.value c.args.letters.now) c.args.n c.args.steps.now c.args.i c.requires.inside c.requires.at_most_8_variables c.monomial.result c.one.result (c.monomial.ensures ∙ ap one_at c.from.ensures) c.one.ensures.elem c.one.ensures.value
          c.push.new.self.items (c.in_ok-push.ensures.items ∙ ap (λ z. z ++ (c.monomial.result, c.one.result) ∷ []) c.new-all.ensures.items);
    }

pub push_cofactor-requires-clause-elem : goal.push_cofactor-requires-clause-elem
push_cofactor-requires-clause-elem g c =
    let m = g.F.Ring.meaning c.args.field.now in
    (all-at (IsReady m (map m.value c.args.letters.now) c.args.n) c.args.steps.now c.loop-step.step-index c.step-item.result c.loop-step-test.true c.step-item.is c.requires.ready).elem

pub push_cofactor-requires-clause-nonzero : goal.push_cofactor-requires-clause-nonzero
push_cofactor-requires-clause-nonzero g c =
    let m = g.F.Ring.meaning c.args.field.now in
    λ e k. (all-at (IsReady m (map m.value c.args.letters.now) c.args.n) c.args.steps.now c.loop-step.step-index c.step-item.result c.loop-step-test.true c.step-item.is c.requires.ready).divisors e
    (cofactor-ready m (map m.value c.args.letters.now) c.step-item.result.lead c.args.i c.cofactor.result c.cofactor.ensures e k)

pub push_cofactor-requires-clause-fits : goal.push_cofactor-requires-clause-fits
push_cofactor-requires-clause-fits g c =
    let m = g.F.Ring.meaning c.args.field.now in
    λ e k. (all-at (IsReady m (map m.value c.args.letters.now) c.args.n) c.args.steps.now c.loop-step.step-index c.step-item.result c.loop-step-test.true c.step-item.is c.requires.ready).fits e
    (cofactor-ready m (map m.value c.args.letters.now) c.step-item.result.lead c.args.i c.cofactor.result c.cofactor.ensures e k)

pub returns-in_err-push_cofactor-clause-range : goal.returns-in_err-push_cofactor-clause-range
returns-in_err-push_cofactor-clause-range g c =
    let m = g.F.Ring.meaning c.args.field.now in
    fault_handed_on _ c.from_residual-in_err-push_cofactor.ensures.1
    (λ high. inl (taking-high m (map m.value c.args.letters.now) c.args.steps.now c.loop-step.step-index c.step-item.result c.loop-step-test.true c.step-item.is c.args.i c.cofactor.result c.cofactor.ensures high))
    c.in_err-push_cofactor.ensures.range

pub loop-step-preserved : goal.loop-step-preserved
loop-step-preserved g c =
    let m = g.F.Ring.meaning c.args.field.now in
    let letters = map m.value c.args.letters.now in
    record {
      within = omega arith;
      put = puts-more m letters c.args.n c.args.steps.now c.args.i c.loop-step.step-index c.step-item.result c.loop-step.all.items c.push_cofactor.new.all.items c.loop-step-test.true c.step-item.is
          (all-at (IsReady m letters c.args.n) c.args.steps.now c.loop-step.step-index c.step-item.result c.loop-step-test.true c.step-item.is c.requires.ready) c.loop-step.invariant.put
          (subst (λ es. Takes m letters c.step-item.result es c.loop-step.all.items c.push_cofactor.new.all.items) c.cofactor.ensures c.in_ok-push_cofactor.ensures.taken);
    }

pub from_terms-requires-clause-elems : goal.from_terms-requires-clause-elems
from_terms-requires-clause-elems g c =
    let m = g.F.Ring.meaning c.args.field.now in
    subst (All (λ (t : Exp × g.row.F-Elem.Denot). m.is_elem t.1)) (sym c.deref.ensures.value)
    (all-each (λ (t : Exp × g.row.F-Elem.Denot). m.is_elem t.1) (λ (t : Exp × g.row.F-Elem.Denot). m.is_elem t.1) (λ t h. h) c.loop-step.all.items c.loop-step.invariant.put.elems)

pub from_terms-requires-clause-variables : goal.from_terms-requires-clause-variables
from_terms-requires-clause-variables g c =
    subst (All (λ (t : Exp × g.row.F-Elem.Denot). IsIn c.args.n t.0.e)) (sym c.deref.ensures.value)
    (all-each (λ (t : Exp × g.row.F-Elem.Denot). IsIn c.args.n t.0.e) (λ (t : Exp × g.row.F-Elem.Denot). IsIn c.args.n t.0.e) (λ t h. h) c.loop-step.all.items c.loop-step.invariant.put.variables)

pub returns-in_err-part-clause-range : goal.returns-in_err-part-clause-range
returns-in_err-part-clause-range g c =
    let m = g.F.Ring.meaning c.args.field.now in
    let n = c.args.n in
    let last = c.loop-step-test.false in
    let put = put_by m (map m.value c.args.letters.now) n in
    let all = ap (poly_of n m.value) c.deref.ensures.value ∙ c.loop-step.invariant.put.polynomial ∙ ap (λ z. put z c.args.i) (take_all c.loop-step.step-index c.args.steps.now (omega arith)) in
    fault_handed_on _ c.from_residual-in_err-part.ensures.1
    (λ high. inr (subst (λ z. IsHigh (sums_heights (exps n) m.scalars (cut_in n m.scalars.ops 16 z))) all high))
    c.in_err-part.ensures.range

pub returns-clause-part : goal.returns-clause-part
returns-clause-part g c =
    let m = g.F.Ring.meaning c.args.field.now in
    let n = c.args.n in
    let last = c.loop-step-test.false in
    let put = put_by m (map m.value c.args.letters.now) n in
    let all = ap (poly_of n m.value) c.deref.ensures.value ∙ c.loop-step.invariant.put.polynomial ∙ ap (λ z. put z c.args.i) (take_all c.loop-step.step-index c.args.steps.now (omega arith)) in
    let made = c.in_ok-part.ensures in
    subst (IsPutFor m n 16 (put c.args.steps.now c.args.i)) (sym c.in_order.ensures.same)
    (put_for m (g.met.F.Ring.laws c.args.field.now c.requires.ring).numbers n 16 (put c.args.steps.now c.args.i) c.in_ok-part.part made.jet made.n made.order
    (subst (λ (f : JetTerms g.row.F-Elem.Denot). Rattle.jet_poly.specs.JetTerms.IsRising f.terms) c.in_order.ensures.same c.in_order.ensures.rising)
    (λ b. made.sum b ∙ ap (λ z. coefficient (exps n) m.scalars.ops (cut_in n m.scalars.ops 16 z) b) all))
