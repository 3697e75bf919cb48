use Rattle.std.proofs.Common.{◌+◌, ◌<◌, ◌≤◌, ◌∙◌, [], get_or, length, take, take_all, sum, refl, sym, ap, subst, arith}
use Rattle.ring_law.proofs.Exits.{faulted, fault_handed_on}
use Rattle.poly_law.specs.ExpList.{exps}
use Rattle.poly_law.specs.Poly.{coefficient, Same, derivative}
use Rattle.poly_law.specs.Sums.{multiple}
use Rattle.poly_law.specs.Exps.{lower}
use Rattle.mono_exp.specs.Exponents.{IsIn}
use Rattle.jet_law.proofs.TermLemmas.{at-exp_of}
use Rattle.jet_law.specs.Terms.{poly_of}
use Rattle.jet_poly.specs.Jets.{IsJet, whole}
use Rattle.jet_poly.proofs.KeptTerms.{made}
use Rattle.jet_poly.proofs.Derived.{AreReady, keys, key-read, keys-rise, none-ready, ready-step, ready-jet, made-step, derivative-high, before-lowered, in-lowered, degree-lowered, lowered, whole-mul, multiple_positive}
use Rattle.jet_poly.proofs.walk.derived.Goals as goal

pub returns-in_err-c-clause-range : goal.returns-in_err-c-clause-range
returns-in_err-c-clause-range g c =
    let m = g.R.Ring.meaning c.args.ring.now in
    faulted _ c.from_residual.ensures.1
    (λ high. derivative-high c.args.n c.args.order m (g.met.R.Ring.laws c.args.ring.now c.requires.ring).numbers c.args.i (m.value c.whole_number.result) c.args.terms.now c.loop-t.t-index c.t-item.result c.requires.variable c.loop-t-test.true c.t-item.is
    (c.whole_number.ensures.value ∙ ap (λ j. whole m.scalars (get_or c.t-item.result.0.e j 0)) c.from.ensures) high)
    c.in_err-c.ensures.cause

pub returns-in_err-push_term-clause-range : goal.returns-in_err-push_term-clause-range
returns-in_err-push_term-clause-range g c = fault_handed_on _ c.from_residual-in_err-push_term.ensures.1 (λ bad. absurd bad) c.in_err-push_term.ensures.memory

pub loop-t-init : goal.loop-t-init
loop-t-init g c =
    let m = g.R.Ring.meaning c.args.ring.now in
    record {
      ready = none-ready c.args.n c.args.order m (g.met.R.Ring.laws c.args.ring.now c.requires.ring).numbers (λ j. lowered c.args.i (get_or (keys c.args.terms.now) j [])) (λ j. 0 < get_or (get_or (keys c.args.terms.now) j []) c.args.i 0) (length c.args.terms.now) c.new-kept.result.items c.new-kept.ensures.items;
      so_far = λ b. ap (λ z. coefficient (exps c.args.n) m.scalars.ops (poly_of c.args.n m.value z) b) c.new-kept.ensures.items;
    }

pub loop-t-preserved : goal.loop-t-preserved
loop-t-preserved g c =
    let m = g.R.Ring.meaning c.args.ring.now in
    let laws = (g.met.R.Ring.laws c.args.ring.now c.requires.ring).numbers in
    let n = c.args.n in
    let f = c.args.terms.now in
    let i = c.loop-t.t-index in
    let t = c.t-item.result in
    let h = c.loop-t-test.true in
    let e = c.t-item.is in
    let number = c.whole_number.ensures.value ∙ ap (λ j. whole m.scalars (get_or c.t-item.result.0.e j 0)) c.from.ensures in
    let value = c.in_ok-c.ensures.value ∙ ap (λ z. m.scalars.ops.mul z (m.value c.t-item.result.1)) number ∙ whole-mul m.scalars laws (get_or c.t-item.result.0.e c.args.i 0) (m.value c.t-item.result.1) in
    record {
      ready = subst (AreReady n c.args.order m (λ j. lowered c.args.i (get_or (keys c.args.terms.now) j [])) (λ j. 0 < get_or (get_or (keys c.args.terms.now) j []) c.args.i 0) (c.loop-t.t-index + 1) (length c.args.terms.now)) (sym c.in_ok-push_term.ensures.pushed)
          (ready-step n c.args.order m laws (λ j. lowered c.args.i (get_or (keys c.args.terms.now) j [])) (λ j. 0 < get_or (get_or (keys c.args.terms.now) j []) c.args.i 0) (length c.args.terms.now) (λ a b l s x y. before-lowered c.args.i (get_or (keys c.args.terms.now) a []) (get_or (keys c.args.terms.now) b []) x y (keys-rise c.args.terms.now a b c.requires.rising l s))
          i c.loop-t.kept.items (c.lowered.result, c.in_ok-c.c) h (c.lowered.ensures.exponents ∙ ap (lowered c.args.i) (sym (key-read f i t h e))) c.in_ok-c.ensures.elem
          (λ nz. (let up : 0 < get_or c.t-item.result.0.e c.args.i 0 = multiple_positive m.scalars laws (get_or c.t-item.result.0.e c.args.i 0) (m.value c.t-item.result.1) (λ z. nz (value ∙ z)) in (
            subst (λ z. 0 < get_or z c.args.i 0) (sym (key-read f i t h e)) up,
            subst (IsIn c.args.n) (sym c.lowered.ensures.exponents) (in-lowered c.args.n c.args.i c.t-item.result.0.e (subst (λ z. IsIn c.args.n z.0.e) (sym e) (c.requires.jet.variables i t h))),
            subst (λ z. sum z ≤ c.args.order) (sym c.lowered.ensures.exponents) (degree-lowered c.args.i c.t-item.result.0.e c.args.order up (subst (λ z. sum z.0.e ≤ c.args.order) (sym e) (c.requires.jet.degrees i t h))),
          )))
          c.loop-t.invariant.ready);
      so_far = subst (λ z. Same (exps c.args.n) m.scalars.ops (poly_of c.args.n m.value z) (derivative (exps c.args.n) m.scalars.ops c.args.i (poly_of c.args.n m.value (take (c.loop-t.t-index + 1) c.args.terms.now)))) (sym c.in_ok-push_term.ensures.pushed)
          (made-step n c.args.order m laws (λ t. (lower (exps c.args.n) c.args.i t.0, multiple m.scalars.ops ((exps c.args.n).at t.0 c.args.i) t.1)) f i t c.loop-t.kept.items c.lowered.result c.in_ok-c.c h e (c.lowered.ensures.lower c.args.n)
          (value ∙ ap (λ z. multiple m.scalars.ops z (m.value c.t-item.result.1)) (sym (at-exp_of c.args.n c.t-item.result.0 c.args.i c.requires.variable))) c.loop-t.invariant.so_far);
    }

pub from_rising-requires : goal.from_rising-requires
from_rising-requires g c = record { rising = c.loop-t.invariant.ready.rising }

pub returns-clause-jet : goal.returns-clause-jet
returns-clause-jet g c =
    let m = g.R.Ring.meaning c.args.ring.now in
    subst (IsJet m) (sym c.from_rising.ensures)
    (ready-jet c.args.n c.args.order m (g.met.R.Ring.laws c.args.ring.now c.requires.ring).numbers (λ j. lowered c.args.i (get_or (keys c.args.terms.now) j [])) (λ j. 0 < get_or (get_or (keys c.args.terms.now) j []) c.args.i 0) c.loop-t.t-index (length c.args.terms.now) (made c.args.n c.args.order c.loop-t.kept.items) refl refl c.loop-t.invariant.ready)

pub returns-clause-derivative : goal.returns-clause-derivative
returns-clause-derivative g c b =
    let m = g.R.Ring.meaning c.args.ring.now in
    ap (λ h. coefficient (exps c.args.n) m.scalars.ops (poly_of c.args.n m.value h.terms) b) c.from_rising.ensures
    ∙ subst (λ z. Same (exps c.args.n) m.scalars.ops (poly_of c.args.n m.value c.loop-t.kept.items) (derivative (exps c.args.n) m.scalars.ops c.args.i (poly_of c.args.n m.value z)))
    (take_all c.loop-t.t-index c.args.terms.now (omega arith)) c.loop-t.invariant.so_far b
