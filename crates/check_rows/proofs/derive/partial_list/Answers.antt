use Rattle.std.proofs.Common.{◌≡◌, get_or, sym, ap, subst, ◌∙◌, take_all, arith}
use Rattle.ring_law.proofs.Exits.{faulted}
use Rattle.poly_law.specs.Sums.{multiple}
use Rattle.poly_law.specs.Exps.{lower}
use Rattle.poly_law.specs.ExpList.{exps}
use Rattle.poly_law.specs.Polynomials.{derivative_in}
use Rattle.mono_exp.specs.Exponents.{IsIn}
use Rattle.jet_law.specs.Terms.{exp_of, poly_of}
use Rattle.jet_law.proofs.TermLemmas.{at-exp_of}
use Rattle.jet_poly.specs.Jets.{whole}
use Rattle.jet_poly.proofs.Derived.{derivative-high, in-lowered, whole-mul}
use Rattle.check_rows.specs.Lists.{AreTermsIn}
use Rattle.check_rows.proofs.ListLemmas.{terms_none, terms_push, mapped_step}
use Rattle.check_rows.proofs.derive.partial_list.Goals as goal

pub loop-t-init : goal.loop-t-init
loop-t-init g c =
    let m = g.R.Ring.meaning c.args.ring.now in
    record { valid = terms_none m c.args.n c.new-list.result.items c.new-list.ensures.items; so_far = ap (poly_of c.args.n m.value) c.new-list.ensures.items }

pub returns-in_err-c-clause-range : goal.returns-in_err-c-clause-range
returns-in_err-c-clause-range g c =
    let m = g.R.Ring.meaning c.args.ring.now in
    faulted _ c.from_residual.ensures.1
    (λ high. derivative-high c.args.n 0 m (g.met.R.Ring.laws c.args.ring.now c.requires.ring).numbers c.args.i (m.value c.whole_number.result) c.args.terms.now c.loop-t.t-index c.t-item.result c.requires.variable c.loop-t-test.true c.t-item.is
    (c.whole_number.ensures.value ∙ ap (λ j. whole m.scalars (get_or c.t-item.result.0.e j 0)) c.from.ensures) high)
    c.in_err-c.ensures.cause

pub loop-t-preserved : goal.loop-t-preserved
loop-t-preserved g c =
    let m = g.R.Ring.meaning c.args.ring.now in
    let laws = (g.met.R.Ring.laws c.args.ring.now c.requires.ring).numbers in
    let n = c.args.n in
    let f = c.args.terms.now in
    let i = c.loop-t.t-index in
    let t = c.t-item.result in
    let h = c.loop-t-test.true in
    let e = c.t-item.is in
    let number = c.whole_number.ensures.value ∙ ap (λ j. whole m.scalars (get_or c.t-item.result.0.e j 0)) c.from.ensures in
    let value = c.in_ok-c.ensures.value ∙ ap (λ z. m.scalars.ops.mul z (m.value c.t-item.result.1)) number ∙ whole-mul m.scalars laws (get_or c.t-item.result.0.e c.args.i 0) (m.value c.t-item.result.1) in
    rw c.in_ok-push.ensures.items
    (record {
      valid = terms_push m n c.loop-t.list.items c.lowered.result c.in_ok-c.c c.loop-t.invariant.valid c.in_ok-c.ensures.elem
          (subst (IsIn c.args.n) (sym c.lowered.ensures.exponents) (in-lowered c.args.n c.args.i c.t-item.result.0.e (subst (λ z. IsIn c.args.n z.0.e) (sym e) (c.requires.variables i t h))));
      so_far = mapped_step n m.value (λ u. (exp_of n u.0, m.value u.1)) (λ t. (lower (exps n) c.args.i t.0, multiple m.scalars.ops ((exps n).at t.0 c.args.i) t.1)) f i t c.loop-t.list.items (c.lowered.result, c.in_ok-c.c) h e
          (λ j. (c.lowered.ensures.lower n j, (value ∙ ap (λ z. multiple m.scalars.ops z (m.value t.1)) (sym (at-exp_of n t.0 c.args.i c.requires.variable))) j)) c.loop-t.invariant.so_far;
    })

pub returns-clause-list : goal.returns-clause-list
returns-clause-list g c =
    let m = g.R.Ring.meaning c.args.ring.now in
    let n = c.args.n in
    let terms : poly_of c.args.n m.value c.loop-t.list.items ≡ derivative_in c.args.n m.scalars.ops c.args.i (poly_of c.args.n m.value c.args.terms.now)
    = subst (λ z. poly_of c.args.n m.value c.loop-t.list.items ≡ derivative_in c.args.n m.scalars.ops c.args.i (poly_of c.args.n m.value z)) (take_all c.loop-t.t-index c.args.terms.now (omega arith)) c.loop-t.invariant.so_far in
    record { valid = subst (AreTermsIn m n) (sym c.from_vec.ensures) c.loop-t.invariant.valid; derivative = ap (poly_of n m.value) c.from_vec.ensures ∙ terms }
