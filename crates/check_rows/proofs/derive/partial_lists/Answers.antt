use Rattle.std.proofs.Common.{◌∙◌, ◌<◌, [], ◌∷◌, ap, sym, subst, length, length-append, arith}
use Rattle.ring_law.proofs.Exits.{fault_handed_on}
use Rattle.poly_law.specs.ExpList.{exps}
use Rattle.jet_law.specs.Heights.{IsHigh, derivative_heights}
use Rattle.jet_law.specs.Terms.{poly_of}
use Rattle.jacobian_row.proofs.ListSteps.{each_index_push, each_index_none}
use Rattle.check_rows.specs.Lists.{IsPartialList}
use Rattle.check_rows.proofs.derive.partial_lists.Goals as goal

pub loop-variable-init : goal.loop-variable-init
loop-variable-init g c =
    let m = g.R.Ring.meaning c.args.ring.now in
    let n = c.args.g.now.n in
    record { count = ap length c.new-all.ensures.items; each = each_index_none (IsPartialList m n (poly_of n m.value c.args.g.now.terms)) c.new-all.result.items c.new-all.ensures.items }

pub returns-in_err-partial-clause-range : goal.returns-in_err-partial-clause-range
returns-in_err-partial-clause-range g c =
    let m = g.R.Ring.meaning c.args.ring.now in
    let low : c.loop-variable.variable < c.args.g.now.n = (let e = c.n-variable-end.ensures in let h = c.loop-variable-test.true in omega arith) in
    fault_handed_on _ c.from_residual.ensures.1
    (λ high. record {
      variable = c.loop-variable.variable;
      within = low;
      high = subst (λ i. IsHigh (derivative_heights (exps i) m.scalars c.loop-variable.variable (poly_of i m.value c.args.g.now.terms))) c.n.ensures
          (subst (λ z. IsHigh (derivative_heights (exps c.n.result) m.scalars c.loop-variable.variable (poly_of c.n.result m.value z))) c.terms.ensures.terms high);
    }) c.in_err-partial.ensures.range

pub loop-variable-preserved : goal.loop-variable-preserved
loop-variable-preserved g c =
    let m = g.R.Ring.meaning c.args.ring.now in
    let n = c.args.g.now.n in
    let all = c.loop-variable.all.items in
    let f = c.in_ok-partial.partial in
    let here : IsPartialList m c.args.g.now.n (poly_of c.args.g.now.n m.value c.args.g.now.terms) c.loop-variable.variable f =
    subst (λ i. IsPartialList m i (poly_of i m.value c.args.g.now.terms) c.loop-variable.variable f) c.n.ensures
    (subst (λ z. IsPartialList m c.n.result (poly_of c.n.result m.value z) c.loop-variable.variable f) c.terms.ensures.terms c.in_ok-partial.ensures.list) in
    rw c.in_ok-push.ensures.items
    (record {
      count = (let e = length-append all (f ∷ []) in let h = c.loop-variable.invariant.count in omega arith);
      each = each_index_push (IsPartialList m n (poly_of n m.value c.args.g.now.terms)) all f c.loop-variable.invariant.each
          (subst (λ i. IsPartialList m n (poly_of n m.value c.args.g.now.terms) i f) (sym c.loop-variable.invariant.count) here);
    })

pub returns-clause-partials : goal.returns-clause-partials
returns-clause-partials g c = record {
  count = c.loop-variable.invariant.count ∙ (let e = c.n-variable-end.ensures in omega arith);
  each = c.loop-variable.invariant.each;
}
