use Rattle.std.proofs.Common.{◌∙◌, ◌<◌, [], ◌∷◌, ap, sym, subst, length, length-append, arith}
use Rattle.ring_law.proofs.Exits.{fault_handed_on}
use Rattle.jet_law.specs.Terms.{poly_of}
use Rattle.jacobian_row.specs.Rows.{IsPartial}
use Rattle.jacobian_row.proofs.ListSteps.{each_index_push, each_index_none}
use Rattle.jacobian_row.proofs.partial.partials.Goals as goal

pub loop-variable-init : goal.loop-variable-init
loop-variable-init g c =
    let m = g.R.Ring.meaning c.args.ring.now in
    let n = c.args.g.now.n in
    record { count = ap length c.new-all.ensures.items; each = each_index_none (IsPartial m n (poly_of n m.value c.args.g.now.terms)) c.new-all.result.items c.new-all.ensures.items }

pub returns-in_err-partial-clause-range : goal.returns-in_err-partial-clause-range
returns-in_err-partial-clause-range g c =
    let low : c.loop-variable.variable < c.args.g.now.n = (let e = c.n-variable-end.ensures in let h = c.loop-variable-test.true in omega arith) in
    fault_handed_on _ c.from_residual.ensures.1 (λ high. record { variable = c.loop-variable.variable; within = low; high = high }) c.in_err-partial.ensures.range

pub loop-variable-preserved : goal.loop-variable-preserved
loop-variable-preserved g c =
    let m = g.R.Ring.meaning c.args.ring.now in
    let n = c.args.g.now.n in
    let all = c.loop-variable.all.items in
    let f = c.in_ok-partial.partial in
    let here : IsPartial m n (poly_of n m.value c.args.g.now.terms) c.loop-variable.variable f = record { jet = record { jet = c.in_ok-partial.ensures.jet; variables = c.in_ok-partial.ensures.n }; derivative = c.in_ok-partial.ensures.derivative } in
    rw c.in_ok-push.ensures.items
    (record {
      count = (let e = length-append all (f ∷ []) in let h = c.loop-variable.invariant.count in omega arith);
      each = each_index_push (IsPartial m n (poly_of n m.value c.args.g.now.terms)) all f c.loop-variable.invariant.each
          (subst (λ i. IsPartial m n (poly_of n m.value c.args.g.now.terms) i f) (sym c.loop-variable.invariant.count) here);
    })

pub returns-clause-partials : goal.returns-clause-partials
returns-clause-partials g c = record {
  count = c.loop-variable.invariant.count ∙ (let e = c.n-variable-end.ensures in omega arith);
  each = c.loop-variable.invariant.each;
}
