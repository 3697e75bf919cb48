use Rattle.std.proofs.Common.{◌≡◌, ◌∙◌, [], get_or, map, refl, ap, take_all, arith}
use Rattle.lin_row.specs.Lines.{entry}
use Rattle.mono_exp.specs.declared.exponent.Exp.{Exp}
use Rattle.jacobian_row.proofs.ListSteps.{same_default}
use Rattle.jet_quotient.specs.Answers.{number_of}
use Rattle.jet_quotient.proofs.LoopFacts.{images_more, recursion_push}
use Rattle.jet_quotient.proofs.table.values_of.Goals as goal

pub loop-b-init : goal.loop-b-init
loop-b-init g c = rw c.new-values.ensures.items (record { values = refl; elems = tt })

pub loop-b-preserved : goal.loop-b-preserved
loop-b-preserved g c =
    let m = g.R.Ring.meaning c.args.ring.now in
    let n = c.args.n in
    let left = c.args.left.now in
    let x = c.entry_at-value.result in
    let b : Exp = get_or c.args.basis.now c.loop-b.b-index (record { e = [] }) in
    let read : b ≡ get_or c.args.basis.now c.loop-b.b-index b = same_default c.args.basis.now c.loop-b.b-index (record { e = [] }) b c.loop-b-test.true in
    rw c.in_ok-push.ensures.items
    (record {
      values = images_more m.value (λ (b : Exp). entry m left (number_of n b)) c.loop-b.values.items c.args.basis.now c.loop-b.b-index x b c.loop-b-test.true read c.loop-b.invariant.values
          (c.entry_at-value.ensures.value ∙ ap (entry m left) c.rank.ensures.rank);
      elems = recursion_push m.is_elem c.loop-b.values.items x c.loop-b.invariant.elems c.entry_at-value.ensures.elem;
    })

pub returns-clause-values : goal.returns-clause-values
returns-clause-values g c =
    let m = g.R.Ring.meaning c.args.ring.now in
    rw c.from_vec.ensures (c.loop-b.invariant.values ∙ ap (map (λ (b : Exp). entry m c.args.left.now (number_of c.args.n b))) (take_all c.loop-b.b-index c.args.basis.now (omega arith)))

pub returns-clause-elems : goal.returns-clause-elems
returns-clause-elems g c = rw c.from_vec.ensures c.loop-b.invariant.elems
