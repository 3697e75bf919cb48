use Rattle.std.proofs.Common.{◌≡◌, ◌<◌, [], ◌∷◌, ◌++◌, get_or, map, All, sym, ◌∙◌, ap, subst, arith}
use Rattle.std.proofs.lemmas.List.{map-append}
use Rattle.mono_exp.proofs.Lists.{Each, each-at}
use Rattle.jet_law.specs.Terms.{poly_of}
use Rattle.jet_subst.proofs.Tables.{all_push}
use Rattle.coord_change.specs.Moves.{at}
use Rattle.move_law.specs.Moves.{pair_exponents}
use Rattle.move_law.specs.Hessian.{entry as entry_of}
use Rattle.hessian_rank.specs.Stages.{stage_of}
use Rattle.hessian_rank.proofs.StageSteps.{map_more, take_end}
use Rattle.hessian_rank.proofs.diagonal.coefficients.Goals as goal

pub entry-requires-clause-jet : goal.entry-requires-clause-jet
entry-requires-clause-jet g c = c.requires.stage.form

pub entry-requires-clause-at_most_8_variables : goal.entry-requires-clause-at_most_8_variables
entry-requires-clause-at_most_8_variables g c = let a = c.requires.stage.form_variables in let b = c.requires.stage.change.at_most_8_variables in omega arith

pub entry-requires-clause-first : goal.entry-requires-clause-first
entry-requires-clause-first g c =
    let a = c.requires.stage.form_variables in
    let h = each-at (λ i. i < c.args.stage.now.change.n) c.deref-i-items.result.now c.loop-i.i-index 0 c.loop-i-test.true (subst (Each (λ i. i < c.args.stage.now.change.n)) (sym c.deref-i-items.ensures.value) c.requires.sound.closed_inside) in
    omega arith

pub entry-requires-clause-second : goal.entry-requires-clause-second
entry-requires-clause-second g c =
    let a = c.requires.stage.form_variables in
    let h = each-at (λ i. i < c.args.stage.now.change.n) c.deref-i-items.result.now c.loop-i.i-index 0 c.loop-i-test.true (subst (Each (λ i. i < c.args.stage.now.change.n)) (sym c.deref-i-items.ensures.value) c.requires.sound.closed_inside) in
    omega arith

pub loop-i-preserved : goal.loop-i-preserved
loop-i-preserved g c =
    let m = g.R.Ring.meaning c.args.ring.now in
    let n = c.args.stage.now.change.n in
    let k = c.loop-i.i-index in
    let xs = c.deref-i-items.result.now in
    let i = get_or xs k 0 in
    let old = c.loop-i.all.items in
    let x = c.entry.result in
    let value = subst (λ z. m.value x ≡ at z m.scalars (poly_of z m.value c.args.stage.now.form.terms) (pair_exponents z i i)) c.requires.stage.form_variables c.entry.ensures.value in
    record {
      elems = subst (All m.is_elem) (sym c.in_ok-push.ensures.items) (all_push m.is_elem old x c.loop-i.invariant.elems c.entry.ensures.elem);
      values = ap (map m.value) c.in_ok-push.ensures.items ∙ map-append m.value old (x ∷ []) ∙ ap (λ z. map m.value old ++ z ∷ []) value
          ∙ map_more (λ i. entry_of n m.scalars (stage_of m n c.args.stage.now) i i) xs k 0 (map m.value old) c.loop-i-test.true c.loop-i.invariant.values;
    }

pub returns-clause-values : goal.returns-clause-values
returns-clause-values g c =
    let m = g.R.Ring.meaning c.args.ring.now in
    let n = c.args.stage.now.change.n in
    c.loop-i.invariant.values ∙ ap (map (λ i. entry_of n m.scalars (stage_of m n c.args.stage.now) i i)) (take_end c.deref-i-items.result.now c.loop-i.i-index c.loop-i-test.false ∙ c.deref-i-items.ensures.value)
