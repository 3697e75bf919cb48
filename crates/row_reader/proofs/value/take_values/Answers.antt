use Rattle.std.proofs.Common.{◌∷◌, [], List, length, length-append, sym, ap, subst, arith}
use Rattle.ring_law.specs.declared.fraction.Frac.{Frac}
use Rattle.ext_algebra.specs.declared.algebra.Ext.{Ext}
use Rattle.row_reader.specs.Words.{after_space}
use Rattle.row_reader.proofs.ValueTexts.{AreRead, values_start, values_more, values_stuck, values_done, values_found}
use Rattle.row_reader.proofs.value.take_values.Goals as goal

pub loop-i-init : goal.loop-i-init
loop-i-init c =
    let empty = c.new-values.ensures.items in
    record {
      long = ap length empty;
      so_far = subst (λ (es : List (Ext Frac)). AreRead c.args.a c.args.count (after_space c.args.rest) es (after_space c.args.rest)) (sym empty) (values_start c.args.a c.args.count (after_space c.args.rest));
    }

pub returns-in_default-clause-found : goal.returns-in_default-clause-found
returns-in_default-clause-found c es y valid starts e =
    values_stuck c.args.a c.args.count c.loop-i.i (after_space c.args.rest) (after_space c.loop-i.left) c.loop-i.values.items c.loop-i.invariant.so_far c.loop-i.invariant.long c.loop-i-test.true (c.take_value.ensures.none c.in_default.is) es y valid starts e

pub loop-i-preserved : goal.loop-i-preserved
loop-i-preserved c =
    let item = c.in-Some.ensures.some in
    let longer = c.in_ok-push.ensures.items in
    let more = values_more c.args.a c.args.count c.loop-i.i (after_space c.args.rest) (after_space c.loop-i.left) c.loop-i.values.items c.in-Some.value c.in-Some.behind c.loop-i.invariant.so_far c.loop-i.invariant.long c.loop-i-test.true item.0 item.1 in
    record {
      long = (let a = ap length longer in let b = length-append c.loop-i.values.items (c.in-Some.value ∷ []) in let d = c.loop-i.invariant.long in omega (arith, a, b, d));
      so_far = subst (λ (es : List (Ext Frac)). AreRead c.args.a c.args.count (after_space c.args.rest) es (after_space c.in-Some.behind)) (sym longer) more;
    }

pub returns-clause-some : goal.returns-clause-some
returns-clause-some c = values_found c.args.a c.args.count (after_space c.args.rest) (after_space c.loop-i.left) c.loop-i.values.items c.loop-i.invariant.so_far (let a = c.loop-i.invariant.long in let b = c.loop-i-test.false in let d = c.loop-i.auto.i-end in omega (arith, a, b, d))

pub returns-clause-found : goal.returns-clause-found
returns-clause-found c es y valid starts e =
    values_done c.args.a c.args.count (after_space c.args.rest) (after_space c.loop-i.left) c.loop-i.values.items c.loop-i.invariant.so_far (let a = c.loop-i.invariant.long in let b = c.loop-i-test.false in let d = c.loop-i.auto.i-end in omega (arith, a, b, d)) es y valid starts e
