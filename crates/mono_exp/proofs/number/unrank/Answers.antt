use Rattle.std.proofs.Common.{◌+◌, ◌-◌, set, sym, subst, arith}
use Rattle.mono_exp.proofs.NumberLemmas.{Found, first_fits, small_rest, left_within, rest_fits, found_next, found_first, found_last}
use Rattle.mono_exp.proofs.number.unrank.Goals as goal

pub loop-i-init : goal.loop-i-init
loop-i-init c = found_first c.args.r c.degree_at-d.result c.args.n c.requires.variables c.degree_at-d.ensures.small c.degree_at-d.ensures.reached c.degree_at-d.ensures.next

pub overflow_sub-left : goal.overflow_sub-left
overflow_sub-left c = first_fits c.args.n c.loop-i.i c.args.r c.loop-i.left c.loop-i.d c.first-left.result c.loop-i.e c.loop-i-test.true c.loop-i.invariant c.first-left.ensures.count

pub degree_at-rest-requires-clause-small : goal.degree_at-rest-requires-clause-small
degree_at-rest-requires-clause-small c = small_rest c.args.n c.loop-i.i c.args.r c.loop-i.left c.loop-i.d c.first-left.result c.loop-i.e c.loop-i-test.true c.loop-i.invariant c.first-left.ensures.count

pub degree_at-rest-requires-clause-within : goal.degree_at-rest-requires-clause-within
degree_at-rest-requires-clause-within c = left_within c.args.n c.loop-i.i c.args.r c.loop-i.left c.loop-i.d c.first-left.result c.loop-i.e c.loop-i-test.true c.loop-i.invariant c.first-left.ensures.count

pub overflow_sub-e : goal.overflow_sub-e
overflow_sub-e c = rest_fits c.args.n c.loop-i.i c.args.r c.loop-i.left c.loop-i.d c.first-left.result c.loop-i.e c.loop-i-test.true c.loop-i.invariant c.first-left.ensures.count c.degree_at-rest.result c.degree_at-rest.ensures.reached

pub loop-i-preserved : goal.loop-i-preserved
loop-i-preserved c =
    subst (λ k. Found c.args.r (set c.loop-i.e k (c.loop-i.d - c.degree_at-rest.result)) (c.loop-i.i + 1) (c.args.n - (c.loop-i.i + 1)) (c.loop-i.left - c.first-left.result) c.degree_at-rest.result) (sym c.from.ensures)
    (found_next c.args.n c.loop-i.i c.args.r c.loop-i.left c.loop-i.d c.first-left.result c.loop-i.e c.loop-i-test.true c.loop-i.invariant c.first-left.ensures.count
    c.degree_at-rest.result c.requires.variables c.degree_at-rest.ensures.reached c.degree_at-rest.ensures.next)

pub returns-clause-rank : goal.returns-clause-rank
returns-clause-rank c = (found_last c.args.r c.args.n c.loop-i.i c.loop-i.left c.loop-i.d c.loop-i.e c.requires.variables (omega arith) c.loop-i.invariant).0

pub returns-clause-degree : goal.returns-clause-degree
returns-clause-degree c = (found_last c.args.r c.args.n c.loop-i.i c.loop-i.left c.loop-i.d c.loop-i.e c.requires.variables (omega arith) c.loop-i.invariant).1
