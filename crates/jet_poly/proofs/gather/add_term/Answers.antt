use Rattle.std.proofs.Common.{◌<◌, ◌≤◌, ◌++◌, [], ◌∷◌, cond, sym, ap, subst, ◌∙◌, sum, nat_eq, arith}
use Rattle.std.specs.Prelude.{IfSome}
use Rattle.ring_theory.specs.Scalars.{SumIsHigh}
use Rattle.ring_law.proofs.Exits.{faulted}
use Rattle.poly_law.specs.ExpList.{exps}
use Rattle.poly_law.specs.Poly.{coefficient}
use Rattle.jet_law.specs.Terms.{exp_of}
use Rattle.jet_poly.specs.Gathered.{gathered}
use Rattle.jet_poly.proofs.Steps.{low-term, high-term, lookup-elem, there, insert-gathered, insert-sum}
use Rattle.jet_poly.proofs.gather.add_term.Goals as goal

pub returns-then-degree-from-clause-sum : goal.returns-then-degree-from-clause-sum
returns-then-degree-from-clause-sum g c b =
    let m = g.R.Ring.meaning c.args.ring.now in
    let high : c.args.k < sum c.args.a.e = (let d = c.degree.ensures.degree in let f = c.from.ensures in let t = c.if-degree-from.true in omega arith) in
    ap (λ t. coefficient (exps c.args.n) m.scalars.ops (cond t ((exp_of c.args.n c.args.a, m.value c.args.c) ∷ []) [] ++ gathered c.args.n m.value c.args.sums.now.entries) b)
    (sym (high-term c.args.n c.args.k c.args.a c.requires.variables high))

pub raised-requires-clause-there : goal.raised-requires-clause-there
raised-requires-clause-there g c =
    let m = g.R.Ring.meaning c.args.ring.now in
    subst (λ o. IfSome o m.is_elem) (sym (c.copied.ensures ∙ c.get.ensures.value)) (lookup-elem m.is_elem (nat_eq c.rank-number.result) c.args.sums.now.entries c.requires.gathered.elems)

pub returns-in_err-total-clause-range : goal.returns-in_err-total-clause-range
returns-in_err-total-clause-range g c =
    let m = g.R.Ring.meaning c.args.ring.now in
    let low : sum c.args.a.e ≤ c.args.k = (let d = c.degree.ensures.degree in let f = c.from.ensures in let t = c.if-degree-from.false in omega arith) in
    faulted _ c.from_residual.ensures.1
    (λ high. record {
      low = low-term c.args.n c.args.k c.args.a c.requires.variables low;
      high = subst (λ z. SumIsHigh m.scalars z (m.value c.args.c))
          (sym (there c.args.n c.args.k m (g.met.R.Ring.laws c.args.ring.now c.requires.ring).numbers c.args.sums.now.entries c.args.a c.rank-number.result c.copied.result c.requires.order_at_most_17 c.requires.gathered
          c.rank-number.ensures.rank c.rank-number.ensures.within (c.copied.ensures ∙ c.get.ensures.value))) high;
    })
    c.in_err-total.ensures.range

pub returns-clause-gathered : goal.returns-clause-gathered
returns-clause-gathered g c =
    let m = g.R.Ring.meaning c.args.ring.now in
    let low : sum c.args.a.e ≤ c.args.k = (let d = c.degree.ensures.degree in let f = c.from.ensures in let t = c.if-degree-from.false in omega arith) in
    insert-gathered c.args.n c.args.k m (g.met.R.Ring.laws c.args.ring.now c.requires.ring).numbers c.args.sums.now.entries c.insert.new.self.entries c.args.a c.rank-number.result c.in_ok-total.total c.requires.gathered c.requires.variables low
    c.rank-number.ensures.rank c.in_ok-total.ensures.elem c.in_ok-insert.ensures.entries c.in_ok-insert.ensures.unique

pub returns-clause-sum : goal.returns-clause-sum
returns-clause-sum g c =
    let m = g.R.Ring.meaning c.args.ring.now in
    let low : sum c.args.a.e ≤ c.args.k = (let d = c.degree.ensures.degree in let f = c.from.ensures in let t = c.if-degree-from.false in omega arith) in
    insert-sum c.args.n c.args.k m (g.met.R.Ring.laws c.args.ring.now c.requires.ring).numbers c.args.sums.now.entries c.insert.new.self.entries c.args.a c.rank-number.result c.copied.result c.in_ok-total.total c.args.c c.requires.variables low
    c.rank-number.ensures.rank c.rank-number.ensures.within (c.copied.ensures ∙ c.get.ensures.value) c.in_ok-total.ensures.sum c.in_ok-insert.ensures.entries
