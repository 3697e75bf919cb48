use Rattle.std.proofs.Common.{◌<◌, ◌∷◌, [], length, get_or, length-append, arith}
use Rattle.jacobian_row.proofs.ListSteps.{each_index_push}
use Rattle.determinacy.specs.Answers.{IsRowBy}
use Rattle.determinacy.proofs.AnswerLemmas.{row_here, failure_here}
use Rattle.determinacy.proofs.test.answer.Goals as goal

pub loop-i-preserved : goal.loop-i-preserved
loop-i-preserved g c =
    let m = g.R.Ring.meaning c.args.ring.now in
    let n = c.args.n in
    let k = c.args.k in
    let us = c.args.multiples.now in
    let monomials = c.args.monomials.now in
    let solutions = c.args.solutions.now in
    let rows = c.loop-i.rows.items in
    let row = c.in_ok-row-in-Solved.row in
    let made = rw c.deref.ensures.value at c.in_ok-row-in-Solved.ensures.row in
    let count = c.loop-i.invariant.count in
    let in_monomials : c.loop-i.i < length monomials = (let h = c.loop-i-test.true in let e = c.requires.one_each in omega arith) in
    let here = row_here m n k us monomials solutions c.loop-i.i (record { e = [] }) c.index-solutions-i.result in_monomials c.loop-i-test.true c.index-solutions-i.is c.in-Solved.coefficients row (length rows) count c.in-Solved.is made in
    rw c.in_ok-push-in-Solved.ensures.items
    (record {
      count = (let e = length-append rows (row ∷ []) in omega arith);
      rows = λ a s. each_index_push (λ i row. IsRowBy m n k us (get_or monomials i a) (get_or solutions i s) row) rows row (c.loop-i.invariant.rows a s) (here a s);
    })

pub returns-in-Excluded-clause-answer : goal.returns-in-Excluded-clause-answer
returns-in-Excluded-clause-answer g c =
    let m = g.R.Ring.meaning c.args.ring.now in
    let monomials = c.args.monomials.now in
    let in_monomials : c.loop-i.i < length monomials = (let h = c.loop-i-test.true in let e = c.requires.one_each in omega arith) in
    failure_here m c.args.n c.args.k c.args.multiples.now monomials c.args.solutions.now c.loop-i.i (record { e = [] }) c.index-solutions-i.result in_monomials c.loop-i-test.true c.index-solutions-i.is c.in-Excluded.values c.failure_of.result c.in-Excluded.is
    (rw c.deref-in-Excluded.ensures.value at c.failure_of.ensures.failure)
