use Rattle.std.proofs.Common.{◌≡◌, ◌∙◌, ◌<◌, ◌∷◌, [], length, get_or, length-append, arith}
use Rattle.jacobian_row.proofs.ListSteps.{each_index_push}
use Rattle.determinacy.proofs.AnswerLemmas.{each_at}
use Rattle.jet_quotient.specs.Answers.{IsReadable, IsRowBy}
use Rattle.jet_quotient.proofs.LoopFacts.{row_here}
use Rattle.jet_quotient.proofs.table.table_of.Goals as goal

pub row_of-requires-clause-rest : goal.row_of-requires-clause-rest
row_of-requires-clause-rest g c = each_at (IsReadable (g.R.Ring.meaning c.args.ring.now) (length c.args.multiples.now)) c.args.rests.now c.loop-i.i c.index-rests-i.result c.loop-i-test.true c.index-rests-i.is c.requires.rests

pub loop-i-preserved : goal.loop-i-preserved
loop-i-preserved g c =
    let m = g.R.Ring.meaning c.args.ring.now in
    let n = c.args.n in
    let k = c.args.k in
    let us = c.args.multiples.now in
    let basis = c.args.basis.now in
    let monomials = c.args.monomials.now in
    let rests = c.args.rests.now in
    let rows = c.loop-i.rows.items in
    let row = c.in_ok-row.row in
    let count = c.loop-i.invariant.count in
    let in_monomials : c.loop-i.i < length monomials = (let h = c.loop-i-test.true in let e = c.requires.one_each in omega arith) in
    let here = row_here m n k us basis monomials rests c.loop-i.i (length rows) (record { e = [] }) c.index-rests-i.result row in_monomials c.loop-i-test.true c.index-rests-i.is count c.in_ok-row.ensures.row in
    rw c.in_ok-push.ensures.items
    (record {
      count = (let e = length-append rows (row ∷ []) in omega arith);
      rows = λ a s. each_index_push (λ i row. IsRowBy m n k us basis (get_or monomials i a) (get_or rests i s) row) rows row (c.loop-i.invariant.rows a s) (here a s);
    })

pub returns-clause-count : goal.returns-clause-count
returns-clause-count g c = rw c.from_vec.ensures (c.loop-i.invariant.count ∙ (let h = c.requires.one_each in let e : c.loop-i.i ≡ length c.args.monomials.now = omega arith in e))

pub returns-clause-rows : goal.returns-clause-rows
returns-clause-rows g c = rw c.from_vec.ensures c.loop-i.invariant.rows
