use Rattle.std.proofs.Common.{[], length, get_or}
use borrow.Author.Count.{below_more}
use Rattle.mono_exp.specs.declared.exponent.Exp.{Exp}
use Rattle.jet_law.specs.Terms.{exp_of}
use Rattle.normal_forms.specs.Monomials.{in_eight}
use Rattle.check_rows.proofs.JetLemmas.{answer_no, not_both}
use Rattle.check_quotient.specs.Tables.{IsUnitRow}
use Rattle.check_quotient.proofs.Lookups.{read_as}
use Rattle.check_quotient.proofs.unit.are_unit_rows.Goals as goal

pub returns-then-not-is_unit_row : goal.returns-then-not-is_unit_row
returns-then-not-is_unit_row g c =
    let m = g.R.Ring.meaning c.args.ring.now in
    let basis = c.args.basis.now in
    let i = c.loop-i.i in
    answer_no (λ all. not_both c.is_unit_row.result
    (c.is_unit_row.ensures.1 (read_as (λ (b : Exp). IsUnitRow m c.args.n c.args.table.now (length basis) (exp_of c.args.n b) i) basis i (in_eight []) _ c.loop-i-test.true (all i c.loop-i-test.true)))
    c.if-not-is_unit_row.true)

pub loop-i-preserved : goal.loop-i-preserved
loop-i-preserved g c =
    let m = g.R.Ring.meaning c.args.ring.now in
    let basis = c.args.basis.now in
    below_more (λ i. IsUnitRow m c.args.n c.args.table.now (length basis) (exp_of c.args.n (get_or basis i (in_eight []))) i) c.loop-i.i c.loop-i.invariant
    (read_as (λ (b : Exp). IsUnitRow m c.args.n c.args.table.now (length basis) (exp_of c.args.n b) c.loop-i.i) basis c.loop-i.i _ (in_eight []) c.loop-i-test.true (c.is_unit_row.ensures.0 c.if-not-is_unit_row.false))
