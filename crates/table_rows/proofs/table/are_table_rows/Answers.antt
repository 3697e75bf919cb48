use Rattle.std.proofs.Common.{◌∙◌, [], ◌∷◌, ◌++◌, sym, ap, subst, take, take_all, arith}
use Rattle.std.specs.List.{AllByRecursion}
use Rattle.std.proofs.lemmas.List.{take_more}
use Rattle.std.proofs.lemmas.List.Elements.{All-from_recursion}
use Rattle.ring_law.proofs.Exits.{fault_handed_on}
use Rattle.jet_poly.proofs.Output.{all-push}
use Rattle.jacobian_row.proofs.ListSteps.{same_default}
use Rattle.check_rows.proofs.JetLemmas.{answer_no, answer_yes, not_both}
use Rattle.check_rows.specs.Lists.{list_at}
use Rattle.table_rows.specs.Tables.{IsTableRow, IsTableRowHigh}
use Rattle.table_rows.proofs.table.are_table_rows.Goals as goal

pub returns-in_err-is_table_row-clause-range : goal.returns-in_err-is_table_row-clause-range
returns-in_err-is_table_row-clause-range g c =
    let m = g.R.Ring.meaning c.args.ring.now in
    let i = c.loop-row.row-index in
    let row = c.row-item.result in
    fault_handed_on _ c.from_residual.ensures.1
    (λ high. record {
      place = i;
      within = c.loop-row-test.true;
      high = subst (λ z. IsTableRowHigh m c.args.n c.args.k c.args.basis.now (list_at c.args.n m.value c.args.partials.now) z)
          (c.row-item.is ∙ same_default c.args.table.now i row (record { monomial = record { e = [] }; values = []; multipliers = [] }) c.loop-row-test.true) high;
    })
    c.in_err-is_table_row.ensures.range

pub loop-row-preserved : goal.loop-row-preserved
loop-row-preserved g c =
    let m = g.R.Ring.meaning c.args.ring.now in
    let i = c.loop-row.row-index in
    let row = c.row-item.result in
    let holds = IsTableRow m c.args.n c.args.k c.args.basis.now (list_at c.args.n m.value c.args.partials.now) in
    subst (AllByRecursion holds) (sym (take_more c.args.table.now i row c.loop-row-test.true ∙ ap (λ z. take i c.args.table.now ++ z ∷ []) (sym c.row-item.is)))
    (all-push holds (take i c.args.table.now) row c.loop-row.invariant (c.in_ok-is_table_row.ensures.row.0 c.if-not-branch.false))

pub returns-then-not-branch-clause-rows : goal.returns-then-not-branch-clause-rows
returns-then-not-branch-clause-rows g c =
    let m = g.R.Ring.meaning c.args.ring.now in
    let i = c.loop-row.row-index in
    let row = c.row-item.result in
    let holds = IsTableRow m c.args.n c.args.k c.args.basis.now (list_at c.args.n m.value c.args.partials.now) in
    answer_no (λ all. not_both c.in_ok-is_table_row.field-0
    (c.in_ok-is_table_row.ensures.row.1 (subst holds (sym c.row-item.is) (All-from_recursion holds c.args.table.now all i row c.loop-row-test.true))) c.if-not-branch.true)

pub returns-clause-rows : goal.returns-clause-rows
returns-clause-rows g c =
    let m = g.R.Ring.meaning c.args.ring.now in
    let holds = IsTableRow m c.args.n c.args.k c.args.basis.now (list_at c.args.n m.value c.args.partials.now) in
    answer_yes (subst (AllByRecursion holds) (take_all c.loop-row.row-index c.args.table.now (omega arith)) c.loop-row.invariant)
