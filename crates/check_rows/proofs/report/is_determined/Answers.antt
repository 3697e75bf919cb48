use Rattle.std.proofs.Common.{sym, ◌∙◌, subst}
use Rattle.ring_law.proofs.Exits.{faulted_by}
use Rattle.jet_poly.proofs.Steps.{if_ok}
use Rattle.report_law.specs.Items.{AreMatherRows}
use Rattle.check_rows.specs.ItemHeights.{IsMatherHigh}
use Rattle.check_rows.proofs.JetLemmas.{answer_no, not_both}
use Rattle.check_rows.proofs.report.is_determined.Goals as goal

pub returns-then-not-is_split_jet-clause-determined : goal.returns-then-not-is_split_jet-clause-determined
returns-then-not-is_split_jet-clause-determined c = answer_no (λ d. not_both c.is_split_jet.result (c.is_split_jet.ensures ∙ d.split) c.if-not-is_split_jet.true)

pub returns-clause-determined : goal.returns-clause-determined
returns-clause-determined c =
    if_ok c.are_mather_rows.result
    (λ b decides. (
      (λ yes. record { split = sym c.is_split_jet.ensures ∙ c.if-not-is_split_jet.false; rows = subst (AreMatherRows c.args.r.now.carried) c.as_slice.ensures (decides.0 yes) }),
      (λ d. decides.1 (subst (AreMatherRows c.args.r.now.carried) (sym c.as_slice.ensures) d.rows)),
    ))
    c.are_mather_rows.ensures.rows

pub returns-clause-range : goal.returns-clause-range
returns-clause-range c = faulted_by (λ high. subst (IsMatherHigh c.args.r.now.carried) c.as_slice.ensures high) c.are_mather_rows.ensures.range
