-- The form holds, before the items that follow.
use Rattle.jet_poly.proofs.Steps.{if_ok}
use Rattle.report_law.specs.declared.item.Item.TheVariants as items
use Rattle.report_law.specs.Valid.{NamedItem}
use Rattle.cert_check.specs.Heights.{IsNamedHigh}
use Rattle.cert_check.specs.Items.{units_on}
use Rattle.cert_check.proofs.Findings.{found_then}
use Rattle.cert_check.proofs.evidence.evidence_found.Goals as goal

pub returns-then-is_named_form : goal.returns-then-is_named_form
returns-then-is_named_form c =
    let holds = c.is_named_form.ensures.form.0 c.if-is_named_form.true in
    if_ok c.units_on.result (λ f h bytes l. found_then (NamedItem bytes l c.args.r.now) (IsNamedHigh bytes c.args.r.now) items.Form units_on holds f (h bytes l)) c.units_on.ensures
