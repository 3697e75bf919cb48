-- The item holds, before those that follow.
use Rattle.std.proofs.Common.{[], ◌∷◌}
use Rattle.jet_poly.proofs.Steps.{if_ok}
use Rattle.report_law.specs.declared.item.Item.TheVariants as items
use Rattle.report_law.specs.Valid.{NamedItem}
use Rattle.cert_check.specs.Heights.{IsNamedHigh}
use Rattle.cert_check.proofs.Findings.{found_then}
use Rattle.cert_check.proofs.evidence.units_on.Goals as goal

pub returns-in-Ok-Holds : goal.returns-in-Ok-Holds
returns-in-Ok-Holds c =
    let holds = rw c.in-Ok-Holds.field-0-is at c.in-Ok-Holds.ensures in
    if_ok c.modulus_on.result (λ f h bytes l. found_then (NamedItem bytes l c.args.r.now) (IsNamedHigh bytes c.args.r.now) items.Units (items.Modulus ∷ items.Mather ∷ items.Milnor ∷ []) holds f (h bytes l)) c.modulus_on.ensures
