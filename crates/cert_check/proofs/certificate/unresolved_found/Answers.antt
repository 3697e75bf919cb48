-- The items of all certificates hold, before those of this kind.
use Rattle.std.proofs.Common.{[], ◌∷◌}
use Rattle.std.specs.Prelude.{nat_le}
use Rattle.jet_poly.proofs.Steps.{if_ok}
use Rattle.report_law.specs.declared.item.Item.TheVariants as items
use Rattle.report_law.specs.Valid.{UnresolvedItem}
use Rattle.cert_check.specs.Heights.{IsCarriedHigh, IsUnresolvedHigh}
use Rattle.cert_check.specs.Items.{CarriedItem, carried_items}
use Rattle.cert_check.proofs.Findings.{line_high, line_then, unresolved_same}
use Rattle.cert_check.proofs.certificate.unresolved_found.Goals as goal

pub returns-in-Ok-Passed : goal.returns-in-Ok-Passed
returns-in-Ok-Passed c =
    let passed = rw c.in-Ok-Passed.field-0-is at c.in-Ok-Passed.ensures in
    if_ok c.determined_on.result
    (λ f h.
    line_then c.args.line.now (λ l. CarriedItem l c.args.r.now.carried (nat_le c.args.r.now.carried.corank 3)) (λ l. UnresolvedItem c.args.line.now l c.args.r.now)
    (IsCarriedHigh c.args.line.now c.args.r.now.carried) (IsUnresolvedHigh c.args.line.now c.args.r.now) carried_items (items.Mather ∷ [])
    (unresolved_same c.args.line.now c.args.r.now) (λ h. h) passed f (λ l. h c.args.line.now l))
    c.determined_on.ensures

pub returns-in-Ok-High : goal.returns-in-Ok-High
returns-in-Ok-High c =
    let high = rw c.in-Ok-High.field-0-is at c.in-Ok-High.ensures in
    line_high c.args.line.now (λ l. CarriedItem l c.args.r.now.carried (nat_le c.args.r.now.carried.corank 3)) (λ l. UnresolvedItem c.args.line.now l c.args.r.now)
    (IsCarriedHigh c.args.line.now c.args.r.now.carried) (IsUnresolvedHigh c.args.line.now c.args.r.now) carried_items (items.Mather ∷ [])
    (unresolved_same c.args.line.now c.args.r.now) (λ h. h) c.in-Ok-High.item high
