-- The items of all certificates hold, before those of this kind.
use Rattle.std.proofs.Common.{ℕ, ap, [], ◌∷◌}
use Rattle.std.specs.Prelude.{◌==◌}
use Rattle.report_law.specs.declared.item.Item.TheVariants as items
use Rattle.report_law.specs.Valid.{OutsideItem}
use Rattle.cert_check.specs.Heights.{IsCarriedHigh, IsOutsideHigh}
use Rattle.cert_check.specs.Items.{CarriedItem, carried_items}
use Rattle.cert_check.proofs.Findings.{line_high, line_then, outside_same}
use Rattle.cert_check.proofs.certificate.outside_found.Goals as goal

pub returns-in-Ok-Passed : goal.returns-in-Ok-Passed
returns-in-Ok-Passed c =
    let passed = rw c.in-Ok-Passed.field-0-is at c.in-Ok-Passed.ensures in
    line_then c.args.line.now (λ l. CarriedItem l c.args.r.now.carried (c.args.r.now.carried.order == c.order_of.result)) (λ l. OutsideItem c.args.line.now l c.args.r.now)
    (IsCarriedHigh c.args.line.now c.args.r.now.carried) (IsOutsideHigh c.args.line.now c.args.r.now) carried_items (items.Pattern ∷ [])
    (outside_same c.args.line.now c.args.r.now (c.args.r.now.carried.order == c.order_of.result) (ap (λ (k : ℕ). c.args.r.now.carried.order == k) c.order_of.ensures)) (λ h. h)
    passed c.pattern_on.result (λ l. c.pattern_on.ensures c.args.line.now l)

pub returns-in-Ok-High : goal.returns-in-Ok-High
returns-in-Ok-High c =
    let high = rw c.in-Ok-High.field-0-is at c.in-Ok-High.ensures in
    line_high c.args.line.now (λ l. CarriedItem l c.args.r.now.carried (c.args.r.now.carried.order == c.order_of.result)) (λ l. OutsideItem c.args.line.now l c.args.r.now)
    (IsCarriedHigh c.args.line.now c.args.r.now.carried) (IsOutsideHigh c.args.line.now c.args.r.now) carried_items (items.Pattern ∷ [])
    (outside_same c.args.line.now c.args.r.now (c.args.r.now.carried.order == c.order_of.result) (ap (λ (k : ℕ). c.args.r.now.carried.order == k) c.order_of.ensures)) (λ h. h) c.in-Ok-High.item high
