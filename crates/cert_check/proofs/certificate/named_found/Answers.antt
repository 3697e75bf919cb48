-- The items of all certificates hold, before those of this kind.
use Rattle.std.specs.Prelude.{nat_le}
use Rattle.jet_poly.proofs.Steps.{if_ok}
use Rattle.report_law.specs.Valid.{NamedItem}
use Rattle.cert_check.specs.Heights.{IsCarriedHigh, IsNamedHigh}
use Rattle.cert_check.specs.Items.{CarriedItem, carried_items, evidence_items}
use Rattle.cert_check.proofs.Findings.{line_high, line_then, named_same}
use Rattle.cert_check.proofs.certificate.named_found.Goals as goal

pub returns-in-Ok-Passed : goal.returns-in-Ok-Passed
returns-in-Ok-Passed c =
    let passed = rw c.in-Ok-Passed.field-0-is at c.in-Ok-Passed.ensures in
    if_ok c.evidence_found.result
    (λ f h.
    line_then c.args.line.now (λ l. CarriedItem l c.args.r.now.carried (nat_le c.args.r.now.carried.corank 3)) (λ l. NamedItem c.args.line.now l c.args.r.now)
    (IsCarriedHigh c.args.line.now c.args.r.now.carried) (IsNamedHigh c.args.line.now c.args.r.now) carried_items evidence_items
    (named_same c.args.line.now c.args.r.now) (λ h. h) passed f (λ l. h c.args.line.now l))
    c.evidence_found.ensures

pub returns-in-Ok-High : goal.returns-in-Ok-High
returns-in-Ok-High c =
    let high = rw c.in-Ok-High.field-0-is at c.in-Ok-High.ensures in
    line_high c.args.line.now (λ l. CarriedItem l c.args.r.now.carried (nat_le c.args.r.now.carried.corank 3)) (λ l. NamedItem c.args.line.now l c.args.r.now)
    (IsCarriedHigh c.args.line.now c.args.r.now.carried) (IsNamedHigh c.args.line.now c.args.r.now) carried_items evidence_items
    (named_same c.args.line.now c.args.r.now) (λ h. h) c.in-Ok-High.item high
