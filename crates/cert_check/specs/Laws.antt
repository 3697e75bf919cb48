-- One verdict is true of a report.
use Rattle.std.specs.Prelude.{◌≡◌}
use Rattle.cert_text.specs.declared.report.Report.{Report}
use Rattle.report_law.specs.declared.item.Item.{Item}
use Rattle.report_law.specs.Valid.{IsValid}
use Rattle.report_law.specs.Verdicts.{IsUnchecked, IsInvalid}

-- of these no two are true of a report: it is valid; it has no items; an item is the first false one, and that is one item
pub record OneVerdict : Type 0 where
  pub valid_or_unchecked : (r : Report) → IsValid r → IsUnchecked r → ⊥
  pub valid_or_invalid : (r : Report) (item : Item) → IsValid r → IsInvalid r item → ⊥
  pub unchecked_or_invalid : (r : Report) (item : Item) → IsUnchecked r → IsInvalid r item → ⊥
  pub one_item : (r : Report) (i j : Item) → IsInvalid r i → IsInvalid r j → i ≡ j
