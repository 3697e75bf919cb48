-- What a checker says of a text of reports.
use Rattle.std.specs.Prelude.{◌≡◌, ℕ, ◌<◌, List, [], ◌∷◌, ◌++◌, codes, decimal, ◌⊎◌}
use Rattle.std.specs.List.{AllByRecursion}
use Rattle.line_syntax.specs.Syntax.{Line}
use Rattle.germ_law.specs.Germ.{IsCritical, line_limit}
use Rattle.line_germ.specs.Reads.{IsSyntaxAt, IsLiteralAt, IsLinearIn}
use Rattle.cert_text.specs.declared.report.Answer.{Answer}
use Rattle.cert_text.specs.declared.report.Answer.TheVariants as answers
use Rattle.cert_text.specs.declared.report.Report.{Report}
use Rattle.cert_text.specs.declared.report.Report.TheVariants as reports
use Rattle.cert_text.specs.Text.{report_text}
use Rattle.cert_text.specs.WellFormed.{IsWellFormed}
use Rattle.cert_text.specs.BadText.{IsBadText}
use Rattle.report_law.specs.declared.item.Item.{Item}
use Rattle.report_law.specs.declared.item.Item.TheVariants as items
use Rattle.report_law.specs.declared.verdict.Verdict.{Verdict}
use Rattle.report_law.specs.declared.verdict.Verdict.TheVariants as verdicts
use Rattle.report_law.specs.declared.verdict.Finding.{Finding}
use Rattle.report_law.specs.declared.verdict.Finding.TheVariants as findings
use Rattle.report_law.specs.Valid.{IsValid, NamedItem, OutsideItem, LimitItem, UnresolvedItem, named_items, outside_items, limit_items, unresolved_items}

unfoldable pub item_text : Item → List ℕ
item_text items.Refusal = codes "refusal"
item_text items.Germ = codes "germ"
item_text items.Shape = codes "shape"
item_text items.Inverse = codes "inverse"
item_text items.Carry = codes "carry"
item_text items.Form = codes "form"
item_text items.Units = codes "units"
item_text items.Modulus = codes "modulus"
item_text items.Mather = codes "mather"
item_text items.Milnor = codes "milnor"
item_text items.Functional = codes "functional"
item_text items.Pattern = codes "pattern"

unfoldable pub verdict_text : Verdict → List ℕ
verdict_text verdicts.Valid = codes "valid"
verdict_text verdicts.Unchecked = codes "unchecked"
verdict_text (verdicts.Invalid item) = codes "invalid " ++ item_text item
verdict_text (verdicts.Range item) = codes "range " ++ item_text item

unfoldable pub finding_text : Finding → List ℕ
finding_text (findings.Report verdict) = verdict_text verdict
finding_text (findings.BadText offset) = codes "invalid text " ++ decimal offset

-- the answer has no items
abbrev pub IsUncheckedAnswer : Answer → Type 0
IsUncheckedAnswer (answers.Range phase) = Unit {0}
IsUncheckedAnswer answers.Unbuilt = Unit {0}
IsUncheckedAnswer (answers.Syntax column what) = ⊥
IsUncheckedAnswer (answers.Literal column) = ⊥
IsUncheckedAnswer (answers.NotCritical variable) = ⊥
IsUncheckedAnswer (answers.Named r) = ⊥
IsUncheckedAnswer (answers.Outside r) = ⊥
IsUncheckedAnswer (answers.Limit r) = ⊥
IsUncheckedAnswer (answers.Unresolved r) = ⊥

abbrev pub IsUnchecked : Report → Type 0
IsUnchecked (reports.Long size) = ⊥
IsUnchecked (reports.Line bytes answer) = IsUncheckedAnswer answer

-- the item stands in the list, and those before it are true
abbrev pub IsReached : (Item → Type 0) → List Item → Item → Type 0
IsReached Holds list item = (before after : List Item) × (list ≡ before ++ item ∷ after) × AllByRecursion Holds before

-- the same, and the item is false
abbrev pub IsFirstFalse : (Item → Type 0) → List Item → Item → Type 0
IsFirstFalse Holds list item = IsReached Holds list item × (Holds item → ⊥)

-- of a certificate: where the bytes spell no critical line, the item of the germ is the first false one
abbrev pub IsFirstFalseOf : List ℕ → (Line → Item → Type 0) → List Item → Item → Type 0
IsFirstFalseOf bytes Holds list item =
    ((item ≡ items.Germ) × ((l : Line) → IsCritical bytes l → ⊥))
    ⊎ ((l : Line) × IsCritical bytes l × IsFirstFalse (Holds l) list item)

-- a refusal has the one item, which is false
abbrev pub IsFalseRefusal : Type 0 → Item → Type 0
IsFalseRefusal Holds item = (item ≡ items.Refusal) × (Holds → ⊥)

abbrev pub IsInvalidAnswer : List ℕ → Answer → Item → Type 0
IsInvalidAnswer bytes (answers.Syntax column what) item = IsFalseRefusal (IsSyntaxAt bytes column what) item
IsInvalidAnswer bytes (answers.Literal column) item = IsFalseRefusal (IsLiteralAt bytes column) item
IsInvalidAnswer bytes (answers.NotCritical variable) item = IsFalseRefusal (IsLinearIn bytes variable) item
IsInvalidAnswer bytes (answers.Range phase) item = ⊥
IsInvalidAnswer bytes answers.Unbuilt item = ⊥
IsInvalidAnswer bytes (answers.Named r) item = IsFirstFalseOf bytes (λ l. NamedItem bytes l r) named_items item
IsInvalidAnswer bytes (answers.Outside r) item = IsFirstFalseOf bytes (λ l. OutsideItem bytes l r) outside_items item
IsInvalidAnswer bytes (answers.Limit r) item = IsFirstFalseOf bytes (λ l. LimitItem bytes l r) limit_items item
IsInvalidAnswer bytes (answers.Unresolved r) item = IsFirstFalseOf bytes (λ l. UnresolvedItem bytes l r) unresolved_items item

-- the item is the first false one of the report
abbrev pub IsInvalid : Report → Item → Type 0
IsInvalid (reports.Long size) item = IsFalseRefusal (line_limit < size) item
IsInvalid (reports.Line bytes answer) item = IsInvalidAnswer bytes answer item

-- of a certificate: the item of the germ, or one of a critical line whose items before it are true
abbrev pub IsReachedOf : List ℕ → (Line → Item → Type 0) → List Item → Item → Type 0
IsReachedOf bytes Holds list item = (item ≡ items.Germ) ⊎ ((l : Line) × IsCritical bytes l × IsReached (Holds l) list item)

abbrev pub IsReachedIn : Report → Item → Type 0
IsReachedIn (reports.Long size) item = ⊥
IsReachedIn (reports.Line bytes (answers.Syntax column what)) item = item ≡ items.Refusal
IsReachedIn (reports.Line bytes (answers.Literal column)) item = item ≡ items.Refusal
IsReachedIn (reports.Line bytes (answers.NotCritical variable)) item = item ≡ items.Refusal
IsReachedIn (reports.Line bytes (answers.Range phase)) item = ⊥
IsReachedIn (reports.Line bytes answers.Unbuilt) item = ⊥
IsReachedIn (reports.Line bytes (answers.Named r)) item = IsReachedOf bytes (λ l. NamedItem bytes l r) named_items item
IsReachedIn (reports.Line bytes (answers.Outside r)) item = IsReachedOf bytes (λ l. OutsideItem bytes l r) outside_items item
IsReachedIn (reports.Line bytes (answers.Limit r)) item = IsReachedOf bytes (λ l. LimitItem bytes l r) limit_items item
IsReachedIn (reports.Line bytes (answers.Unresolved r)) item = IsReachedOf bytes (λ l. UnresolvedItem bytes l r) unresolved_items item

-- ---- verdicts

-- the chunk is the text of this well-formed report
pub record IsTextOf (chunk : List ℕ) (r : Report) : Type 0 where
  pub well_formed : IsWellFormed r
  pub text : chunk ≡ report_text r

-- the verdict on a report is true: it is valid, or has no items, or the item is its first false one, or the items before this one are true
-- and its numbers are too high; `IsHigh` says of which items they are
abbrev pub IsVerdictOn : (Report → Item → Type 0) → Report → Verdict → Type 0
IsVerdictOn IsHigh r verdicts.Valid = IsValid r
IsVerdictOn IsHigh r verdicts.Unchecked = IsUnchecked r
IsVerdictOn IsHigh r (verdicts.Invalid item) = IsInvalid r item
IsVerdictOn IsHigh r (verdicts.Range item) = IsReachedIn r item × IsHigh r item

-- the finding on a chunk is true: a verdict on the report whose text it is, or how far it is like a report where it is none
abbrev pub IsVerdict : (Report → Item → Type 0) → List ℕ → Finding → Type 0
IsVerdict IsHigh chunk (findings.Report verdict) = (r : Report) × IsTextOf chunk r × IsVerdictOn IsHigh r verdict
IsVerdict IsHigh chunk (findings.BadText offset) = IsBadText chunk offset
