-- Which items of a report have numbers that are too high.
use Rattle.std.specs.Prelude.{ℕ, List}
use Rattle.ring_law.specs.declared.fraction.Frac.{Frac}
use Rattle.jet_poly.specs.JetTerms.{JetTerms}
use Rattle.line_syntax.specs.Syntax.{Line}
use Rattle.germ_law.specs.Germ.{IsCritical}
use Rattle.line_jet_law.specs.LineJets.{rational_polynomial}
use Rattle.line_jet.specs.Reads.{IsGermOf}
use Rattle.cert_text.specs.declared.report.Answer.{Answer}
use Rattle.cert_text.specs.declared.report.Answer.TheVariants as answers
use Rattle.cert_text.specs.declared.report.Carried.{Carried}
use Rattle.cert_text.specs.declared.report.Named as named_type
use Rattle.cert_text.specs.declared.report.Outside as outside_type
use Rattle.cert_text.specs.declared.report.Limit as limit_type
use Rattle.cert_text.specs.declared.report.Unresolved as unresolved_type
use Rattle.cert_text.specs.declared.report.Report.{Report}
use Rattle.cert_text.specs.declared.report.Report.TheVariants as reports
use Rattle.report_law.specs.declared.item.Item.{Item}
use Rattle.report_law.specs.declared.item.Item.TheVariants as items
use Rattle.report_law.specs.Items.{variables_of}
use Rattle.report_law.specs.Right.{IsHighLine}
use Rattle.check_line.specs.Lines.{reading_limit, refusal_limit}
use Rattle.check_form.specs.FormHeights.{IsUnitsHigh, IsModulusHigh}
use Rattle.check_change.specs.Heights.{IsInverseHigh, IsCarryHigh}
use Rattle.check_rows.specs.ItemHeights.{IsMatherHigh, IsFunctionalHigh}
use Rattle.check_milnor.specs.Milnor.{IsMilnorHigh}

-- for the critical line that the bytes spell and its germ up to the limit of the report, the numbers of the item Carry are high
pub record IsGermCarryHigh (bytes : List ℕ) (c : Carried) : Type 0 where
  pub line : Line
  pub critical : IsCritical bytes line
  pub germ : JetTerms Frac
  pub is_germ : IsGermOf (reading_limit c.order) line germ
  pub high : IsCarryHigh c (rational_polynomial (variables_of c) germ)

-- of the germ, the inverse and the carried jet
abbrev pub IsCarriedHigh : List ℕ → Carried → Item → Type 0
IsCarriedHigh bytes c items.Germ = IsHighLine bytes (reading_limit c.order)
IsCarriedHigh bytes c items.Inverse = IsInverseHigh c
IsCarriedHigh bytes c items.Carry = IsGermCarryHigh bytes c
IsCarriedHigh bytes c items.Refusal = ⊥
IsCarriedHigh bytes c items.Shape = ⊥
IsCarriedHigh bytes c items.Form = ⊥
IsCarriedHigh bytes c items.Units = ⊥
IsCarriedHigh bytes c items.Modulus = ⊥
IsCarriedHigh bytes c items.Mather = ⊥
IsCarriedHigh bytes c items.Milnor = ⊥
IsCarriedHigh bytes c items.Functional = ⊥
IsCarriedHigh bytes c items.Pattern = ⊥

-- of the units, the modulus line, Mather's rows and the table of a name
abbrev pub IsNamedHigh : List ℕ → named_type.Named → Item → Type 0
IsNamedHigh bytes r items.Germ = IsCarriedHigh bytes r.carried items.Germ
IsNamedHigh bytes r items.Inverse = IsCarriedHigh bytes r.carried items.Inverse
IsNamedHigh bytes r items.Carry = IsCarriedHigh bytes r.carried items.Carry
IsNamedHigh bytes r items.Units = IsUnitsHigh r
IsNamedHigh bytes r items.Modulus = IsModulusHigh r
IsNamedHigh bytes r items.Mather = IsMatherHigh r.carried r.mather
IsNamedHigh bytes r items.Milnor = IsMilnorHigh r
IsNamedHigh bytes r items.Refusal = ⊥
IsNamedHigh bytes r items.Shape = ⊥
IsNamedHigh bytes r items.Form = ⊥
IsNamedHigh bytes r items.Functional = ⊥
IsNamedHigh bytes r items.Pattern = ⊥

abbrev pub IsOutsideHigh : List ℕ → outside_type.Outside → Item → Type 0
IsOutsideHigh bytes r item = IsCarriedHigh bytes r.carried item

-- of the functional
abbrev pub IsLimitHigh : List ℕ → limit_type.Limit → Item → Type 0
IsLimitHigh bytes r items.Germ = IsCarriedHigh bytes r.carried items.Germ
IsLimitHigh bytes r items.Inverse = IsCarriedHigh bytes r.carried items.Inverse
IsLimitHigh bytes r items.Carry = IsCarriedHigh bytes r.carried items.Carry
IsLimitHigh bytes r items.Functional = IsFunctionalHigh r
IsLimitHigh bytes r items.Refusal = ⊥
IsLimitHigh bytes r items.Shape = ⊥
IsLimitHigh bytes r items.Form = ⊥
IsLimitHigh bytes r items.Units = ⊥
IsLimitHigh bytes r items.Modulus = ⊥
IsLimitHigh bytes r items.Mather = ⊥
IsLimitHigh bytes r items.Milnor = ⊥
IsLimitHigh bytes r items.Pattern = ⊥

-- of Mather's rows
abbrev pub IsUnresolvedHigh : List ℕ → unresolved_type.Unresolved → Item → Type 0
IsUnresolvedHigh bytes r items.Germ = IsCarriedHigh bytes r.carried items.Germ
IsUnresolvedHigh bytes r items.Inverse = IsCarriedHigh bytes r.carried items.Inverse
IsUnresolvedHigh bytes r items.Carry = IsCarriedHigh bytes r.carried items.Carry
IsUnresolvedHigh bytes r items.Mather = IsMatherHigh r.carried r.mather
IsUnresolvedHigh bytes r items.Refusal = ⊥
IsUnresolvedHigh bytes r items.Shape = ⊥
IsUnresolvedHigh bytes r items.Form = ⊥
IsUnresolvedHigh bytes r items.Units = ⊥
IsUnresolvedHigh bytes r items.Modulus = ⊥
IsUnresolvedHigh bytes r items.Milnor = ⊥
IsUnresolvedHigh bytes r items.Functional = ⊥
IsUnresolvedHigh bytes r items.Pattern = ⊥

-- of a refusal: only the line of a `not-critical` one is calculated, and read up to order 3
abbrev pub IsRefusalHigh : List ℕ → Item → Type 0
IsRefusalHigh bytes items.Refusal = IsHighLine bytes refusal_limit
IsRefusalHigh bytes items.Germ = ⊥
IsRefusalHigh bytes items.Shape = ⊥
IsRefusalHigh bytes items.Inverse = ⊥
IsRefusalHigh bytes items.Carry = ⊥
IsRefusalHigh bytes items.Form = ⊥
IsRefusalHigh bytes items.Units = ⊥
IsRefusalHigh bytes items.Modulus = ⊥
IsRefusalHigh bytes items.Mather = ⊥
IsRefusalHigh bytes items.Milnor = ⊥
IsRefusalHigh bytes items.Functional = ⊥
IsRefusalHigh bytes items.Pattern = ⊥

-- of an answer to a line
abbrev pub IsAnswerHigh : List ℕ → Answer → Item → Type 0
IsAnswerHigh bytes (answers.Syntax column what) item = ⊥
IsAnswerHigh bytes (answers.Literal column) item = ⊥
IsAnswerHigh bytes (answers.NotCritical variable) item = IsRefusalHigh bytes item
IsAnswerHigh bytes (answers.Range phase) item = ⊥
IsAnswerHigh bytes answers.Unbuilt item = ⊥
IsAnswerHigh bytes (answers.Named r) item = IsNamedHigh bytes r item
IsAnswerHigh bytes (answers.Outside r) item = IsOutsideHigh bytes r item
IsAnswerHigh bytes (answers.Limit r) item = IsLimitHigh bytes r item
IsAnswerHigh bytes (answers.Unresolved r) item = IsUnresolvedHigh bytes r item

-- a number that the item's definition forms has height 2^120 or more
abbrev pub IsItemHigh : Report → Item → Type 0
IsItemHigh (reports.Long size) item = ⊥
IsItemHigh (reports.Line bytes answer) item = IsAnswerHigh bytes answer item
