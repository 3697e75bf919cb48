-- When a report is valid: all its items are true, in their order.
use Rattle.std.specs.Prelude.{◌≡◌, ℕ, ◌≤◌, ◌<◌, List, [], ◌∷◌}
use Rattle.std.specs.List.{AllByRecursion}
use Rattle.line_syntax.specs.Syntax.{Line}
use Rattle.germ_law.specs.Germ.{IsCritical, line_limit}
use Rattle.normal_forms.specs.Patterns.{order_of}
use Rattle.line_germ.specs.Reads.{IsSyntaxAt, IsLiteralAt, IsLinearIn}
use Rattle.cert_text.specs.declared.report.Named as named_type
use Rattle.cert_text.specs.declared.report.Outside as outside_type
use Rattle.cert_text.specs.declared.report.Limit as limit_type
use Rattle.cert_text.specs.declared.report.Unresolved as unresolved_type
use Rattle.cert_text.specs.declared.report.Answer.{Answer}
use Rattle.cert_text.specs.declared.report.Answer.TheVariants as answers
use Rattle.cert_text.specs.declared.report.Report.{Report}
use Rattle.cert_text.specs.declared.report.Report.TheVariants as reports
use Rattle.report_law.specs.declared.item.Item.{Item}
use Rattle.report_law.specs.declared.item.Item.TheVariants as items
use Rattle.report_law.specs.Items.{IsShape, IsInvertibleChange, IsCarriedTo, IsForm, AreUnits, IsModulusOf, AreMatherRows, IsMilnorTable, IsInPattern, IsLimitFunctional, IsDetermined}

-- the item is true of a named report of these bytes, where l is the line that they spell
abbrev pub NamedItem : List ℕ → Line → named_type.Named → Item → Type 0
NamedItem bytes l r items.Germ = IsCritical bytes l
NamedItem bytes l r items.Shape = IsShape l r.carried × (r.carried.corank ≤ 3)
NamedItem bytes l r items.Inverse = IsInvertibleChange r.carried
NamedItem bytes l r items.Carry = IsCarriedTo l r.carried
NamedItem bytes l r items.Form = IsForm r.family r.carried
NamedItem bytes l r items.Units = AreUnits r
NamedItem bytes l r items.Modulus = IsModulusOf r
NamedItem bytes l r items.Mather = AreMatherRows r.carried r.mather
NamedItem bytes l r items.Milnor = IsMilnorTable r
NamedItem bytes l r items.Refusal = ⊥
NamedItem bytes l r items.Functional = ⊥
NamedItem bytes l r items.Pattern = ⊥

-- the items of a named report, in order
abbrev pub named_items : List Item
named_items = items.Germ ∷ items.Shape ∷ items.Inverse ∷ items.Carry ∷ items.Form ∷ items.Units ∷ items.Modulus ∷ items.Mather ∷ items.Milnor ∷ []

-- the item is true of an outside report
abbrev pub OutsideItem : List ℕ → Line → outside_type.Outside → Item → Type 0
OutsideItem bytes l r items.Germ = IsCritical bytes l
OutsideItem bytes l r items.Shape = IsShape l r.carried × (r.carried.order ≡ order_of r.pattern)
OutsideItem bytes l r items.Inverse = IsInvertibleChange r.carried
OutsideItem bytes l r items.Carry = IsCarriedTo l r.carried
OutsideItem bytes l r items.Pattern = IsInPattern r.pattern r.carried
OutsideItem bytes l r items.Refusal = ⊥
OutsideItem bytes l r items.Form = ⊥
OutsideItem bytes l r items.Units = ⊥
OutsideItem bytes l r items.Modulus = ⊥
OutsideItem bytes l r items.Mather = ⊥
OutsideItem bytes l r items.Milnor = ⊥
OutsideItem bytes l r items.Functional = ⊥

abbrev pub outside_items : List Item
outside_items = items.Germ ∷ items.Shape ∷ items.Inverse ∷ items.Carry ∷ items.Pattern ∷ []

-- the item is true of a limit report
abbrev pub LimitItem : List ℕ → Line → limit_type.Limit → Item → Type 0
LimitItem bytes l r items.Germ = IsCritical bytes l
LimitItem bytes l r items.Shape = IsShape l r.carried × (r.carried.corank ≤ 3) × (3 ≤ r.carried.order)
LimitItem bytes l r items.Inverse = IsInvertibleChange r.carried
LimitItem bytes l r items.Carry = IsCarriedTo l r.carried
LimitItem bytes l r items.Functional = IsLimitFunctional r
LimitItem bytes l r items.Refusal = ⊥
LimitItem bytes l r items.Form = ⊥
LimitItem bytes l r items.Units = ⊥
LimitItem bytes l r items.Modulus = ⊥
LimitItem bytes l r items.Mather = ⊥
LimitItem bytes l r items.Milnor = ⊥
LimitItem bytes l r items.Pattern = ⊥

abbrev pub limit_items : List Item
limit_items = items.Germ ∷ items.Shape ∷ items.Inverse ∷ items.Carry ∷ items.Functional ∷ []

-- the item is true of an unresolved report
abbrev pub UnresolvedItem : List ℕ → Line → unresolved_type.Unresolved → Item → Type 0
UnresolvedItem bytes l r items.Germ = IsCritical bytes l
UnresolvedItem bytes l r items.Shape = IsShape l r.carried × (r.carried.corank ≤ 3)
UnresolvedItem bytes l r items.Inverse = IsInvertibleChange r.carried
UnresolvedItem bytes l r items.Carry = IsCarriedTo l r.carried
UnresolvedItem bytes l r items.Mather = IsDetermined r
UnresolvedItem bytes l r items.Refusal = ⊥
UnresolvedItem bytes l r items.Form = ⊥
UnresolvedItem bytes l r items.Units = ⊥
UnresolvedItem bytes l r items.Modulus = ⊥
UnresolvedItem bytes l r items.Milnor = ⊥
UnresolvedItem bytes l r items.Functional = ⊥
UnresolvedItem bytes l r items.Pattern = ⊥

abbrev pub unresolved_items : List Item
unresolved_items = items.Germ ∷ items.Shape ∷ items.Inverse ∷ items.Carry ∷ items.Mather ∷ []

-- all items are true of the answer to the line with these bytes; range and unbuilt answers have no items and are not valid
abbrev pub IsValidAnswer : List ℕ → Answer → Type 0
IsValidAnswer bytes (answers.Syntax column what) = IsSyntaxAt bytes column what
IsValidAnswer bytes (answers.Literal column) = IsLiteralAt bytes column
IsValidAnswer bytes (answers.NotCritical variable) = IsLinearIn bytes variable
IsValidAnswer bytes (answers.Range phase) = ⊥
IsValidAnswer bytes answers.Unbuilt = ⊥
IsValidAnswer bytes (answers.Named r) = (l : Line) × AllByRecursion (NamedItem bytes l r) named_items
IsValidAnswer bytes (answers.Outside r) = (l : Line) × AllByRecursion (OutsideItem bytes l r) outside_items
IsValidAnswer bytes (answers.Limit r) = (l : Line) × AllByRecursion (LimitItem bytes l r) limit_items
IsValidAnswer bytes (answers.Unresolved r) = (l : Line) × AllByRecursion (UnresolvedItem bytes l r) unresolved_items

-- the report is valid; this speaks of well-formed reports, where each monomial of a jet comes once and no coefficient is 0
abbrev pub IsValid : Report → Type 0
IsValid (reports.Long size) = line_limit < size
IsValid (reports.Line bytes answer) = IsValidAnswer bytes answer
