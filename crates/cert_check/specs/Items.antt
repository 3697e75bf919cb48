-- The items that all certificates have, and their order.
use Rattle.std.specs.Prelude.{Bool, IsTrue, List, [], ◌∷◌, ◌++◌}
use Rattle.line_syntax.specs.Syntax.{Line}
use Rattle.cert_text.specs.declared.report.Carried.{Carried}
use Rattle.report_law.specs.declared.item.Item.{Item}
use Rattle.report_law.specs.declared.item.Item.TheVariants as items
use Rattle.report_law.specs.Items.{IsShape, IsInvertibleChange, IsCarriedTo}

-- the item is true of the carried germ of the line l; `fits` says that its sizes fit the kind of answer
abbrev pub CarriedItem : Line → Carried → Bool → Item → Type 0
CarriedItem l c fits items.Shape = IsShape l c × IsTrue fits
CarriedItem l c fits items.Inverse = IsInvertibleChange c
CarriedItem l c fits items.Carry = IsCarriedTo l c
CarriedItem l c fits items.Refusal = ⊥
CarriedItem l c fits items.Germ = ⊥
CarriedItem l c fits items.Form = ⊥
CarriedItem l c fits items.Units = ⊥
CarriedItem l c fits items.Modulus = ⊥
CarriedItem l c fits items.Mather = ⊥
CarriedItem l c fits items.Milnor = ⊥
CarriedItem l c fits items.Functional = ⊥
CarriedItem l c fits items.Pattern = ⊥

-- they come after the germ, in this order
abbrev pub carried_items : List Item
carried_items = items.Shape ∷ items.Inverse ∷ items.Carry ∷ []

-- the items of a name after them
abbrev pub units_on : List Item
units_on = items.Units ∷ items.Modulus ∷ items.Mather ∷ items.Milnor ∷ []

abbrev pub evidence_items : List Item
evidence_items = items.Form ∷ units_on

-- the items of each kind of certificate after the germ
abbrev pub named_on : List Item
named_on = carried_items ++ evidence_items

abbrev pub outside_on : List Item
outside_on = carried_items ++ items.Pattern ∷ []

abbrev pub limit_on : List Item
limit_on = carried_items ++ items.Functional ∷ []

abbrev pub unresolved_on : List Item
unresolved_on = carried_items ++ items.Mather ∷ []
