-- What the test of a list of items finds: all hold, the first that does not, or one with numbers that are too high where those before it hold.
use Rattle.std.specs.Prelude.{◌≡◌, ℕ, ◌⊎◌, List, [], ◌∷◌}
use Rattle.std.specs.List.{AllByRecursion}
use Rattle.line_syntax.specs.Syntax.{Line}
use Rattle.germ_law.specs.Germ.{IsCritical}
use Rattle.report_law.specs.declared.item.Item.{Item}
use Rattle.report_law.specs.declared.item.Item.TheVariants as items
use Rattle.cert_check.specs.declared.found.Found.{Found}
use Rattle.cert_check.specs.declared.found.Found.TheVariants as found

-- the item stands in the list and does not hold, and those before it hold
abbrev pub IsFirstFalseIn : (Item → Type 0) → List Item → Item → Type 0
IsFirstFalseIn Holds [] item = ⊥
IsFirstFalseIn Holds (i ∷ is) item = ((item ≡ i) × (Holds i → ⊥)) ⊎ (Holds i × IsFirstFalseIn Holds is item)

-- the item stands in the list and is high, and those before it hold
abbrev pub IsHighIn : (Item → Type 0) → (Item → Type 0) → List Item → Item → Type 0
IsHighIn Holds High [] item = ⊥
IsHighIn Holds High (i ∷ is) item = ((item ≡ i) × High i) ⊎ (Holds i × IsHighIn Holds High is item)

-- what is found of the list
abbrev pub IsFound : (Item → Type 0) → (Item → Type 0) → List Item → Found → Type 0
IsFound Holds High list found.Passed = AllByRecursion Holds list
IsFound Holds High list (found.Fails item) = IsFirstFalseIn Holds list item
IsFound Holds High list (found.High item) = IsHighIn Holds High list item

-- what is found of the germ of the line and of the items in the list after it, by the line that the bytes spell
abbrev pub IsLineFound : List ℕ → (Line → Item → Type 0) → (Item → Type 0) → List Item → Found → Type 0
IsLineFound bytes Holds High list found.Passed = (l : Line) × IsCritical bytes l × AllByRecursion (Holds l) list
IsLineFound bytes Holds High list (found.Fails item) =
    ((item ≡ items.Germ) × ((l : Line) → IsCritical bytes l → ⊥))
    ⊎ ((l : Line) × IsCritical bytes l × IsFirstFalseIn (Holds l) list item)
IsLineFound bytes Holds High list (found.High item) =
    ((item ≡ items.Germ) × High items.Germ)
    ⊎ ((l : Line) × IsCritical bytes l × IsHighIn (Holds l) High list item)
