-- What a reader of texts finds.
use Rattle.std.specs.Prelude.{◌≡◌, ℕ, List}

-- v is valid, and the bytes are its text
abbrev pub IsTextOf : {A : Type 0} → (A → Type 0) → (A → List ℕ) → List ℕ → A → Type 0
IsTextOf valid text bytes v = valid v × (text v ≡ bytes)

-- the bytes are the text of no valid value
abbrev pub IsNoText : {A : Type 0} → (A → Type 0) → (A → List ℕ) → List ℕ → Type 0
IsNoText {A} valid text bytes = (v : A) → valid v → text v ≡ bytes → ⊥

-- every value is valid
abbrev pub IsAny : {A : Type 0} → A → Type 0
IsAny v = Unit {0}
