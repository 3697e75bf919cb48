-- Texts that can be read in one way.
use Rattle.std.specs.Prelude.{◌≡◌, ℕ, List, [], ◌∷◌, ◌++◌}

-- nothing, or a byte of this kind at the front
abbrev pub Starts : (ℕ → Type 0) → List ℕ → Type 0
Starts kind [] = Unit {0}
Starts kind (b ∷ bs) = kind b

-- Each value has its own text, and what stands behind it is told from it, where that starts with a byte of this kind.
pub record IsReadUpTo {A : Type 0} (kind : ℕ → Type 0) (Ok : A → Type 0) (text : A → List ℕ) : Type 0 where
  pub one : (a b : A) (x y : List ℕ) → Ok a → Ok b → Starts kind x → Starts kind y → text a ++ x ≡ text b ++ y → (a ≡ b) × (x ≡ y)

-- the same, whatever stands behind it: no text of a value begins another's
pub record IsSelfEnding {A : Type 0} (Ok : A → Type 0) (text : A → List ℕ) : Type 0 where
  pub one : (a b : A) (x y : List ℕ) → Ok a → Ok b → text a ++ x ≡ text b ++ y → (a ≡ b) × (x ≡ y)
