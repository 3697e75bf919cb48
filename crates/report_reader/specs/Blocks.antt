-- Blocks of lines: what begins one, and where bytes leave off being like one.
use Rattle.std.specs.Prelude.{◌≡◌, ℕ, ◌<◌, List, ◌++◌, length}
use Rattle.std.specs.Borrow.{Bor}
use Rattle.cert_text.specs.BadText.{IsWholeLines}
use Rattle.report_reader.specs.declared.halt.Halt.{Halt}
use Rattle.report_reader.specs.declared.halt.Halt.TheVariants as halts

-- the text of some valid value begins so
abbrev pub Begins : {A : Type 0} → (A → Type 0) → (A → List ℕ) → List ℕ → Type 0
Begins {A} valid text front = (v : A) × valid v × ((more : List ℕ) × (text v ≡ front ++ more))

-- No text of a valid value stands at the front of the bytes. What is seen are the most whole lines of the bytes that begin such a text, and so many bytes are left.
pub record IsStop {A : Type 0} (valid : A → Type 0) (text : A → List ℕ) (bytes : List ℕ) (left : ℕ) : Type 0 where
  pub seen : List ℕ
  pub rest : List ℕ
  pub parted : bytes ≡ seen ++ rest
  pub long : length rest ≡ left
  pub lines : IsWholeLines seen
  pub begins : Begins valid text seen
  pub none : (v : A) (more : List ℕ) → valid v → text v ++ more ≡ bytes → ⊥
  pub longest : (v : A) (front more next : List ℕ) → valid v → IsWholeLines front → bytes ≡ front ++ more → text v ≡ front ++ next → length seen < length front → ⊥

-- a stop, or no memory
abbrev pub IsHalt : {A : Type 0} → (A → Type 0) → (A → List ℕ) → List ℕ → Halt → Type 0
IsHalt valid text bytes (halts.Stop left) = IsStop valid text bytes left
IsHalt valid text bytes halts.NoMemory = Unit {0}

-- a valid value whose text stands at the front of the bytes, and the rest of them
abbrev pub IsAtFront : {A : Type 0} → (A → Type 0) → (A → List ℕ) → List ℕ → A × Bor (List ℕ) → Type 0
IsAtFront valid text bytes p = valid p.0 × (text p.0 ++ p.1.now ≡ bytes)

-- no text of a valid value stands at the front of the bytes
abbrev pub IsNotAtFront : {A : Type 0} → (A → Type 0) → (A → List ℕ) → List ℕ → Type 0
IsNotAtFront {A} valid text bytes = (v : A) (more : List ℕ) → valid v → text v ++ more ≡ bytes → ⊥
