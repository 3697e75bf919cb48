-- A line that is being read: its first bytes, the number of all its bytes, and the last one.
use Rattle.std.specs.List.{AllByRecursion}
use Rattle.std.specs.Prelude.{◌≡◌, ◌≢◌, ◌&&◌, not, ℕ, ◌+◌, ◌-◌, ◌<◌, ◌==◌, min, List, ◌++◌, length, take, slice_index, if◌then◌else◌}

-- the first bytes kept, the number of bytes, and the last byte
pub record LineSoFar : Type 0 where
  pub kept : List ℕ
  pub total : ℕ
  pub last : ℕ

-- no newline is among the bytes
abbrev pub IsUnbroken : List ℕ → Type 0
IsUnbroken bytes = AllByRecursion (λ b. b ≢ 10) bytes

-- these are all bytes of the line so far
pub record IsLineOf (bytes : List ℕ) (s : LineSoFar) : Type 0 where
  pub kept : s.kept ≡ take 65538 bytes
  pub number : s.total ≡ length bytes
  pub last : 0 < length bytes → s.last ≡ slice_index bytes (length bytes - 1)

-- a part was added to the line, and kept as far as there was room
pub record Pushes (old new : LineSoFar) (part : List ℕ) : Type 0 where
  pub kept : new.kept ≡ old.kept ++ take (min (length part) (65538 - length old.kept)) part
  pub number : new.total ≡ old.total + length part
  pub last : new.last ≡ (if length part == 0 then old.last else slice_index part (length part - 1))

-- the number of bytes of a line without one carriage return at its end
abbrev pub counted_length : ℕ → ℕ → ℕ
counted_length total last = if not (total == 0) && (last == 13) then total - 1 else total
