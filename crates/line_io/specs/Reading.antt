-- Lines that are read one after another.
use Rattle.line_io.specs.LineSoFar.{IsUnbroken}
use Rattle.line_io.specs.Lines.{line_of}
use Rattle.line_io.specs.declared.lines.Lines.{Lines}
use Rattle.line_io.specs.declared.next.Next.TheVariants as nexts
use Rattle.line_io.specs.declared.next.Next.{Next}
use Rattle.std.specs.Io.KnownBytes.{Consumes}
use Rattle.std.specs.Prelude.{◌≡◌, ◌⊎◌, ℕ, ◌+◌, ◌<◌, ◌≤◌, Bool, true, false, List, [], ◌∷◌, ◌++◌, length}
use Rattle.std.specs.declared.option.Option.{Option}

-- the bytes that were read and not handed out yet
abbrev pub held_bytes : Lines → List ℕ
held_bytes lines = lines.buffer

-- the number of bytes that were read
abbrev pub taken_count : Lines → ℕ
taken_count lines = lines.taken

-- the line that was handed out last
abbrev pub current_line : Lines → List ℕ
current_line lines = lines.line.kept

-- the input was read to its end
abbrev pub has_ended : Lines → Bool
has_ended lines = lines.ended

-- a read has failed
abbrev pub has_failed : Lines → Bool
has_failed lines = lines.faulted

-- nothing was read yet
pub record IsFresh (lines : Lines) : Type 0 where
  pub nothing_held : lines.buffer ≡ []
  pub nothing_taken : lines.taken ≡ 0
  pub going : lines.ended ≡ false
  pub sound : lines.faulted ≡ false
  pub in_memory : lines.out_of_memory ≡ false

-- the line is handed out: itself up to 65,536 bytes, and its length above
abbrev pub IsHandedOut : List ℕ → List ℕ → Next → Type 0
IsHandedOut line kept nexts.Line = (kept ≡ line) × (length line ≤ 65536)
IsHandedOut line kept (nexts.Long n) = (n ≡ length line) × (65536 < n)
IsHandedOut line kept nexts.End = ⊥
IsHandedOut line kept nexts.ReadFault = ⊥
IsHandedOut line kept nexts.InputLimit = ⊥

-- the bytes up to a newline, or at the end of the input those that are left
abbrev pub IsPiece : List ℕ → Lines → Type 0
IsPiece piece after =
    (bytes : List ℕ) × IsUnbroken bytes × ((piece ≡ bytes ++ 10 ∷ []) ⊎ ((piece ≡ bytes) × (0 < length bytes) × (after.ended ≡ true) × (after.buffer ≡ [])))

-- these bytes are read in a call beside those held: the last read gives at most 65,536 of them, and no newline is among those held and read before it
pub record AreNeeded (held more : List ℕ) : Type 0 where
  pub earlier : List ℕ
  pub last : List ℕ
  pub parts : more ≡ earlier ++ last
  pub few : length last ≤ 65536
  pub unbroken : (more ≡ []) ⊎ IsUnbroken (held ++ earlier)

-- one piece goes from the bytes held and read, and its line is handed out; at the end of the input nothing more is read
pub record HandsOut (before after : Lines) (old new : Option (List ℕ)) (next : Next) : Type 0 where
  pub more : List ℕ
  pub piece : List ℕ
  pub read : Consumes old new more
  pub parts : before.buffer ++ more ≡ piece ++ after.buffer
  pub is_piece : IsPiece piece after
  pub line : IsHandedOut (line_of piece) after.line.kept next
  pub counted : after.taken ≡ before.taken + length more
  pub no_more : before.ended ≡ true → (more ≡ []) × (after.ended ≡ true)
  pub needed : AreNeeded before.buffer more

-- no line was decided by the bytes held and read, and the end of the input was not come to before
pub record HasNoLine (before : Lines) (old new : Option (List ℕ)) : Type 0 where
  pub more : List ℕ
  pub read : Consumes old new more
  pub unbroken : IsUnbroken (before.buffer ++ more)
  pub going : before.ended ≡ false

-- a line or the length of one is answered
abbrev pub is_handed_out : Next → Bool
is_handed_out nexts.Line = true
is_handed_out (nexts.Long n) = true
is_handed_out nexts.End = false
is_handed_out nexts.ReadFault = false
is_handed_out nexts.InputLimit = false

-- no byte is held, and none was left
pub record EndsAll (before after : Lines) (old new : Option (List ℕ)) : Type 0 where
  pub read : Consumes old new []
  pub nothing_held : before.buffer ≡ []
  pub nothing_left : after.buffer ≡ []
  pub ended : after.ended ≡ true

-- the last read, of at most 65,536 bytes, passed 16,777,216; no line was decided by the bytes held and those read before it
pub record PassesLimit (before : Lines) (old new : Option (List ℕ)) : Type 0 where
  pub more : List ℕ
  pub last : List ℕ
  pub read : Consumes old new (more ++ last)
  pub unbroken : IsUnbroken (before.buffer ++ more)
  pub going : before.ended ≡ false
  pub within : before.taken + length more ≤ 16777216
  pub past : 16777216 < before.taken + length more + length last
  pub few : length last ≤ 65536

-- the bytes held decide a line, or the input was read to its end, or no more is read
abbrev pub IsDecided : Lines → Type 0
IsDecided before =
    ((before.ended ≡ true) ⊎ (IsUnbroken before.buffer → ⊥)) ⊎ ((before.faulted ≡ true) ⊎ (16777216 < before.taken))

-- these bytes were read in a call, and the number of bytes taken grew by theirs
pub record Takes (before after : Lines) (old new : Option (List ℕ)) : Type 0 where
  pub more : List ℕ
  pub read : Consumes old new more
  pub counted : after.taken ≡ before.taken + length more
