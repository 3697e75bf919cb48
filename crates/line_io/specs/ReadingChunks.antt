-- Chunks that are read one after another.
use Rattle.line_io.specs.Chunks.{chunks_of, has_end}
use Rattle.line_io.specs.declared.chunk.Chunk.TheVariants as chunks
use Rattle.line_io.specs.declared.chunk.Chunk.{Chunk}
use Rattle.line_io.specs.declared.lines.Lines.{Lines}
use Rattle.std.specs.Io.KnownBytes.{Consumes}
use Rattle.std.specs.Prelude.{◌≡◌, ◌⊎◌, ℕ, ◌+◌, ◌<◌, ◌≤◌, Bool, true, false, List, [], ◌∷◌, ◌++◌, length}
use Rattle.std.specs.declared.option.Option.{Option}

-- memory ran out in a call of `next_chunk`
abbrev pub is_out_of_memory : Lines → Bool
is_out_of_memory lines = lines.out_of_memory

-- a fact of the bytes of a chunk that is answered
abbrev pub IfBytes : Chunk → (List ℕ → Type 0) → Type 0
IfBytes (chunks.Bytes bytes) P = P bytes.items
IfBytes chunks.End P = Unit {0}
IfBytes chunks.ReadFault P = Unit {0}
IfBytes chunks.InputLimit P = Unit {0}

-- The chunk goes from the bytes held and read, and is the first chunk of them, whatever follows: up to and with a line `end`, or at the
-- end of the input all that is left. At the end of the input nothing more is read.
pub record GivesChunk (before after : Lines) (old new : Option (List ℕ)) (chunk : List ℕ) : Type 0 where
  pub more : List ℕ
  pub read : Consumes old new more
  pub parts : before.buffer ++ more ≡ chunk ++ after.buffer
  pub first : (rest : List ℕ) → (after.ended ≡ true → rest ≡ after.buffer) → chunks_of (chunk ++ rest) ≡ chunk ∷ chunks_of rest
  pub whole : (has_end chunk ≡ true) ⊎ ((after.ended ≡ true) × (after.buffer ≡ []))
  pub counted : after.taken ≡ before.taken + length more
  pub no_more : before.ended ≡ true → (more ≡ []) × (after.ended ≡ true)

-- no line `end` is among the bytes held and read, and the end of the input was not come to before
pub record HasNoChunk (before : Lines) (old new : Option (List ℕ)) : Type 0 where
  pub more : List ℕ
  pub read : Consumes old new more
  pub unended : has_end (before.buffer ++ more) ≡ false
  pub going : before.ended ≡ false

-- the last read, of at most 65,536 bytes, passed 268,435,456; no line `end` is among the bytes held and those read before it
pub record PassesChunkLimit (before : Lines) (old new : Option (List ℕ)) : Type 0 where
  pub more : List ℕ
  pub last : List ℕ
  pub read : Consumes old new (more ++ last)
  pub unended : has_end (before.buffer ++ more) ≡ false
  pub going : before.ended ≡ false
  pub within : before.taken + length more ≤ 268435456
  pub past : 268435456 < before.taken + length more + length last
  pub few : length last ≤ 65536

-- a line `end` is among the bytes held, or the input was read to its end, or no more is read
abbrev pub IsChunkDecided : Lines → Type 0
IsChunkDecided before =
    ((before.ended ≡ true) ⊎ (has_end before.buffer ≡ true)) ⊎ ((before.faulted ≡ true) ⊎ (before.out_of_memory ≡ true) ⊎ (268435456 < before.taken))

-- These bytes were read in a call, the last of them, at most 65,536, by the last read: no line `end` is among the bytes held and those read
-- before it. The number of bytes taken grew by theirs.
pub record TakesAsNeeded (before after : Lines) (old new : Option (List ℕ)) : Type 0 where
  pub more : List ℕ
  pub last : List ℕ
  pub read : Consumes old new (more ++ last)
  pub counted : after.taken ≡ before.taken + length (more ++ last)
  pub few : length last ≤ 65536
  pub needed : (more ++ last ≡ []) ⊎ (has_end (before.buffer ++ more) ≡ false)
