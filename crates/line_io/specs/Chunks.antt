-- The chunks of an input: each ends with a line `end`, but for the last one.
use Rattle.line_io.specs.Lines.{ends_with, line_of, pieces_of}
use Rattle.std.specs.List.{list_any}
use Rattle.std.specs.Prelude.{ℕ, Bool, ◌&&◌, List, [], ◌∷◌, ◌++◌, codes, filter, if◌then◌else◌}
use Rattle.std.specs.Str.{bytes_eq}

-- the line `end` with its newline
unfoldable pub is_end : List ℕ → Bool
is_end piece = ends_with 10 piece && bytes_eq (line_of piece) (codes "end")

-- bytes before the first chunk
abbrev pub onto_first : List ℕ → List (List ℕ) → List (List ℕ)
onto_first piece [] = piece ∷ []
onto_first piece (chunk ∷ chunks) = (piece ++ chunk) ∷ chunks

-- the pieces joined into chunks, each up to and with a line `end`; the last one may have none
abbrev pub joined : List (List ℕ) → List (List ℕ)
joined [] = []
joined (piece ∷ pieces) = if is_end piece then piece ∷ joined pieces else onto_first piece (joined pieces)

-- the chunks of an input, in order
unfoldable pub chunks_of : List ℕ → List (List ℕ)
chunks_of input = joined (pieces_of input)

-- a line `end` with its newline is among the bytes
unfoldable pub has_end : List ℕ → Bool
has_end bytes = list_any is_end (pieces_of bytes)

-- the chunks whose line `end` and its newline are among the bytes, in order
abbrev pub ended_chunks : List ℕ → List (List ℕ)
ended_chunks bytes = filter has_end (chunks_of bytes)
