-- The lines of an input, and those that are answered.
use Rattle.std.specs.Prelude.{ℕ, ◌-◌, Bool, true, not, ◌||◌, ◌&&◌, List, [], ◌∷◌, length, take, map, filter, slice_index, ◌==◌, nat_lt, if◌then◌else◌}

-- a byte before the first piece
abbrev pub with_front : ℕ → List (List ℕ) → List (List ℕ)
with_front b [] = (b ∷ []) ∷ []
with_front b (piece ∷ pieces) = (b ∷ piece) ∷ pieces

-- the bytes in pieces, each up to and with its newline; the last one may have none
unfoldable pub pieces_of : List ℕ → List (List ℕ)
pieces_of [] = []
pieces_of (b ∷ bs) = if b == 10 then (b ∷ []) ∷ pieces_of bs else with_front b (pieces_of bs)

-- this is the last of the bytes
abbrev pub ends_with : ℕ → List ℕ → Bool
ends_with last bytes = not (length bytes == 0) && (slice_index bytes (length bytes - 1) == last)

-- the bytes without this one at their end, if it is there
abbrev pub without_last : ℕ → List ℕ → List ℕ
without_last last bytes = if ends_with last bytes then take (length bytes - 1) bytes else bytes

-- the line of a piece: without its newline, and then without one carriage return at its end
unfoldable pub line_of : List ℕ → List ℕ
line_of piece = without_last 13 (without_last 10 piece)

-- nothing but spaces and tabs, or a # after them
unfoldable pub is_passed_over : List ℕ → Bool
is_passed_over [] = true
is_passed_over (b ∷ bs) = if b == 32 || b == 9 then is_passed_over bs else b == 35

-- longer than 65,536 bytes
abbrev pub is_long : List ℕ → Bool
is_long line = nat_lt 65536 (length line)

-- too long, or neither blank nor a comment
abbrev pub is_answered : List ℕ → Bool
is_answered line = is_long line || not (is_passed_over line)

-- the lines of these pieces that get a report, in order
abbrev pub answered_of : List (List ℕ) → List (List ℕ)
answered_of pieces = filter is_answered (map line_of pieces)

-- the lines of an input that get a report, in order
abbrev pub answered_lines : List ℕ → List (List ℕ)
answered_lines input = answered_of (pieces_of input)

-- the answered lines whose newline is among the bytes, in order
abbrev pub ended_lines : List ℕ → List (List ℕ)
ended_lines bytes = answered_of (filter (ends_with 10) (pieces_of bytes))
