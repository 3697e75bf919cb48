-- Chunks of short inputs, counted by hand.
use Rattle.line_io.specs.Chunks.{chunks_of, ended_chunks, has_end, is_end}
use Rattle.line_io.specs.Lines.{line_of, pieces_of}
use Rattle.std.proofs.Common.{◌≡◌, [], ◌∷◌, codes, refl}

-- a line that only begins or ends with `end` is no end of a chunk; a carriage return before the newline belongs to it
chunks_row : chunks_of (codes "germ a\nend\nend x\nxend\nend\r\nrest") ≡ codes "germ a\nend\n" ∷ codes "end x\nxend\nend\r\n" ∷ codes "rest" ∷ []
unfolding chunks_of is_end line_of pieces_of
chunks_row = refl

ended_row : ended_chunks (codes "end\nended\nend") ≡ codes "end\n" ∷ []
unfolding chunks_of has_end is_end line_of pieces_of
ended_row = refl
