-- A chunk that is being read: its whole lines, and the bytes of its last line.
use Rattle.std.specs.Prelude.{ℕ, List}

pub record ChunkSoFar : Type 0 where
  pub whole : List ℕ
  pub last : List ℕ
