-- The base parts in three variables.
use Rattle.std.specs.Prelude.{Bool, true, false, IsTrue}
use Rattle.kill_law.specs.declared.part.Part.{Part}
use Rattle.kill_law.specs.declared.part.Part.TheVariants as parts

-- a base part in three variables: one whose form is a ternary cubic, the terms of degree 3 of the residual part of a jet
unfoldable pub is_base3 : Part → Bool
is_base3 parts.P8 = true
is_base3 parts.Q = true
is_base3 parts.S = true
is_base3 parts.U = true
is_base3 parts.T = true
is_base3 _ = false

abbrev pub IsBase3 : Part → Type 0
IsBase3 p = IsTrue (is_base3 p)
