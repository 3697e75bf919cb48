-- The names of variables as the code keeps them.
use Rattle.std.specs.Prelude.{◌-◌, ◌≤◌, ◌++◌, length, replicate}
use Rattle.line_syntax.specs.Syntax.{Word}
use Rattle.poly_text.specs.declared.name.Name.{Name}

-- a word of at most four bytes: its bytes, zeros behind them, and its length
abbrev pub name_of : Word → Name
name_of w = record { bytes = w ++ replicate (4 - length w) 0; len = length w }

-- a word of at most four bytes
abbrev pub IsShort : Word → Type 0
IsShort w = length w ≤ 4
