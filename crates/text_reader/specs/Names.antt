-- A name made of its text.
use Rattle.std.specs.Prelude.{ℕ, List, [], ◌∷◌, ◌++◌, length, drop}
use Rattle.poly_text.specs.declared.name.Name.{Name}

-- the bytes of the text, and zeros behind them up to four bytes
abbrev pub padded : List ℕ → Name
padded text = record { bytes = text ++ drop (length text) (0 ∷ 0 ∷ 0 ∷ 0 ∷ []); len = length text }
