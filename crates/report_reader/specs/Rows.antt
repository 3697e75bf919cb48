-- Rows, a line each.
use Rattle.std.specs.Prelude.{◌≡◌, ℕ, zero, suc, ◌≤◌, List, ◌++◌, length, decimal}
use Rattle.std.specs.List.{AllByRecursion, flat_map}
use Rattle.cert_text.specs.declared.word.Word.{Word}
use Rattle.cert_text.specs.Text.{word_line}

-- so many valid values
abbrev pub AreMany : {A : Type 0} → (A → Type 0) → ℕ → List A → Type 0
AreMany valid n xs = (length xs ≡ n) × AllByRecursion valid xs

-- at most so many valid values
abbrev pub AreAtMost : {A : Type 0} → (A → Type 0) → ℕ → List A → Type 0
AreAtMost valid most xs = (length xs ≤ most) × AllByRecursion valid xs

-- a line of the word and the count, and the lines of the values
abbrev pub counted_text : {A : Type 0} → Word → (A → List ℕ) → List A → List ℕ
counted_text word text xs = word_line word (decimal (length xs)) ++ flat_map text xs

-- the most rows of Mather's condition: none without residual variable
abbrev pub most_rows : ℕ → ℕ
most_rows zero = 0
most_rows (suc corank) = 1140
