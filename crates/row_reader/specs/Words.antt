-- What is still to be read of a line: words with a space before each.
use Rattle.std.specs.Prelude.{◌≡◌, ℕ, zero, suc, Option, Some, None, List, [], ◌∷◌}
use Rattle.std.specs.Borrow.{Bor}
use Rattle.cert_law.specs.Unique.{Starts}

-- the words with a space before each; the space before the first is not in the bytes
abbrev pub after_space : Option (Bor (List ℕ)) → List ℕ
after_space None = []
after_space (Some text) = 32 ∷ text.now

-- nothing, or a space at the front
abbrev pub IsRest : List ℕ → Type 0
IsRest y = Starts (λ b. b ≡ 32) y

-- what stands before the multiplier of this number: a space, or a semicolon between spaces
abbrev pub lead : ℕ → List ℕ
lead zero = 32 ∷ []
lead (suc i) = 32 ∷ 59 ∷ 32 ∷ []
