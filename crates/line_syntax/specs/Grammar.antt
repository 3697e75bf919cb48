-- Which lines of bytes are in the grammar, what they spell, and where the others are refused.
use Rattle.std.specs.Prelude.{◌≡◌, ℕ, ◌<◌, ◌≤◌, Bool, true, IsTrue, ◌||◌, List, [], ◌∷◌, ◌++◌, length, take, nat_le, ◌==◌}
use Rattle.std.specs.List.{list_all}
use Rattle.line_syntax.specs.Syntax.{Line, IsLine, Token, name, number, symbol, tokens_of, token_text, number_of}

-- a space or a tab
abbrev pub is_blank : ℕ → Bool
is_blank c = (c == 32) || (c == 9)

-- the tokens in order, with any spaces and tabs before, between and after them
abbrev pub IsSpaced : List Token → List ℕ → Type 0
IsSpaced [] bytes = IsTrue (list_all is_blank bytes)
IsSpaced (t ∷ ts) bytes = (blanks rest : List ℕ) × IsTrue (list_all is_blank blanks) × (bytes ≡ blanks ++ token_text t ++ rest) × IsSpaced ts rest

-- the bytes are a spelling of the line
pub record Spells (bytes : List ℕ) (l : Line) : Type 0 where
  pub is_line : IsLine l
  pub spaced : IsSpaced (tokens_of l) bytes

-- the bytes are a spelling of some line of the grammar
abbrev pub InGrammar : List ℕ → Type 0
InGrammar bytes = (l : Line) × Spells bytes l

-- some spelling of a line of the grammar begins with these bytes
abbrev pub IsViable : List ℕ → Type 0
IsViable front = (more : List ℕ) × InGrammar (front ++ more)

-- the bytes are no spelling of a line, and the first n of them are their longest front that some spelling of a line begins
-- with
pub record IsSyntaxError (bytes : List ℕ) (n : ℕ) : Type 0 where
  pub within : n ≤ length bytes
  pub outside : InGrammar bytes → ⊥
  pub viable : IsViable (take n bytes)
  pub longest : (k : ℕ) → n < k → k ≤ length bytes → IsViable (take k bytes) → ⊥

-- the largest number that a line may hold
abbrev pub literal_limit : ℕ
literal_limit = 999999999999999999

-- the token is no number above the limit
abbrev pub is_small_token : Token → Bool
is_small_token (name x) = true
is_small_token (number d) = nat_le (number_of d) literal_limit
is_small_token (symbol c) = true

-- no number of the line is above the limit
abbrev pub has_small_literals : Line → Bool
has_small_literals l = list_all is_small_token (tokens_of l)

-- the bytes spell this line, and after n of them the first of its numbers that is too large begins
pub record IsLiteralError (bytes : List ℕ) (n : ℕ) : Type 0 where
  pub line : Line
  pub is_line : IsLine line
  pub before : List Token
  pub after : List Token
  pub digits : List ℕ
  pub front : List ℕ
  pub rest : List ℕ
  pub tokens : tokens_of line ≡ before ++ number digits ∷ after
  pub small : IsTrue (list_all is_small_token before)
  pub large : literal_limit < number_of digits
  pub bytes_are : bytes ≡ front ++ digits ++ rest
  pub front_spaced : IsSpaced before front
  pub rest_spaced : IsSpaced after rest
  pub place : n ≡ length front
