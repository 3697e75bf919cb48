-- The tokens of bytes, each as long as possible, and what they say to a calculation.
use Rattle.std.specs.Prelude.{◌≡◌, ◌<◌, ℕ, Bool, true, false, ◌||◌, List, [], ◌∷◌, ◌++◌, map, length, if◌then◌else◌, Result, Ok, Err}
use Rattle.std.specs.List.{list_all, position_or_len}
use Rattle.std.specs.Str.{bytes_eq}
use Rattle.line_syntax.specs.Syntax.{Word, Token, name, number, symbol, is_digit, is_letter, number_of}
use Rattle.line_syntax.specs.Grammar.{is_blank, IsSpaced, literal_limit, is_small_token}
use Rattle.line_reader.specs.declared.step.Step.{Step}
use Rattle.line_reader.specs.declared.step.Step.TheVariants.{Variable, Number, Symbol}
use Rattle.line_reader.specs.Reading.{word_token, goes_on}

-- the token that a word is; none where it is empty
abbrev pub word_tokens : Word → List Token
word_tokens [] = []
word_tokens (c ∷ w) = word_token c w ∷ []

-- the tokens of bytes that follow the word w
abbrev pub lexed : Word → List ℕ → List Token
lexed w [] = word_tokens w
lexed w (c ∷ cs) =
    if goes_on w c then lexed (w ++ c ∷ []) cs else
    (word_tokens w ++ (if is_blank c then lexed [] cs else (if is_digit c || is_letter c then lexed (c ∷ []) cs else symbol c ∷ lexed [] cs)))

-- a name by its place among the names, a number by its value
abbrev pub step_of : List Word → Token → Step
step_of names (name x) = Variable (position_or_len (bytes_eq x) names)
step_of names (number d) = Number (number_of d)
step_of names (symbol c) = Symbol c

-- the tokens that end with the byte c after the word w, and the word from then on
abbrev pub lex_byte : Word → ℕ → List Token × Word
lex_byte w c =
    if goes_on w c then ([], w ++ c ∷ []) else
    (if is_blank c then (word_tokens w, []) else
    (if is_digit c || is_letter c then (word_tokens w, c ∷ []) else (word_tokens w ++ symbol c ∷ [], [])))

-- the word was put down as a step; or it is a number above the limit
abbrev pub Ends : Bool → List Word → Word → List Step → List Step → Type 0
Ends true names w old new = (list_all is_small_token (word_tokens w) ≡ true) × (new ≡ old ++ map (step_of names) (word_tokens w))
Ends false names w old new = (word_tokens w ≡ number w ∷ []) × (literal_limit < number_of w)

-- the byte was taken; or the word before it is a number above the limit
abbrev pub Lexes : Bool → List Word → ℕ → Word → Word → List Step → List Step → Type 0
Lexes true names c w word old new = (list_all is_small_token (lex_byte w c).0 ≡ true) × (word ≡ (lex_byte w c).1) × (new ≡ old ++ map (step_of names) (lex_byte w c).0)
Lexes false names c w word old new = (goes_on w c ≡ false) × (word_tokens w ≡ number w ∷ []) × (literal_limit < number_of w) × (word ≡ w)

-- after n of the bytes the first number among their tokens begins that is above the limit
pub record IsLargeAt (bytes : List ℕ) (n : ℕ) : Type 0 where
  pub before : List Token
  pub after : List Token
  pub digits : List ℕ
  pub front : List ℕ
  pub rest : List ℕ
  pub tokens : lexed [] bytes ≡ before ++ number digits ∷ after
  pub small : list_all is_small_token before ≡ true
  pub large : literal_limit < number_of digits
  pub bytes_are : bytes ≡ front ++ digits ++ rest
  pub front_spaced : IsSpaced before front
  pub rest_spaced : IsSpaced after rest
  pub place : n ≡ length front

-- the steps of the bytes; or where a number is above the limit
abbrev pub HasSteps : List Word → List ℕ → Result (List Step) ℕ → Type 0
HasSteps names bytes (Ok steps) = (list_all is_small_token (lexed [] bytes) ≡ true) × (steps ≡ map (step_of names) (lexed [] bytes))
HasSteps names bytes (Err n) = IsLargeAt bytes n
