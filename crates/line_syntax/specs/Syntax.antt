-- Lines as trees: expressions with their declared names, the tokens that they are written with, and which of them are
-- lines of the grammar.
use Rattle.std.specs.Prelude.{ℕ, ◌+◌, ◌-◌, ◌*◌, ◌≤◌, Bool, true, false, IsTrue, not, ◌&&◌, ◌||◌, List, [], ◌∷◌, ◌++◌, length, max, fold, filter_map, nat_le, nat_lt, ◌==◌, if◌then◌else◌, Option, Some, None, codes}
use Rattle.std.specs.List.{list_all, list_any}
use Rattle.std.specs.Str.{bytes_eq}

-- a name, or the digits of a number, by its bytes
abbrev pub Word : Type 0
Word = List ℕ

-- the sign of a term
pub data Sign : Type 0 where
  plus : Sign
  minus : Sign

-- expressions: sums of signed terms, which are products of powers; a number is kept by its digits
mutual
  pub data Expr : Type 0 where
    first : Term → Expr
    signed : Sign → Term → Expr
    sum : Expr → Sign → Term → Expr

  pub data Term : Type 0 where
    factor : Factor → Term
    product : Term → Factor → Term
    quotient : Term → Word → Term

  pub data Factor : Type 0 where
    plain : Atom → Factor
    power : Atom → Word → Factor

  pub data Atom : Type 0 where
    variable : Word → Atom
    natural : Word → Atom
    group : Expr → Atom

-- an expression, and the names that are declared before it, if any are
pub record Line : Type 0 where
  pub declared : Option (List Word)
  pub body : Expr

-- what a line is written with: names, numbers, and symbols of one byte
pub data Token : Type 0 where
  name : Word → Token
  number : Word → Token
  symbol : ℕ → Token

-- `+` or `-`
abbrev pub sign_token : Sign → Token
sign_token plus = symbol 43
sign_token minus = symbol 45

-- the tokens of an expression, in the order of writing
abbrev mutual
  pub expr_tokens : Expr → List Token
  expr_tokens (first t) = term_tokens t
  expr_tokens (signed s t) = sign_token s ∷ term_tokens t
  expr_tokens (sum e s t) = expr_tokens e ++ sign_token s ∷ term_tokens t

  pub term_tokens : Term → List Token
  term_tokens (factor f) = factor_tokens f
  term_tokens (product t f) = term_tokens t ++ symbol 42 ∷ factor_tokens f
  term_tokens (quotient t d) = term_tokens t ++ symbol 47 ∷ number d ∷ []

  pub factor_tokens : Factor → List Token
  factor_tokens (plain a) = atom_tokens a
  factor_tokens (power a d) = atom_tokens a ++ symbol 94 ∷ number d ∷ []

  pub atom_tokens : Atom → List Token
  atom_tokens (variable x) = name x ∷ []
  atom_tokens (natural d) = number d ∷ []
  atom_tokens (group e) = symbol 40 ∷ expr_tokens e ++ symbol 41 ∷ []

-- names, each after a comma
abbrev pub after_commas : List Word → List Token
after_commas [] = []
after_commas (x ∷ xs) = symbol 44 ∷ name x ∷ after_commas xs

-- names with commas between them
abbrev pub separated : List Word → List Token
separated [] = []
separated (x ∷ xs) = name x ∷ after_commas xs

-- the declared names between brackets, or nothing
abbrev pub declaration_tokens : Option (List Word) → List Token
declaration_tokens None = []
declaration_tokens (Some names) = symbol 91 ∷ separated names ++ symbol 93 ∷ []

-- the tokens of a line: of its declaration, then of its expression
abbrev pub tokens_of : Line → List Token
tokens_of l = declaration_tokens l.declared ++ expr_tokens l.body

-- the bytes of a token
abbrev pub token_text : Token → List ℕ
token_text (name x) = x
token_text (number d) = d
token_text (symbol c) = c ∷ []

-- x is one of the names xs
abbrev pub is_among : List Word → Word → Bool
is_among xs x = list_any (bytes_eq x) xs

-- xs with x at its end where it is new
abbrev pub with_new : List Word → Word → List Word
with_new xs x = if is_among xs x then xs else xs ++ x ∷ []

-- the name that a token is, if it is one
abbrev pub token_name : Token → Option Word
token_name (name x) = Some x
token_name (number d) = None
token_name (symbol c) = None

-- the names of an expression, in the order of their first appearance
abbrev pub names_in : Expr → List Word
names_in e = fold with_new [] (filter_map token_name (expr_tokens e))

-- the declared names, or else those of the expression
abbrev names_by : Option (List Word) → Expr → List Word
names_by (Some names) e = names
names_by None e = names_in e

-- the variables of a line, in order
abbrev pub names_of : Line → List Word
names_of l = names_by l.declared l.body

-- the value of a number with the digits d₁, .., dₙ: 10ⁿ⁻¹ * d₁ + .. + dₙ
abbrev pub number_of : Word → ℕ
number_of d = fold (λ n c. 10 * n + (c - 48)) 0 d

-- an ASCII digit
abbrev pub is_digit : ℕ → Bool
is_digit c = nat_le 48 c && nat_le c 57

-- an ASCII letter
abbrev pub is_letter : ℕ → Bool
is_letter c = (nat_le 65 c && nat_le c 90) || (nat_le 97 c && nat_le c 122)

-- a letter and at most three digits
abbrev pub is_name : Word → Bool
is_name [] = false
is_name (c ∷ cs) = is_letter c && (list_all is_digit cs && nat_le (length cs) 3)

-- one or more digits
abbrev pub is_number : Word → Bool
is_number d = list_all is_digit d && nat_lt 0 (length d)

-- one of [ ] , ( ) + - * / ^
abbrev pub is_symbol : ℕ → Bool
is_symbol c = list_any (λ s. c == s) (codes "[],()+-*/^")

-- a name, number or symbol in its right form
abbrev pub is_token : Token → Bool
is_token (name x) = is_name x
is_token (number d) = is_number d
is_token (symbol c) = is_symbol c

-- the numbers that an expression divides by, in the order of writing
abbrev mutual
  pub divisors_of_expr : Expr → List Word
  divisors_of_expr (first t) = divisors_of_term t
  divisors_of_expr (signed s t) = divisors_of_term t
  divisors_of_expr (sum e s t) = divisors_of_expr e ++ divisors_of_term t

  pub divisors_of_term : Term → List Word
  divisors_of_term (factor f) = divisors_of_factor f
  divisors_of_term (product t f) = divisors_of_term t ++ divisors_of_factor f
  divisors_of_term (quotient t d) = divisors_of_term t ++ d ∷ []

  pub divisors_of_factor : Factor → List Word
  divisors_of_factor (plain a) = divisors_of_atom a
  divisors_of_factor (power a d) = divisors_of_atom a

  pub divisors_of_atom : Atom → List Word
  divisors_of_atom (variable x) = []
  divisors_of_atom (natural d) = []
  divisors_of_atom (group e) = divisors_of_expr e

-- how deep the parentheses of an expression nest
abbrev mutual
  pub depth_of_expr : Expr → ℕ
  depth_of_expr (first t) = depth_of_term t
  depth_of_expr (signed s t) = depth_of_term t
  depth_of_expr (sum e s t) = max (depth_of_expr e) (depth_of_term t)

  pub depth_of_term : Term → ℕ
  depth_of_term (factor f) = depth_of_factor f
  depth_of_term (product t f) = max (depth_of_term t) (depth_of_factor f)
  depth_of_term (quotient t d) = depth_of_term t

  pub depth_of_factor : Factor → ℕ
  depth_of_factor (plain a) = depth_of_atom a
  depth_of_factor (power a d) = depth_of_atom a

  pub depth_of_atom : Atom → ℕ
  depth_of_atom (variable x) = 0
  depth_of_atom (natural d) = 0
  depth_of_atom (group e) = depth_of_expr e + 1

-- no name comes twice
abbrev pub are_distinct : List Word → Bool
are_distinct [] = true
are_distinct (x ∷ xs) = not (is_among xs x) && are_distinct xs

-- a line of the grammar: its tokens have their right forms, no divisor is 0, parentheses nest at most 64 deep, it has one
-- to eight names, which differ, and every name of the expression is one of them
pub record IsLine (l : Line) : Type 0 where
  pub tokens : IsTrue (list_all is_token (tokens_of l))
  pub divisors : IsTrue (list_all (λ d. nat_lt 0 (number_of d)) (divisors_of_expr l.body))
  pub depth : depth_of_expr l.body ≤ 64
  pub some_name : 1 ≤ length (names_of l)
  pub few_names : length (names_of l) ≤ 8
  pub distinct : IsTrue (are_distinct (names_of l))
  pub covered : IsTrue (list_all (is_among (names_of l)) (names_in l.body))
