-- What is answered for a line.
use Rattle.std.specs.Prelude.{◌≡◌, ℕ, ◌+◌, List, [], map, length, get_or}
use Rattle.line_syntax.specs.Syntax.{Word}
use Rattle.line_syntax.specs.Grammar.{IsSyntaxError, IsLiteralError}
use Rattle.poly_text.specs.declared.name.Name.{Name}
use Rattle.poly_text.specs.declared.what.What.{What}
use Rattle.line_jet_law.specs.LineJets.{order_limit}
use Rattle.line_jet.specs.Reads.{IsReadGerm, IsReadHigh, IsReadLinear}
use Rattle.line_germ.specs.Names.{name_of}
use Rattle.line_germ.specs.Answers.{what_at}
use Rattle.line_germ.specs.declared.reading.Germ.{Germ}
use Rattle.line_germ.specs.declared.reading.Read.{Read}
use Rattle.line_germ.specs.declared.reading.Read.TheVariants as read

-- the bytes are a critical line, g has its variables and its order, and its jet is the germ of the line up to that order
pub record IsLineGerm (bytes : List ℕ) (limit : ℕ) (g : Germ) : Type 0 where
  pub names : List Word
  pub names_are : g.names ≡ map name_of names
  pub order_is : g.order ≡ order_limit limit (length names)
  pub is_germ : IsReadGerm bytes limit names g.jet

-- the line is refused at this column, counted from 1
pub record IsSyntaxAt (bytes : List ℕ) (column : ℕ) (w : What) : Type 0 where
  pub before : ℕ
  pub column_is : column ≡ before + 1
  pub what_is : w ≡ what_at bytes before
  pub error : IsSyntaxError bytes before

-- the first number that is too large begins at this column, counted from 1
pub record IsLiteralAt (bytes : List ℕ) (column : ℕ) : Type 0 where
  pub before : ℕ
  pub column_is : column ≡ before + 1
  pub error : IsLiteralError bytes before

-- the first linear coefficient that is not 0 is that of this variable
pub record IsLinearIn (bytes : List ℕ) (variable : Name) : Type 0 where
  pub names : List Word
  pub place : ℕ
  pub linear : IsReadLinear bytes names place
  pub variable_is : variable ≡ name_of (get_or names place [])

-- what is answered for bytes that are read up to a limit
abbrev pub IsReadOf : List ℕ → ℕ → Read → Type 0
IsReadOf bytes limit (read.Germ germ) = IsLineGerm bytes limit germ
IsReadOf bytes limit (read.Syntax column w) = IsSyntaxAt bytes column w
IsReadOf bytes limit (read.Literal column) = IsLiteralAt bytes column
IsReadOf bytes limit read.Range = IsReadHigh bytes limit
IsReadOf bytes limit (read.NotCritical variable) = IsLinearIn bytes variable
