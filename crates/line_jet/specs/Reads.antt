-- What is answered for a line that is read up to a limit.
use Rattle.std.specs.Prelude.{◌≡◌, ℕ, IsTrue, List, map, length}
use Rattle.ring_theory.specs.Rational.{rational_ops}
use Rattle.ring_law.specs.declared.fraction.Frac.{Frac}
use Rattle.poly_law.specs.ExpList.{exps}
use Rattle.poly_law.specs.Poly.{SameTo}
use Rattle.jet_poly.specs.JetTerms.{JetTerms}
use Rattle.line_syntax.specs.Syntax.{Word, Line, names_of}
use Rattle.line_syntax.specs.Grammar.{Spells, has_small_literals, IsSyntaxError, IsLiteralError}
use Rattle.germ_law.specs.Germ.{germ_of, IsCritical, IsFirstLinear}
use Rattle.germ_law.specs.Reading.{IsReadingHigh}
use Rattle.line_jet_law.specs.LineJets.{order_limit, IsRationalJet, rational_polynomial}
use Rattle.line_jet.specs.declared.read.LineRead.{LineRead}
use Rattle.line_jet.specs.declared.read.LineRead.TheVariants as read

-- the order up to which a line is read
abbrev pub order_of : ℕ → Line → ℕ
order_of limit l = order_limit limit (length (names_of l))

-- f is the germ of the line up to its order
pub record IsGermOf (limit : ℕ) (l : Line) (f : JetTerms Frac) : Type 0 where
  pub is_jet : IsRationalJet (length (names_of l)) (order_of limit l) f
  pub germ : SameTo (exps (length (names_of l))) rational_ops (order_of limit l) (rational_polynomial (length (names_of l)) f) (germ_of l)

-- the bytes are a critical line with these variables, and f is its germ up to its order
pub record IsReadGerm (bytes : List ℕ) (limit : ℕ) (names : List Word) (f : JetTerms Frac) : Type 0 where
  pub line : Line
  pub critical : IsCritical bytes line
  pub names_are : names_of line ≡ names
  pub is_germ : IsGermOf limit line f

-- the bytes spell a line, no number of it is too large, and reading it up to its order forms a number of height at least 2^120
pub record IsReadHigh (bytes : List ℕ) (limit : ℕ) : Type 0 where
  pub line : Line
  pub spells : Spells bytes line
  pub small : IsTrue (has_small_literals line)
  pub is_high : IsReadingHigh (order_of limit line) line

-- the bytes spell a line with these variables, no number of it is too large, and the first of its linear coefficients that is not 0 is that
-- of variable i, counted from 0
pub record IsReadLinear (bytes : List ℕ) (names : List Word) (i : ℕ) : Type 0 where
  pub line : Line
  pub spells : Spells bytes line
  pub small : IsTrue (has_small_literals line)
  pub names_are : names_of line ≡ names
  pub first : IsFirstLinear line i

-- what is answered for bytes
abbrev pub IsReadOf : List ℕ → ℕ → LineRead → Type 0
IsReadOf bytes limit (read.Germ germ) = IsReadGerm bytes limit (map (λ v. v.items) germ.names.items) germ.jet
IsReadOf bytes limit (read.Syntax n) = IsSyntaxError bytes n
IsReadOf bytes limit (read.Literal n) = IsLiteralError bytes n
IsReadOf bytes limit read.Range = IsReadHigh bytes limit
IsReadOf bytes limit (read.NotCritical names i) = IsReadLinear bytes (map (λ v. v.items) names.items) i
