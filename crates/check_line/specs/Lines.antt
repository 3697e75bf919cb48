-- The line of a report: the limit up to which it is read, and its germ.
use Rattle.std.specs.Prelude.{◌≡◌, ℕ, IsTrue, List, map, max}
use Rattle.std.specs.List.{list_all}
use Rattle.line_syntax.specs.Syntax.{Line, names_of}
use Rattle.line_syntax.specs.Grammar.{Spells}
use Rattle.germ_law.specs.Germ.{IsCritical}
use Rattle.line_jet.specs.Reads.{IsGermOf, order_of}
use Rattle.line_germ.specs.declared.reading.Germ.{Germ}
use Rattle.poly_text.specs.Polynomials.{name_text}
use Rattle.cert_text.specs.WellFormed.{is_valid_name}
use Rattle.report_law.specs.Right.{IsHighLine}
use Rattle.check_line.specs.declared.germ.GermTest.{GermTest}
use Rattle.check_line.specs.declared.germ.GermTest.TheVariants as found

-- the order limit up to which the line of a report of this order is read: the order, and at least 3
abbrev pub reading_limit : ℕ → ℕ
reading_limit order = max order 3

-- the order limit up to which the line of a refusal is read
abbrev pub refusal_limit : ℕ
refusal_limit = 3

-- the bytes spell one line, which is critical; g has its variables, its order up to the limit, and its germ up to that order
pub record IsGermOfLine (bytes : List ℕ) (limit : ℕ) (g : Germ) : Type 0 where
  pub line : Line
  pub critical : IsCritical bytes line
  pub only : (l : Line) → Spells bytes l → l ≡ line
  pub valid : IsTrue (list_all is_valid_name g.names)
  pub names : map name_text g.names ≡ names_of line
  pub order : g.order ≡ order_of limit line
  pub germ : IsGermOf limit line g.jet

-- the germ of a critical line; or no critical line is spelled; or reading the line up to the limit forms a number of height at least 2^120
abbrev pub IsGermTest : List ℕ → ℕ → GermTest → Type 0
IsGermTest bytes limit (found.Critical g) = IsGermOfLine bytes limit g
IsGermTest bytes limit found.NotCritical = (l : Line) → IsCritical bytes l → ⊥
IsGermTest bytes limit found.High = IsHighLine bytes limit
