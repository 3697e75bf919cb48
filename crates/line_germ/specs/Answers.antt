-- The parts of an answer.
use Rattle.std.specs.Prelude.{◌≡◌, ℕ, List, map, length, ◌==◌, if◌then◌else◌}
use Rattle.ring_law.specs.declared.fraction.Frac.{Frac}
use Rattle.jet_poly.specs.JetTerms.{JetTerms}
use Rattle.line_syntax.specs.Syntax.{Word}
use Rattle.poly_text.specs.declared.what.What.{What}
use Rattle.poly_text.specs.declared.what.What.TheVariants as what
use Rattle.line_germ.specs.Names.{name_of}
use Rattle.line_germ.specs.declared.reading.Germ.{Germ}

-- what stands behind the first n bytes: a byte, or the end
abbrev pub what_at : List ℕ → ℕ → What
what_at bytes n = if n == length bytes then what.End else what.Byte

-- g has these names, this jet and its order
pub record IsNamed (names : List Word) (f : JetTerms Frac) (g : Germ) : Type 0 where
  pub names_are : g.names ≡ map name_of names
  pub order_is : g.order ≡ f.order
  pub jet_is : g.jet ≡ f
