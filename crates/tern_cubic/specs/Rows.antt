-- Rows of elimination by their entries.
use Rattle.std.specs.Prelude.{◌≡◌, ℕ, List, [], map, get_or}
use Rattle.ring_theory.specs.Rational.{Rational}
use Rattle.ring_law.specs.Fraction.{rational_meaning}
use Rattle.ring_law.specs.declared.fraction.Frac.{Frac}
use Rattle.mono_exp.specs.declared.exponent.Exp.{Exp}
use Rattle.lin_row.specs.Lines.{AllBelow, EachOf, entry}
use Rattle.lin_row.specs.Rows.{AreRows, rows_of}
use Rattle.lin_row.specs.declared.row.Row.{Row}

-- the rows have these entries, in columns below n
pub record HaveEntries (n : ℕ) (entries : List (ℕ → Rational)) (rows : List (Row Frac)) : Type 0 where
  pub lines : AreRows rational_meaning rows
  pub below : EachOf (AllBelow n) (rows_of rows)
  pub are : map (entry rational_meaning) (rows_of rows) ≡ entries

-- the monomial with number i of a list, and 1 past its end
abbrev pub monomial_at : List Exp → ℕ → Exp
monomial_at all i = get_or all i (record { e = [] })
