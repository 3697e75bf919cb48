-- The height of reading a line up to an order.
use Rattle.std.specs.Prelude.{ℕ, length}
use Rattle.ring_theory.specs.Rational.{Rational}
use Rattle.ring_theory.specs.Height.{rational_scalars}
use Rattle.poly_law.specs.ExpList.{exps}
use Rattle.poly_law.specs.Polynomials.{Polynomial}
use Rattle.jet_law.specs.Canonical.{jet}
use Rattle.jet_law.specs.Heights.{IsHigh, sum_heights, product_heights, scale_heights}
use Rattle.line_syntax.specs.Syntax.{Line, names_of}
use Rattle.line_syntax.specs.High.{HighOperations, IsExprHigh}
use Rattle.germ_law.specs.Germ.{polynomials, one_over}

-- the jet of order k of a polynomial over the rational numbers
abbrev pub jet_of : (n k : ℕ) → Polynomial n Rational → Polynomial n Rational
jet_of n k f = jet n rational_scalars k f

-- the sums, products and quotients of polynomials in n variables that form a number of height at least 2^120 where their jets of order k
-- are taken in place of them
abbrev pub high_to : (n k : ℕ) → HighOperations (Polynomial n Rational)
high_to n k = record {
  sum = λ f g. IsHigh (sum_heights (exps n) rational_scalars k (jet_of n k f) (jet_of n k g));
  product = λ f g. IsHigh (product_heights (exps n) rational_scalars k (jet_of n k f) (jet_of n k g));
  quotient = λ f d. IsHigh (scale_heights (exps n) rational_scalars (one_over d) (jet_of n k f));
}

-- reading the line up to order k forms a number of height at least 2^120
abbrev pub IsReadingHigh : ℕ → Line → Type 0
IsReadingHigh k l = let n = length (names_of l) in IsExprHigh (polynomials n) (high_to n k) (names_of l) l.body
