-- The polynomial of a line over the rational numbers, and its germ.
use Rattle.std.specs.Prelude.{◌≡◌, ◌≢◌, ℕ, pos, ◌<◌, ◌≤◌, IsTrue, List, length, filter, nat_lt}
use Rattle.ring_theory.specs.Rational.{Rational, rational, rational_ops}
use Rattle.poly_law.specs.Sums.{power}
use Rattle.poly_law.specs.Exps.{variable, degree}
use Rattle.poly_law.specs.ExpList.{ExpList, exps}
use Rattle.poly_law.specs.Poly.{Terms, coefficient, constant, term, scale, poly_ops}
use Rattle.line_syntax.specs.Syntax.{Line, names_of}
use Rattle.line_syntax.specs.Value.{Arithmetic, expr_value}
use Rattle.line_syntax.specs.Grammar.{Spells, has_small_literals}

-- the longest line that is read, in bytes
abbrev pub line_limit : ℕ
line_limit = 65536

-- polynomials in n variables over the rational numbers
abbrev pub RationalPolynomial : ℕ → Type 0
RationalPolynomial n = Terms (ExpList n) Rational

-- the whole number k
abbrev pub whole : ℕ → Rational
whole k = rational (pos k) 1

-- 1 / k
abbrev pub one_over : ℕ → Rational
one_over k = rational (pos 1) k

-- the operations of these polynomials, with nothing cut; a power is a repeated product
abbrev pub polynomials : (n : ℕ) → Arithmetic (RationalPolynomial n)
polynomials n = record {
  variable = λ i. term (exps n) rational_ops (variable (exps n) i);
  number = λ k. constant (exps n) rational_ops (whole k);
  neg = (poly_ops (exps n) rational_ops).neg;
  add = (poly_ops (exps n) rational_ops).add;
  mul = (poly_ops (exps n) rational_ops).mul;
  over = λ f k. scale (exps n) rational_ops (one_over k) f;
  power = power (poly_ops (exps n) rational_ops);
}

-- the polynomial of a line: the value of its expression, with its names as variables in their order
abbrev pub polynomial_of : (l : Line) → RationalPolynomial (length (names_of l))
polynomial_of l = expr_value (polynomials (length (names_of l))) (names_of l) l.body

-- the polynomial less its constant term
abbrev pub without_constant : (n : ℕ) → RationalPolynomial n → RationalPolynomial n
without_constant n f = filter (λ t. nat_lt 0 (degree (exps n) t.0)) f

-- the germ of a line: its polynomial less the constant term
abbrev pub germ_of : (l : Line) → RationalPolynomial (length (names_of l))
germ_of l = without_constant (length (names_of l)) (polynomial_of l)

-- the coefficient of the i-th variable alone in the polynomial of a line, i counted from 0
abbrev pub linear_coefficient : Line → ℕ → Rational
linear_coefficient l i = let n = length (names_of l) in coefficient (exps n) rational_ops (polynomial_of l) (variable (exps n) i)

-- the bytes spell this line, no number of it is too large, it is at most 65,536 bytes long, and its linear coefficients are 0
pub record IsCritical (bytes : List ℕ) (l : Line) : Type 0 where
  pub short : length bytes ≤ line_limit
  pub spells : Spells bytes l
  pub small : IsTrue (has_small_literals l)
  pub critical : (i : ℕ) → i < length (names_of l) → linear_coefficient l i ≡ rational_ops.zero

-- the linear coefficient of variable i is not 0, and that of each variable before it is
pub record IsFirstLinear (l : Line) (i : ℕ) : Type 0 where
  pub within : i < length (names_of l)
  pub linear : linear_coefficient l i ≢ rational_ops.zero
  pub first : (j : ℕ) → j < i → linear_coefficient l j ≡ rational_ops.zero
