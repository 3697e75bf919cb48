-- Where the value of an expression is reached through a high operation: one whose numbers are so large that it may be refused.
use Rattle.std.specs.Prelude.{ℕ, ◌+◌, ◌≤◌, List, ◌⊎◌}
use Rattle.line_syntax.specs.Syntax.{Word, Expr, Term, Factor, Atom, number_of}
use Rattle.line_syntax.specs.Syntax as syntax
use Rattle.line_syntax.specs.Value.{Arithmetic, with_sign, expr_value, term_value, factor_value, atom_value}

-- which sums, products, and quotients by whole numbers are high
pub record HighOperations (V : Type 0) : Type 1 where
  pub sum : V → V → Type 0
  pub product : V → V → Type 0
  pub quotient : V → ℕ → Type 0

module _ {V : Type 0} (ops : Arithmetic V) (high : HighOperations V) where
  -- a power v^e is high where some product v^a * v^b with a + b ≤ e is
  pub record IsPowerHigh (v : V) (e : ℕ) : Type 0 where
    pub first : ℕ
    pub second : ℕ
    pub together : first + second ≤ e
    pub is_high : high.product (ops.power v first) (ops.power v second)

module _ {V : Type 0} (ops : Arithmetic V) (high : HighOperations V) (names : List Word) where
  -- some sum, product, quotient or power in the value of an expression is high
  abbrev mutual
    pub IsExprHigh : Expr → Type 0
    IsExprHigh (syntax.first t) = IsTermHigh t
    IsExprHigh (syntax.signed s t) = IsTermHigh t
    IsExprHigh (syntax.sum e s t) = IsExprHigh e ⊎ (IsTermHigh t ⊎ high.sum (expr_value ops names e) (with_sign ops names s (term_value ops names t)))

    pub IsTermHigh : Term → Type 0
    IsTermHigh (syntax.factor f) = IsFactorHigh f
    IsTermHigh (syntax.product t f) = IsTermHigh t ⊎ (IsFactorHigh f ⊎ high.product (term_value ops names t) (factor_value ops names f))
    IsTermHigh (syntax.quotient t d) = IsTermHigh t ⊎ high.quotient (term_value ops names t) (number_of d)

    pub IsFactorHigh : Factor → Type 0
    IsFactorHigh (syntax.plain a) = IsAtomHigh a
    IsFactorHigh (syntax.power a d) = IsAtomHigh a ⊎ IsPowerHigh ops high (atom_value ops names a) (number_of d)

    pub IsAtomHigh : Atom → Type 0
    IsAtomHigh (syntax.variable x) = ⊥
    IsAtomHigh (syntax.natural d) = ⊥
    IsAtomHigh (syntax.group e) = IsExprHigh e
