-- The value of an expression, over any operations.
use Rattle.std.specs.Prelude.{ℕ, List}
use Rattle.std.specs.List.{position_or_len}
use Rattle.std.specs.Str.{bytes_eq}
use Rattle.line_syntax.specs.Syntax.{Word, Sign, plus, minus, Expr, Term, Factor, Atom, number_of}
use Rattle.line_syntax.specs.Syntax as syntax

-- the operations that an expression needs: its variables, counted from 0, whole numbers, opposites, sums, products, quotients by
-- whole numbers, and powers
pub record Arithmetic (V : Type 0) : Type 0 where
  pub variable : ℕ → V
  pub number : ℕ → V
  pub neg : V → V
  pub add : V → V → V
  pub mul : V → V → V
  pub over : V → ℕ → V
  pub power : V → ℕ → V

module _ {V : Type 0} (ops : Arithmetic V) (names : List Word) where
  -- v, or its opposite
  abbrev pub with_sign : Sign → V → V
  with_sign plus v = v
  with_sign minus v = ops.neg v

  -- the value of an expression: its names are variables by their places in the list
  abbrev mutual
    pub expr_value : Expr → V
    expr_value (syntax.first t) = term_value t
    expr_value (syntax.signed s t) = with_sign s (term_value t)
    expr_value (syntax.sum e s t) = ops.add (expr_value e) (with_sign s (term_value t))

    pub term_value : Term → V
    term_value (syntax.factor f) = factor_value f
    term_value (syntax.product t f) = ops.mul (term_value t) (factor_value f)
    term_value (syntax.quotient t d) = ops.over (term_value t) (number_of d)

    pub factor_value : Factor → V
    factor_value (syntax.plain a) = atom_value a
    factor_value (syntax.power a d) = ops.power (atom_value a) (number_of d)

    pub atom_value : Atom → V
    atom_value (syntax.variable x) = ops.variable (position_or_len (bytes_eq x) names)
    atom_value (syntax.natural d) = ops.number (number_of d)
    atom_value (syntax.group e) = expr_value e
