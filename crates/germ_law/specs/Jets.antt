-- The operations of an expression on jets.
use Rattle.std.specs.Prelude.{ℕ}
use Rattle.ring_theory.specs.Rational.{Rational}
use Rattle.ring_theory.specs.Height.{rational_scalars}
use Rattle.poly_law.specs.ExpList.{exps}
use Rattle.poly_law.specs.Polynomials.{Polynomial}
use Rattle.jet_law.specs.Heights.{IsHigh, sum_heights, product_heights, scale_heights}
use Rattle.line_syntax.specs.Value.{Arithmetic}
use Rattle.line_syntax.specs.High.{HighOperations}
use Rattle.germ_law.specs.Germ.{polynomials, one_over}
use Rattle.germ_law.specs.Reading.{jet_of}

-- each operation of polynomials, and then the jet of order k
abbrev pub jets : (n k : ℕ) → Arithmetic (Polynomial n Rational)
jets n k = record {
  variable = λ i. jet_of n k ((polynomials n).variable i);
  number = λ a. jet_of n k ((polynomials n).number a);
  neg = λ f. jet_of n k ((polynomials n).neg f);
  add = λ f g. jet_of n k ((polynomials n).add f g);
  mul = λ f g. jet_of n k ((polynomials n).mul f g);
  over = λ f d. jet_of n k ((polynomials n).over f d);
  power = λ f e. jet_of n k ((polynomials n).power f e);
}

-- the sums, products and quotients of jets that form a number of height at least 2^120
abbrev pub high_jets : (n k : ℕ) → HighOperations (Polynomial n Rational)
high_jets n k = record {
  sum = λ f g. IsHigh (sum_heights (exps n) rational_scalars k f g);
  product = λ f g. IsHigh (product_heights (exps n) rational_scalars k f g);
  quotient = λ f d. IsHigh (scale_heights (exps n) rational_scalars (one_over d) f);
}
