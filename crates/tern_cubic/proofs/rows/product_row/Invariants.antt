use Rattle.std.proofs.Common.{◌≡◌, ℕ, cond, ltb}
use Rattle.ring_theory.specs.Rational.{Rational, rational_ops}
use Rattle.ring_law.specs.Fraction.{frac_value, rational_meaning}
use Rattle.poly_law.specs.Polynomials.{Polynomial, SameIn, coefficient_in, term_in, times_in}
use Rattle.jet_law.specs.Terms.{exp_of, poly_of}
use Rattle.lin_row.specs.Lines.{IsLine, AllBelow, entry}
use Rattle.tern_cubic.specs.Rows.{monomial_at}
use Rattle.tern_cubic.proofs.rows.product_row.Given as goal

abbrev pub invariant-loop-j : goal.invariant-loop-j
invariant-loop-j l = record {
  line : IsLine rational_meaning l.entries.items;
  below : AllBelow l.j l.entries.items;
  entries : (g : Polynomial 3 Rational) → SameIn 3 rational_ops (poly_of 3 frac_value l.f.terms) g → (d : ℕ) → entry rational_meaning l.entries.items d
      ≡ cond (ltb d l.j) (coefficient_in 3 rational_ops (times_in 3 rational_ops (term_in 3 rational_ops (exp_of 3 l.factor)) g) (exp_of 3 (monomial_at l.quartics d))) rational_ops.zero;
}
