use Rattle.std.proofs.Common.{◌≡◌, ℕ, cond, ltb}
use Rattle.ring_theory.specs.Rational.{rational_ops}
use Rattle.ring_law.specs.Fraction.{frac_value, rational_meaning}
use Rattle.poly_law.specs.Polynomials.{coefficient_in}
use Rattle.jet_law.specs.Terms.{exp_of}
use Rattle.lin_row.specs.Lines.{IsLine, AllBelow, entry}
use Rattle.jacobian_row.specs.Rows.{polynomial_at}
use Rattle.tern_cubic.proofs.rows.gradient_row.Given as goal

abbrev pub invariant-loop-i : goal.invariant-loop-i
invariant-loop-i l = record {
  line : IsLine rational_meaning l.entries.items;
  below : AllBelow l.i l.entries.items;
  entries : (d : ℕ) → entry rational_meaning l.entries.items d ≡ cond (ltb d l.i) (coefficient_in 3 rational_ops (polynomial_at 3 frac_value l.gradient d) (exp_of 3 l.a)) rational_ops.zero;
}
