use Rattle.ring_theory.specs.Rational.{rational_ops}
use Rattle.ring_law.specs.Fraction.{frac_value, rational_meaning}
use Rattle.poly_law.specs.Polynomials.{SameIn}
use Rattle.jet_law.specs.Terms.{poly_of}
use Rattle.jet_poly.proofs.Derived.{AreReady}
use Rattle.tern_cubic.proofs.CubicJets.{exponents_at, terms_to}
use Rattle.tern_cubic.proofs.cubic.cubic_jet.Given as goal

abbrev pub invariant-loop-i : goal.invariant-loop-i
invariant-loop-i l = record {
  ready : AreReady 3 3 rational_meaning exponents_at (λ j. Unit {0}) l.i 10 l.terms.items;
  so_far : SameIn 3 rational_ops (poly_of 3 frac_value l.terms.items) (poly_of 3 frac_value (terms_to l.i l.c));
}
