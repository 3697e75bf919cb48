use Rattle.std.proofs.Common.{◌≡◌, false, true, ◌∙◌, sym, ap, arith}
use Rattle.ring_theory.specs.Rational.{rational_ops}
use Rattle.ring_theory.proofs.RationalLaws.{rational_scalar_laws}
use Rattle.ring_law.specs.Fraction.{frac_value}
use Rattle.poly_law.specs.Polynomials.{coefficient_in, term_in, times_in}
use Rattle.jet_law.specs.Terms.{exp_of}
use Rattle.tern_cubic.proofs.Multiples.{at_multiple, no_multiple, product_is, divides_if, quotient_in}
use Rattle.tern_cubic.proofs.RowLemmas.{coefficient_read}
use Rattle.tern_cubic.proofs.rows.product_coefficient.Goals as goal

pub coef-requires-clause-at_most_8_variables : goal.coef-requires-clause-at_most_8_variables
coef-requires-clause-at_most_8_variables c = let e = c.requires.jet.variables in omega arith

pub returns-in-Some-clause-value : goal.returns-in-Some-clause-value
returns-in-Some-clause-value c f same =
    let q = c.in-Some.q in
    let p = c.in-Some.ensures.quotient in
    coefficient_read c.args.f.now q (frac_value c.coef.result) c.requires.jet.variables (quotient_in 3 c.args.a.e c.args.factor.e q.e p c.requires.unused) c.coef.ensures.in_variables
    ∙ same (exp_of 3 q)
    ∙ sym (at_multiple 3 rational_ops rational_scalar_laws.ring (exp_of 3 c.args.factor) (exp_of 3 q) f)
    ∙ ap (coefficient_in 3 rational_ops (times_in 3 rational_ops (term_in 3 rational_ops (exp_of 3 c.args.factor)) f)) (sym (product_is 3 c.args.a c.args.factor q p))

pub returns-in-None-clause-value : goal.returns-in-None-clause-value
returns-in-None-clause-value c f same =
    c.zero.ensures.value
    ∙ sym (no_multiple 3 rational_ops rational_scalar_laws.ring (exp_of 3 c.args.factor) (exp_of 3 c.args.a) f (λ q e. let bad : false ≡ true = c.in-None.ensures.divides.1 (divides_if 3 c.args.a c.args.factor c.requires.factor_unused q e) in cc bad))
