use Rattle.std.proofs.Common.{◌≡◌, ◌≢◌, true, false, List, [], ◌∷◌, sym, subst, ◌∙◌}
use Rattle.ring_theory.specs.Height.{rational_scalars}
use Rattle.ring_theory.specs.Rational.{Rational, rational_ops}
use Rattle.ring_theory.proofs.RationalLaws.{zero_test}
use Rattle.ring_law.specs.Fraction.{frac_value, rational_meaning}
use Rattle.ring_law.proofs.Exits.{handed_on}
use Rattle.ternary_law.specs.Matrices.{unit_matrix, with_row, two_in_row}
use Rattle.tern_cubic.specs.Matrices.{IsMatrix}
use Rattle.tern_cubic.proofs.PairCases
use Rattle.tern_cubic.proofs.pair.corner_case.Goals as goal

pub returns-then-is_zero-clause-answer : goal.returns-then-is_zero-clause-answer
returns-then-is_zero-clause-answer c =
    let form : List Rational = frac_value c.args._q0 ∷ frac_value c.args.q1 ∷ frac_value c.args.q2 ∷ [] in
    PairCases.no_case form c.args.i c.args.j c.requires.corner ((zero_test (frac_value c.args.q1)).0 (sym c.is_zero.ensures ∙ c.if-is_zero.true))

pub quotient-requires-clause-nonzero : goal.quotient-requires-clause-nonzero
quotient-requires-clause-nonzero c = λ e. let bad : true ≡ false = sym ((zero_test (frac_value c.args.q1)).1 e) ∙ sym c.is_zero.ensures ∙ c.if-is_zero.false in cc bad

pub returns-in_err-slope-clause-range : goal.returns-in_err-slope-clause-range
returns-in_err-slope-clause-range c =
    let form : List Rational = frac_value c.args._q0 ∷ frac_value c.args.q1 ∷ frac_value c.args.q2 ∷ [] in
    handed_on _ c.from_residual.ensures.1 (PairCases.corner_high form c.requires.corner) c.in_err-slope.ensures.range

pub returns-clause-answer : goal.returns-clause-answer
returns-clause-answer c =
    let form : List Rational = frac_value c.args._q0 ∷ frac_value c.args.q1 ∷ frac_value c.args.q2 ∷ [] in
    let s = rational_scalars in
    let other : frac_value c.args.q1 ≢ rational_ops.zero = λ e. (let bad : true ≡ false = sym ((zero_test (frac_value c.args.q1)).1 e) ∙ sym c.is_zero.ensures ∙ c.if-is_zero.false in cc bad) in
    PairCases.corner_answer form c.args.i c.args.j c.corner_matrix.result c.requires.corner other
    (subst (λ x. IsMatrix rational_meaning (with_row s c.args.i (two_in_row s c.args.i s.ops.one c.args.j (s.ops.neg x)) (unit_matrix s)) c.corner_matrix.result) c.in_ok-slope.ensures.value c.corner_matrix.ensures)
