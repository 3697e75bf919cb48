use Rattle.std.proofs.Common.{◌≡◌, ◌≢◌, true, false, List, [], ◌∷◌, sym, ◌∙◌}
use Rattle.ring_theory.specs.Rational.{Rational, rational_ops}
use Rattle.ring_theory.proofs.RationalLaws.{zero_test}
use Rattle.ring_law.specs.Fraction.{frac_value}
use Rattle.ring_law.proofs.Exits.{handed_on}
use Rattle.bin_forms.specs.Pairs as lines
use Rattle.bin_forms.specs.declared.pair.Pair.TheVariants as found
use Rattle.tern_cubic.proofs.PairCases
use Rattle.tern_cubic.proofs.pair.pair_case.Goals as goal

pub corner_case-requires-clause-corner : goal.corner_case-requires-clause-corner
corner_case-requires-clause-corner c = (zero_test (frac_value c.args.q0)).0 (sym c.is_zero.ensures ∙ c.if-is_zero.true)

pub returns-in_err-low-clause-range : goal.returns-in_err-low-clause-range
returns-in_err-low-clause-range c =
    let form : List Rational = frac_value c.args.q0 ∷ frac_value c.args.q1 ∷ frac_value c.args.q2 ∷ [] in
    let other : frac_value c.args.q0 ≢ rational_ops.zero = λ e. (let bad : true ≡ false = sym ((zero_test (frac_value c.args.q0)).1 e) ∙ sym c.is_zero.ensures ∙ c.if-is_zero.false in cc bad) in
    handed_on _ c.from_residual.ensures.1 (PairCases.lines_high form other) c.in_err-low.ensures.range

pub unreachable-requires : goal.unreachable-requires
unreachable-requires c =
    let form : List Rational = frac_value c.args.q0 ∷ frac_value c.args.q1 ∷ frac_value c.args.q2 ∷ [] in
    let pair : lines.IsPair form found.Corner = rw c.in-Corner.is at c.in_ok-low.ensures.pair in
    let bad : true ≡ false = sym ((zero_test (frac_value c.args.q0)).1 pair.kind) ∙ sym c.is_zero.ensures ∙ c.if-is_zero.false in cc bad

pub returns-in-Roots-clause-answer : goal.returns-in-Roots-clause-answer
returns-in-Roots-clause-answer c =
    let form : List Rational = frac_value c.args.q0 ∷ frac_value c.args.q1 ∷ frac_value c.args.q2 ∷ [] in
    let pair : lines.IsPair form (found.Roots c.in-Roots.low c.in-Roots.high) = rw c.in-Roots.is at c.in_ok-low.ensures.pair in
    PairCases.roots_answer form c.args.i c.args.j c.in-Roots.low c.in-Roots.high c.pair_matrix.result pair.kind.0 pair c.pair_matrix.ensures

pub returns-in-Over-clause-answer : goal.returns-in-Over-clause-answer
returns-in-Over-clause-answer c =
    let form : List Rational = frac_value c.args.q0 ∷ frac_value c.args.q1 ∷ frac_value c.args.q2 ∷ [] in
    let pair : lines.IsPair form (found.Over c.in-Over.algebra) = rw c.in-Over.is at c.in_ok-low.ensures.pair in
    PairCases.over_answer form c.args.i c.args.j c.in-Over.algebra pair.kind.0 pair
