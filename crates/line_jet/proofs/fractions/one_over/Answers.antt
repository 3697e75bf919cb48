use Rattle.std.proofs.Common.{◌≡◌, ◌≢◌, ◌<◌, ◌^◌, pos, to_z, of_z, subst, sym, ◌∙◌, ap, arith}
use mir.Syntax.{w128}
use Rattle.ring_law.specs.Fraction.{Represents, frac_value}
use Rattle.germ_law.specs.Germ as germ
use Rattle.small_frac.proofs.Parts.{kept}
use Rattle.ring_theory.specs.Rational.{rational_ops}
use Rattle.line_jet_law.proofs.FractionValues.{one_over_is, one_over_nonzero}
use Rattle.line_jet.proofs.fractions.one_over.Goals as goal

pub returns-clause-value : goal.returns-clause-value
returns-clause-value c =
    let small : c.args.n < 2 ^ 64 = omega arith in
    let whole : to_z w128 (of_z w128 c.from.result) ≡ pos c.args.n = ap (λ z. to_z w128 (of_z w128 z)) c.from.ensures ∙ kept (pos c.args.n) (let h : c.args.n < 2 ^ 127 = omega arith in h) in
    subst (λ d. Represents (record { num = pos 1; den = d }) (germ.one_over c.args.n)) (sym whole) (one_over_is c.args.n c.requires small)

pub returns-clause-nonzero : goal.returns-clause-nonzero
returns-clause-nonzero c =
    let small : c.args.n < 2 ^ 64 = omega arith in
    let whole : to_z w128 (of_z w128 c.from.result) ≡ pos c.args.n = ap (λ z. to_z w128 (of_z w128 z)) c.from.ensures ∙ kept (pos c.args.n) (let h : c.args.n < 2 ^ 127 = omega arith in h) in
    subst (λ d. frac_value (record { num = pos 1; den = d }) ≢ rational_ops.zero) (sym whole) (one_over_nonzero c.args.n c.requires small)
