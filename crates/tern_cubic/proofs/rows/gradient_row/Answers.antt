use Rattle.std.proofs.Common.{◌≡◌, ◌<◌, ◌+◌, ◌∙◌, cond, ltb, length, sym, ap, ap₂, subst, arith}
use Rattle.ring_theory.specs.Rational.{rational_ops}
use Rattle.ring_theory.proofs.RationalLaws.{rational_scalar_laws}
use Rattle.ring_law.specs.Fraction.{frac_value, rational_meaning}
use Rattle.poly_law.specs.Polynomials.{coefficient_in}
use Rattle.jet_law.specs.Terms.{exp_of}
use Rattle.lin_row.specs.Lines.{AllBelow, entry, unit_at}
use Rattle.jacobian_row.specs.Rows.{IsJetIn, polynomial_at}
use Rattle.tern_cubic.proofs.RowLemmas.{entry_more, jet_read, polynomial_read, coefficient_read}
use Rattle.tern_cubic.proofs.rows.gradient_row.Goals as goal

pub coef-x-requires-clause-jet : goal.coef-x-requires-clause-jet
coef-x-requires-clause-jet c =
    (jet_read c.args.gradient.now c.from.result c.loop-i.i c.index-gradient-from.result c.from.ensures (let n = c.requires.count in let h = c.loop-i-test.true in omega arith) c.index-gradient-from.is c.requires.jets).jet

pub coef-x-requires-clause-at_most_8_variables : goal.coef-x-requires-clause-at_most_8_variables
coef-x-requires-clause-at_most_8_variables c =
    let e = (jet_read c.args.gradient.now c.from.result c.loop-i.i c.index-gradient-from.result c.from.ensures (let n = c.requires.count in let h = c.loop-i-test.true in omega arith) c.index-gradient-from.is c.requires.jets).variables in omega arith

pub loop-i-preserved : goal.loop-i-preserved
loop-i-preserved c =
    let i = c.loop-i.i in
    let f = c.index-gradient-from.result in
    let column : c.from-in-loop-i.result ≡ i = c.from-in-loop-i.ensures in
    let inside : i < length c.args.gradient.now = (let n = c.requires.count in let h = c.loop-i-test.true in omega arith) in
    let jet : IsJetIn rational_meaning 3 f = jet_read c.args.gradient.now c.from.result i f c.from.ensures inside c.index-gradient-from.is c.requires.jets in
    let value : frac_value c.coef-x.result ≡ coefficient_in 3 rational_ops (polynomial_at 3 frac_value c.args.gradient.now i) (exp_of 3 c.args.a) =
    coefficient_read f c.args.a (frac_value c.coef-x.result) jet.variables c.requires.unused c.coef-x.ensures.in_variables
    ∙ ap (λ z. coefficient_in 3 rational_ops z (exp_of 3 c.args.a)) (polynomial_read c.args.gradient.now c.from.result i f c.from.ensures inside c.index-gradient-from.is) in
    record {
      line = c.in_ok-push_entry.ensures.line;
      below = subst (λ z. AllBelow (z + 1) c.push_entry.new.entries.items) column c.in_ok-push_entry.ensures.below;
      entries = λ d. c.in_ok-push_entry.ensures.value (unit_at rational_ops d)
          ∙ ap₂ rational_ops.add (c.loop-i.invariant.entries d) (ap₂ rational_ops.mul value (ap (unit_at rational_ops d) column))
          ∙ entry_more rational_ops rational_scalar_laws.ring (λ d. coefficient_in 3 rational_ops (polynomial_at 3 frac_value c.args.gradient.now d) (exp_of 3 c.args.a)) i d;
    }

pub returns-clause-below : goal.returns-clause-below
returns-clause-below c =
    let last = c.loop-i-test.false in
    let end = c.loop-i.auto.i-end in
    subst (AllBelow 3) (sym c.from_vec.ensures) (subst (λ z. AllBelow z c.loop-i.entries.items) (let e : c.loop-i.i ≡ 3 = omega arith in e) c.loop-i.invariant.below)

pub returns-clause-entries : goal.returns-clause-entries
returns-clause-entries c d =
    let last = c.loop-i-test.false in
    let end = c.loop-i.auto.i-end in
    ap (λ z. entry rational_meaning z d) c.from_vec.ensures ∙ c.loop-i.invariant.entries d
    ∙ ap (λ z. cond (ltb d z) (coefficient_in 3 rational_ops (polynomial_at 3 frac_value c.args.gradient.now d) (exp_of 3 c.args.a)) rational_ops.zero) (let e : c.loop-i.i ≡ 3 = omega arith in e)
