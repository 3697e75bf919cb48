use Rattle.std.proofs.Common.{◌≡◌, ℕ, ◌<◌, ◌+◌, ◌∙◌, [], cond, ltb, length, get_or, sym, ap, ap₂, subst, arith}
use Rattle.ring_theory.specs.Rational.{Rational, rational_ops}
use Rattle.ring_theory.proofs.RationalLaws.{rational_scalar_laws}
use Rattle.ring_law.specs.Fraction.{rational_meaning}
use Rattle.poly_law.specs.Polynomials.{coefficient_in, term_in, times_in}
use Rattle.jet_law.specs.Terms.{exp_of}
use Rattle.lin_row.specs.Lines.{AllBelow, entry, unit_at}
use Rattle.tern_cubic.specs.Rows.{monomial_at}
use Rattle.tern_cubic.proofs.RowLemmas.{entry_more, monomial_read}
use Rattle.tern_cubic.proofs.rows.product_row.Goals as goal

pub product_coefficient-x-requires-clause-unused : goal.product_coefficient-x-requires-clause-unused
product_coefficient-x-requires-clause-unused c =
    c.requires.unused c.from.result _ (let e = c.from.ensures in let n = c.requires.count in let h = c.loop-j-test.true in omega arith)

pub loop-j-preserved : goal.loop-j-preserved
loop-j-preserved c =
    let j = c.loop-j.j in
    let column : c.from-in-loop-j.result ≡ j = c.from-in-loop-j.ensures in
    let inside : j < length c.args.quartics.now = (let n = c.requires.count in let h = c.loop-j-test.true in omega arith) in
    let here : get_or c.args.quartics.now c.from.result (record { e = [] }) ≡ monomial_at c.args.quartics.now j = monomial_read c.args.quartics.now c.from.result j (record { e = [] }) c.from.ensures inside in
    record {
      line = c.in_ok-push_entry.ensures.line;
      below = subst (λ z. AllBelow (z + 1) c.push_entry.new.entries.items) column c.in_ok-push_entry.ensures.below;
      entries = λ f same d.
          let w : ℕ → Rational = λ d. coefficient_in 3 rational_ops (times_in 3 rational_ops (term_in 3 rational_ops (exp_of 3 c.args.factor)) f) (exp_of 3 (monomial_at c.args.quartics.now d)) in
          c.in_ok-push_entry.ensures.value (unit_at rational_ops d)
          ∙ ap₂ rational_ops.add (c.loop-j.invariant.entries f same d)
          (ap₂ rational_ops.mul
          (c.product_coefficient-x.ensures.value f same ∙ ap (λ z. coefficient_in 3 rational_ops (times_in 3 rational_ops (term_in 3 rational_ops (exp_of 3 c.args.factor)) f) (exp_of 3 z)) here)
          (ap (unit_at rational_ops d) column))
          ∙ entry_more rational_ops rational_scalar_laws.ring w j d;
    }

pub returns-clause-below : goal.returns-clause-below
returns-clause-below c =
    let last = c.loop-j-test.false in
    let end = c.loop-j.auto.j-end in
    subst (AllBelow 15) (sym c.from_vec.ensures) (subst (λ z. AllBelow z c.loop-j.entries.items) (let e : c.loop-j.j ≡ 15 = omega arith in e) c.loop-j.invariant.below)

pub returns-clause-entries : goal.returns-clause-entries
returns-clause-entries c f same d =
    let last = c.loop-j-test.false in
    let end = c.loop-j.auto.j-end in
    ap (λ z. entry rational_meaning z d) c.from_vec.ensures ∙ c.loop-j.invariant.entries f same d
    ∙ ap (λ z. cond (ltb d z) (coefficient_in 3 rational_ops (times_in 3 rational_ops (term_in 3 rational_ops (exp_of 3 c.args.factor)) f) (exp_of 3 (monomial_at c.args.quartics.now d))) rational_ops.zero)
    (let e : c.loop-j.j ≡ 15 = omega arith in e)
