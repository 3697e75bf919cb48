use Rattle.std.proofs.Common.{◌≡◌, ◌∙◌, ◌<◌, [], length, map, take_all, refl, sym, ap, subst, arith}
use Rattle.ring_theory.specs.Rational.{Rational, rational_ops}
use Rattle.ring_law.specs.Fraction.{frac_value, rational_meaning}
use Rattle.ring_law.proofs.Exits.{fault_handed_on}
use Rattle.poly_law.specs.Polynomials.{Polynomial, derivative_in}
use Rattle.mono_exp.specs.declared.exponent.Exp.{Exp}
use Rattle.mono_exp.specs.Exponents.{exponents}
use Rattle.jet_law.specs.Terms.{poly_of}
use Rattle.lin_row.specs.Lines.{entry}
use Rattle.jacobian_row.specs.Multiples.{AreMultiples, pair_of}
use Rattle.jacobian_row.specs.Multipliers.{multiple_at}
use Rattle.jacobian_row.specs.Rows.{ArePartials}
use Rattle.jacobian_row.proofs.RowFacts.{variables_within}
use Rattle.tern_cubic.specs.Rows.{HaveEntries}
use Rattle.tern_cubic.proofs.RowLemmas.{high_in_three, partials_in_three, jets_of, jet_read, partial_same, no_rows, some_factor, fifteen, product_at, product_is_row, product_more, product_rows_are}
use Rattle.tern_cubic.proofs.rows.product_rows.Goals as goal

pub partials-requires-clause-jet : goal.partials-requires-clause-jet
partials-requires-clause-jet c = c.requires.jet

pub partials-requires-clause-at_most_8_variables : goal.partials-requires-clause-at_most_8_variables
partials-requires-clause-at_most_8_variables c = let e = c.requires.variables in omega arith

pub returns-in_err-gradient-clause-range : goal.returns-in_err-gradient-clause-range
returns-in_err-gradient-clause-range c = fault_handed_on _ c.from_residual.ensures.1 (high_in_three c.args.f.now c.requires) c.in_err-gradient.ensures.range

pub loop-u-init : goal.loop-u-init
loop-u-init c = no_rows 15 c.new-rows.result.items c.new-rows.ensures.items

pub index-partial-requires : goal.index-partial-requires
index-partial-requires c =
    let us = c.deref-u-items.result.now in
    let multiples : AreMultiples 3 2 2 us = subst (AreMultiples 3 2 2) (sym c.deref-u-items.ensures.value) c.in_ok-all.ensures.multiples in
    let are = partials_in_three c.args.f.now c.requires c.in_ok-gradient.gradient.items c.in_ok-gradient.ensures.partials in
    let low : (multiple_at us c.loop-u.u-index).variable < 3 = variables_within 3 2 2 us multiples c.loop-u.u-index (record { factor = record { e = [] }; variable = 0 }) c.loop-u-test.true in
    let e : c.from.result ≡ (multiple_at us c.loop-u.u-index).variable = c.from.ensures in
    let n = are.count in
    let size = c.in_ok-gradient.gradient.ok.0 in
    omega arith

pub product_row-requires-clause-jet : goal.product_row-requires-clause-jet
product_row-requires-clause-jet c =
    let us = c.deref-u-items.result.now in
    let multiples : AreMultiples 3 2 2 us = subst (AreMultiples 3 2 2) (sym c.deref-u-items.ensures.value) c.in_ok-all.ensures.multiples in
    let are = partials_in_three c.args.f.now c.requires c.in_ok-gradient.gradient.items c.in_ok-gradient.ensures.partials in
    let low : (multiple_at us c.loop-u.u-index).variable < 3 = variables_within 3 2 2 us multiples c.loop-u.u-index (record { factor = record { e = [] }; variable = 0 }) c.loop-u-test.true in
    let e : c.from.result ≡ (multiple_at us c.loop-u.u-index).variable = c.from.ensures in
    let n = are.count in
    jet_read c.in_ok-gradient.gradient.items c.from.result c.from.result c.index-partial.result.now refl (omega arith) c.index-partial.ensures
    (jets_of (poly_of 3 frac_value c.args.f.now.terms) c.in_ok-gradient.gradient.items are)

pub product_row-requires-clause-count : goal.product_row-requires-clause-count
product_row-requires-clause-count c = ap length c.deref.ensures.value ∙ fifteen c.in_ok-quartics.quartics.items c.in_ok-quartics.ensures.list

pub loop-u-preserved : goal.loop-u-preserved
loop-u-preserved c =
    let f : Polynomial 3 Rational = poly_of 3 frac_value c.args.f.now.terms in
    let us = c.deref-u-items.result.now in
    let k = c.loop-u.u-index in
    let u = multiple_at us k in
    let multiples : AreMultiples 3 2 2 us = subst (AreMultiples 3 2 2) (sym c.deref-u-items.ensures.value) c.in_ok-all.ensures.multiples in
    let are : ArePartials rational_meaning 3 f c.in_ok-gradient.gradient.items = partials_in_three c.args.f.now c.requires c.in_ok-gradient.gradient.items c.in_ok-gradient.ensures.partials in
    let low : u.variable < 3 = variables_within 3 2 2 us multiples k (record { factor = record { e = [] }; variable = 0 }) c.loop-u-test.true in
    let list = ap (map (λ (a : Exp). exponents 3 a.e)) c.deref.ensures.value ∙ c.in_ok-quartics.ensures.list in
    product_more f us k (record { factor = record { e = [] }; variable = 0 }) c.loop-u.rows.items _ c.in_ok-row.row c.loop-u-test.true c.in_ok-push.ensures.items c.loop-u.invariant
    c.in_ok-row.ensures.line c.in_ok-row.ensures.below
    (product_is_row f c.deref.result.now u.factor u.variable (entry rational_meaning c.in_ok-row.row.entries) list
    (some_factor us multiples k (record { factor = record { e = [] }; variable = 0 }) c.loop-u-test.true)
    (c.in_ok-row.ensures.entries (derivative_in 3 rational_ops u.variable f)
    (partial_same f c.in_ok-gradient.gradient.items are c.from.result u.variable c.index-partial.result.now c.from.ensures low c.index-partial.ensures)))

pub returns-clause-rows : goal.returns-clause-rows
returns-clause-rows c =
    let last = c.loop-u-test.false in
    let f : Polynomial 3 Rational = poly_of 3 frac_value c.args.f.now.terms in
    subst (λ z. HaveEntries 15 z c.loop-u.rows.items)
    (ap (map (λ u. product_at f (pair_of 3 u))) (take_all c.loop-u.u-index c.deref-u-items.result.now (omega arith) ∙ c.deref-u-items.ensures.value)
    ∙ product_rows_are f c.in_ok-all.all.items c.in_ok-all.ensures.multiples.list)
    c.loop-u.invariant
