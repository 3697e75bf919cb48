use Rattle.std.proofs.Common.{◌∙◌, [], get_or, map, take_all, sym, ap, subst, arith}
use Rattle.ring_theory.specs.Rational.{Rational}
use Rattle.ring_law.specs.Fraction.{frac_value, rational_meaning}
use Rattle.ring_law.proofs.Exits.{fault_handed_on}
use Rattle.poly_law.specs.Polynomials.{Polynomial}
use Rattle.mono_exp.specs.Exponents.{exponents}
use Rattle.jet_law.specs.Terms.{poly_of}
use Rattle.lin_row.specs.Lines.{entry}
use Rattle.jacobian_row.specs.Rows.{ArePartials}
use Rattle.tern_cubic.specs.Rows.{HaveEntries}
use Rattle.tern_cubic.proofs.RowLemmas.{high_in_three, partials_in_three, no_rows, gradient_at, gradient_is, gradient_more, partial_rows_are}
use Rattle.tern_cubic.proofs.rows.partial_rows.Goals as goal

pub partials-requires-clause-jet : goal.partials-requires-clause-jet
partials-requires-clause-jet c = c.requires.jet

pub partials-requires-clause-at_most_8_variables : goal.partials-requires-clause-at_most_8_variables
partials-requires-clause-at_most_8_variables c = let e = c.requires.variables in omega arith

pub returns-in_err-gradient-clause-range : goal.returns-in_err-gradient-clause-range
returns-in_err-gradient-clause-range c = fault_handed_on _ c.from_residual.ensures.1 (high_in_three c.args.f.now c.requires) c.in_err-gradient.ensures.range

pub loop-a-init : goal.loop-a-init
loop-a-init c = no_rows 3 c.new-rows.result.items c.new-rows.ensures.items

pub loop-a-preserved : goal.loop-a-preserved
loop-a-preserved c =
    let f : Polynomial 3 Rational = poly_of 3 frac_value c.args.f.now.terms in
    let are : ArePartials rational_meaning 3 f c.deref.result.now = subst (ArePartials rational_meaning 3 f) (sym c.deref.ensures.value)
    (partials_in_three c.args.f.now c.requires c.in_ok-gradient.gradient.items c.in_ok-gradient.ensures.partials) in
    gradient_more f c.deref-a-items.result.now c.loop-a.a-index (record { e = [] }) c.loop-a.rows.items _ c.in_ok-row.row c.loop-a-test.true c.in_ok-push.ensures.items c.loop-a.invariant
    c.in_ok-row.ensures.line c.in_ok-row.ensures.below
    (gradient_is f c.deref.result.now are (get_or c.deref-a-items.result.now c.loop-a.a-index (record { e = [] })) (entry rational_meaning c.in_ok-row.row.entries) c.in_ok-row.ensures.entries)

pub returns-clause-rows : goal.returns-clause-rows
returns-clause-rows c =
    let last = c.loop-a-test.false in
    let f : Polynomial 3 Rational = poly_of 3 frac_value c.args.f.now.terms in
    subst (λ z. HaveEntries 3 z c.loop-a.rows.items)
    (ap (map (λ a. gradient_at f (exponents 3 a.e))) (take_all c.loop-a.a-index c.deref-a-items.result.now (omega arith) ∙ c.deref-a-items.ensures.value)
    ∙ partial_rows_are f c.in_ok-all.all.items c.in_ok-all.ensures.list)
    c.loop-a.invariant
