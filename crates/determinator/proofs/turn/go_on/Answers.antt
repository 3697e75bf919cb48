use Rattle.std.proofs.Common.{◌≡◌, ap, arith}
use Rattle.ring_law.specs.declared.fraction.Frac.{Frac}
use Rattle.ext_algebra.specs.declared.algebra.Algebra.TheVariants as algebras
use Rattle.ext_algebra.specs.declared.algebra.Ext.{Ext}
use Rattle.jet_poly.specs.JetTerms.{JetTerms}
use Rattle.determinacy.specs.declared.row.MatherTest.TheVariants as mather
use Rattle.cert_text.specs.declared.report.Phase.TheVariants as phases
use Rattle.plan_law.specs.Run.{brought, searching}
use Rattle.determinator.specs.Steps.{IsOpenedNext, IsTurnedSearch}
use Rattle.determinator.specs.Turns.{goes}
use Rattle.determinator.proofs.Exits.{if_ok, on_stop, stop_high}
use Rattle.determinator.proofs.TestLemmas
use Rattle.determinator.proofs.Turning.{high_in_opening, high_in_stop, limited_at, reaches_limit}
use Rattle.determinator.proofs.turn.go_on.Goals as goal

pub returns-then-order-clause-turned : goal.returns-then-order-clause-turned
returns-then-order-clause-turned g c =
    let order = c.order.ensures in
    let germ_order = ap (λ (f : JetTerms (Ext Frac)). f.order) c.germ.ensures in
    let last_order = c.order-2.ensures in
    let below = c.if-order.true in
    if_ok {P = IsOpenedNext c.args.corank c.args.chain} {Q = IsTurnedSearch c.args.corank c.args.chain c.args.names.now} c.open_searching.result
    (λ next opened n last o germ moves are place.
    let at = place.chain_is.order_is in
    let top = place.chain_is.germ_is.order in
    goes (omega arith)
    (TestLemmas.tested_of n c.args.corank last germ algebras.Rational o moves c.args.chain place c.requires.failure.listed (mather.Fails c.args.functional c.args.at) c.requires.failure.answers)
    (opened c.args.names.now n last o germ moves place))
    c.open_searching.ensures.opened

pub returns-then-order-clause-range : goal.returns-then-order-clause-range
returns-then-order-clause-range g c =
    let order = c.order.ensures in
    let germ_order = ap (λ (f : JetTerms (Ext Frac)). f.order) c.germ.ensures in
    let last_order = c.order-2.ensures in
    let below = c.if-order.true in
    on_stop _
    (λ p high n last o germ moves place.
    let at = place.chain_is.order_is in
    let top = place.chain_is.germ_is.order in
    high_in_opening n c.args.corank last germ p o (searching moves) (brought n c.args.corank germ algebras.Rational o moves) (omega arith)
    (TestLemmas.tested_of n c.args.corank last germ algebras.Rational o moves c.args.chain place c.requires.failure.listed (mather.Fails c.args.functional c.args.at) c.requires.failure.answers)
    (high n last o germ moves place))
    c.open_searching.ensures.range

pub returns-in-Ok-clause-turned : goal.returns-in-Ok-clause-turned
returns-in-Ok-clause-turned g c n last o germ moves are place =
    let order = c.order.ensures in
    let germ_order = ap (λ (f : JetTerms (Ext Frac)). f.order) c.germ.ensures in
    let last_order = c.order-2.ensures in
    let not_below = c.if-order.false in
    let at = place.chain_is.order_is in
    let top = place.chain_is.germ_is.order in
    let within = place.chain_is.order_at_most_last in
    let three = c.requires.last_at_least_3 in
    let at_last : o ≡ last = omega arith in
    reaches_limit n c.args.corank last germ c.args.names.now o (searching moves) (brought n c.args.corank germ algebras.Rational o moves) c.in-Ok.answer at_last
    (TestLemmas.tested_of n c.args.corank last germ algebras.Rational o moves c.args.chain place c.requires.failure.listed (mather.Fails c.args.functional c.args.at) c.requires.failure.answers)
    (limited_at n c.args.corank germ o moves c.args.names.now last at_last c.args.chain c.in-Ok.answer (c.in-Ok.ensures.report n o germ moves are (omega arith)) place)

pub returns-clause-range : goal.returns-clause-range
returns-clause-range g c =
    let order = c.order.ensures in
    let germ_order = ap (λ (f : JetTerms (Ext Frac)). f.order) c.germ.ensures in
    let last_order = c.order-2.ensures in
    let not_below = c.if-order.false in
    stop_high phases.Finish tt c.in-Err.fault _ c.in_phase.ensures c.in-Err.ensures.range _
    (λ high n last o germ moves place.
    let at = place.chain_is.order_is in
    let top = place.chain_is.germ_is.order in
    let within = place.chain_is.order_at_most_last in
    high_in_stop n c.args.corank last germ phases.Finish o (searching moves) (brought n c.args.corank germ algebras.Rational o moves) (omega arith)
    (TestLemmas.tested_of n c.args.corank last germ algebras.Rational o moves c.args.chain place c.requires.failure.listed (mather.Fails c.args.functional c.args.at) c.requires.failure.answers)
    (high n last o germ moves place))
