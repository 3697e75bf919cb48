use Rattle.std.proofs.Common.{subst}
use Rattle.ext_algebra.specs.declared.algebra.Algebra.TheVariants as algebras
use Rattle.coord_change.specs.Chains.{carried_in}
use Rattle.determinacy.specs.declared.row.MatherTest.TheVariants as mather
use Rattle.cert_text.specs.declared.report.Phase.TheVariants as phases
use Rattle.plan_law.specs.Run.{brought, searching}
use Rattle.determinator.specs.Jets.{IsTestedBy}
use Rattle.determinator.proofs.Exits.{stop_high, stop_handed_on}
use Rattle.determinator.proofs.TestLemmas
use Rattle.determinator.proofs.Turning.{finishes, high_in_finish, high_in_test}
use Rattle.determinator.proofs.turn.turn_searching.Goals as goal

pub returns-in-Err-clause-range : goal.returns-in-Err-clause-range
returns-in-Err-clause-range g c =
    stop_high phases.Mather tt c.in-Err.fault _ c.in_phase.ensures c.in-Err.ensures.range _
    (λ high n last o germ moves place.
    high_in_test n c.args.corank last germ o (searching moves) (brought n c.args.corank germ algebras.Rational o moves) (high n last o germ moves place))

pub returns-in_err-answer-in-Holds-clause-range : goal.returns-in_err-answer-in-Holds-clause-range
returns-in_err-answer-in-Holds-clause-range g c =
    let tested = subst (IsTestedBy algebras.Rational c.args.corank (carried_in c.args.chain)) c.in-Holds.is c.in-Ok.ensures.tested in
    stop_handed_on _ c.from_residual.ensures.1
    (λ p high n last o germ moves place.
    high_in_finish n c.args.corank last germ p o (searching moves) (brought n c.args.corank germ algebras.Rational o moves)
    (TestLemmas.tested_of n c.args.corank last germ algebras.Rational o moves c.args.chain place tested.listed (mather.Holds c.in-Holds.rows) tested.answers)
    (high n last o germ moves place))
    c.in_err-answer-in-Holds.ensures.range

pub returns-in_ok-answer-in-Holds-clause-turned : goal.returns-in_ok-answer-in-Holds-clause-turned
returns-in_ok-answer-in-Holds-clause-turned g c n last o germ moves are place =
    let tested = subst (IsTestedBy algebras.Rational c.args.corank (carried_in c.args.chain)) c.in-Holds.is c.in-Ok.ensures.tested in
    finishes n c.args.corank last germ c.args.names.now o (searching moves) (brought n c.args.corank germ algebras.Rational o moves) c.in_ok-answer-in-Holds.answer
    (TestLemmas.tested_of n c.args.corank last germ algebras.Rational o moves c.args.chain place tested.listed (mather.Holds c.in-Holds.rows) tested.answers)
    (c.in_ok-answer-in-Holds.ensures.report n last o germ moves are place)
