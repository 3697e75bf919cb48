use Rattle.std.proofs.Common.{sym, ap, subst, arith}
use Rattle.cert_text.specs.declared.report.Phase.TheVariants as phases
use Rattle.cert_text.specs.declared.report.Carried.{Carried}
use Rattle.ext_algebra.specs.declared.algebra.Algebra.TheVariants as algebras
use Rattle.plan_law.specs.Run.{brought, finished, searching}
use Rattle.determinator.specs.Reports.{AreNames, IsReport}
use Rattle.determinator.proofs.Exits.{stop_high, stop_handed_on}
use Rattle.determinator.proofs.Finishing
use Rattle.determinator.proofs.finish.finish_searching.Goals as goal

pub returns-in-Err-clause-range : goal.returns-in-Err-clause-range
returns-in-Err-clause-range c =
    stop_high phases.Finish tt c.in-Err.fault _ c.in_phase.ensures c.in-Err.ensures.range _
    (λ high n last o germ moves place. Finishing.high_composing n c.args.corank last germ o moves c.requires.few (high n last o germ moves place))

pub naming_of-requires-clause-well_formed : goal.naming_of-requires-clause-well_formed
naming_of-requires-clause-well_formed c =
    let h = c.requires.placed in
    (Finishing.germ_is h.n c.args.corank h.last h.germ h.o h.moves c.requires.few c.args.names.now (subst (λ z. AreNames z c.args.names.now) h.is.chain_is.germ_is.variables c.requires.names) c.requires.field c.args.chain.now h.is
    c.in-Ok.carried (c.in-Ok.ensures.carried h.n h.last h.o h.germ h.moves h.is)).well_formed

pub naming_of-requires-clause-field : goal.naming_of-requires-clause-field
naming_of-requires-clause-field c =
    let h = c.requires.placed in
    (Finishing.germ_is h.n c.args.corank h.last h.germ h.o h.moves c.requires.few c.args.names.now (subst (λ z. AreNames z c.args.names.now) h.is.chain_is.germ_is.variables c.requires.names) c.requires.field c.args.chain.now h.is
    c.in-Ok.carried (c.in-Ok.ensures.carried h.n h.last h.o h.germ h.moves h.is)).field

pub naming_of-requires-clause-few : goal.naming_of-requires-clause-few
naming_of-requires-clause-few c =
    let h = c.requires.placed in
    let low = c.requires.few in
    let e = ap (λ (q : Carried). q.corank) (c.in-Ok.ensures.carried h.n h.last h.o h.germ h.moves h.is).is in
    omega arith

pub naming_of-requires-clause-low : goal.naming_of-requires-clause-low
naming_of-requires-clause-low c =
    let h = c.requires.placed in
    Finishing.residual_low h.n c.args.corank h.last h.germ h.o h.moves c.requires.few c.args.names.now (subst (λ z. AreNames z c.args.names.now) h.is.chain_is.germ_is.variables c.requires.names) c.requires.field c.args.chain.now h.is
    c.in-Ok.carried (c.in-Ok.ensures.carried h.n h.last h.o h.germ h.moves h.is)

pub returns-in_err-naming-clause-range : goal.returns-in_err-naming-clause-range
returns-in_err-naming-clause-range c =
    stop_handed_on _ c.from_residual.ensures.1
    (λ ph high n last o germ moves place.
    Finishing.high_by n c.args.corank last germ o moves c.requires.few c.args.names.now (subst (λ z. AreNames z c.args.names.now) place.chain_is.germ_is.variables c.requires.names) c.requires.field c.args.chain.now place
    c.in-Ok.carried (c.in-Ok.ensures.carried n last o germ moves place) ph high)
    c.in_err-naming.ensures.range

pub returns-clause-report : goal.returns-clause-report
returns-clause-report c n last o germ moves are place =
    subst (λ r. IsReport c.args.names.now n last germ r (finished n c.args.corank germ o (searching moves) (brought n c.args.corank germ algebras.Rational o moves))) (sym c.named_by.ensures.answer)
    (Finishing.report_by n c.args.corank last germ o moves c.requires.few c.args.names.now are c.requires.field c.args.chain.now place
    c.in-Ok.carried (c.in-Ok.ensures.carried n last o germ moves place) c.args.rows c.requires.rows c.in_ok-naming.naming c.in_ok-naming.ensures.naming)
