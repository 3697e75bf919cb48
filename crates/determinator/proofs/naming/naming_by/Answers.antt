use Rattle.std.proofs.Common.{◌≡◌, false, subst}
use Rattle.std.specs.Prelude.{MatchOption}
use Rattle.certificate.specs.Readings.{is_read_as, AreUnitsRead}
use Rattle.cert_text.specs.declared.report.Phase.TheVariants as phases
use Rattle.determinator.specs.Naming.{by_units, by_modulus, by_quotient}
use Rattle.determinator.proofs.Exits.{stop_high}
use Rattle.determinator.proofs.naming.naming_by.Goals as goal

pub returns-in-Err-clause-range : goal.returns-in-Err-clause-range
returns-in-Err-clause-range c = stop_high phases.Finish tt c.in-Err.fault _ c.in_phase.ensures c.in-Err.ensures.range _ (λ high. by_units high)

pub returns-in-Err-modulus_line-clause-range : goal.returns-in-Err-modulus_line-clause-range
returns-in-Err-modulus_line-clause-range c =
    let here = subst (λ o. MatchOption o (is_read_as c.args.family c.args.c.now ≡ false) (AreUnitsRead c.args.family c.args.c.now)) c.in-Ok-Some.field-0-is c.in-Ok-Some.ensures.units in
    stop_high phases.Finish tt c.in-Err-modulus_line.fault _ c.in_phase-in-Err-modulus_line.ensures c.in-Err-modulus_line.ensures.range _ (λ high. by_modulus here.read high)

pub returns-in-Err-milnor_algebra-clause-range : goal.returns-in-Err-milnor_algebra-clause-range
returns-in-Err-milnor_algebra-clause-range c =
    let here = subst (λ o. MatchOption o (is_read_as c.args.family c.args.c.now ≡ false) (AreUnitsRead c.args.family c.args.c.now)) c.in-Ok-Some.field-0-is c.in-Ok-Some.ensures.units in
    stop_high phases.Milnor tt c.in-Err-milnor_algebra.fault _ c.in_phase-in-Err-milnor_algebra.ensures c.in-Err-milnor_algebra.ensures.range _ (λ high. by_quotient here.read high)
