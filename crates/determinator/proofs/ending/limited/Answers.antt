use Rattle.std.proofs.Common.{refl}
use Rattle.ring_law.proofs.Exits.{fault_handed_on}
use Rattle.determinator.proofs.Reporting.{limit_report}
use Rattle.determinator.proofs.ending.limited.Goals as goal

pub returns-in_err-carried-clause-range : goal.returns-in_err-carried-clause-range
returns-in_err-carried-clause-range c = fault_handed_on _ c.from_residual.ensures.1 (λ high n last o germ moves place. high n last o germ moves place) c.in_err-carried.ensures.range

pub returns-clause-report : goal.returns-clause-report
returns-clause-report c n o germ moves are three place =
    limit_report c.args.names.now n are c.args.corank o germ c.args.algebra c.requires.field o moves c.args.chain.now place c.in_ok-carried.carried (c.in_ok-carried.ensures.carried n o o germ moves place)
    refl three c.requires.few c.args.functional c.args.at c.requires.failure
