use Rattle.report_jet.proofs.ReportJets.{element_valid}
use Rattle.probe.proofs.scalars.element_of.Goals as goal

pub returns-in-Some : goal.returns-in-Some
returns-in-Some c = element_valid c.args.algebra c.in-Some.e ((rw c.in-Some.is at c.read_element.ensures.some).0)
