use Rattle.report_jet.proofs.ReportJets.{algebra_valid}
use Rattle.probe.proofs.words.Words.algebra.Goals as goal

pub returns-in-Some : goal.returns-in-Some
returns-in-Some c = algebra_valid c.in-Some.algebra c.in-Some.ensures.some.0
