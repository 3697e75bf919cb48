-- The verdict by what was found.
use Rattle.std.proofs.Common.{sym, subst}
use Rattle.cert_text.specs.declared.report.Answer.TheVariants as answers
use Rattle.cert_text.specs.declared.report.Report.TheVariants as reports
use Rattle.report_law.specs.Verdicts.{IsVerdictOn}
use Rattle.cert_check.specs.Heights.{IsItemHigh}
use Rattle.cert_check.proofs.Findings.{limit_verdict_is}
use Rattle.cert_check.proofs.verdict.limit_verdict.Goals as goal

pub returns-in-Ok : goal.returns-in-Ok
returns-in-Ok c =
    subst (IsVerdictOn IsItemHigh (reports.Line c.args.line.now (answers.Limit c.args.r.now))) (sym c.verdict_of.ensures)
    (limit_verdict_is c.args.line.now c.args.r.now c.in-Ok.found c.in-Ok.ensures)
