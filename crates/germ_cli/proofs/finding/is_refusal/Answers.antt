use Rattle.germ_cli.proofs.Findings.{invalid_line, range_line, unchecked_line, valid_line}
use Rattle.germ_cli.proofs.finding.is_refusal.Goals as goal
use Rattle.germ_cli.specs.Checking.{is_invalid}
use Rattle.report_law.specs.declared.verdict.Finding.TheVariants as findings
use Rattle.report_law.specs.declared.verdict.Verdict.{Verdict}
use Rattle.std.proofs.Common.{ap, sym, ◌∙◌}

pub returns-in-Valid : goal.returns-in-Valid
returns-in-Valid c = sym (ap (λ (v : Verdict). is_invalid (findings.Report v)) c.in-Valid.is ∙ valid_line)

pub returns-in-Unchecked : goal.returns-in-Unchecked
returns-in-Unchecked c = sym (ap (λ (v : Verdict). is_invalid (findings.Report v)) c.in-Unchecked.is ∙ unchecked_line)

pub returns-in-Invalid : goal.returns-in-Invalid
returns-in-Invalid c = sym (ap (λ (v : Verdict). is_invalid (findings.Report v)) c.in-Invalid.is ∙ invalid_line c.in-Invalid.item)

pub returns-in-Range : goal.returns-in-Range
returns-in-Range c = sym (ap (λ (v : Verdict). is_invalid (findings.Report v)) c.in-Range.is ∙ range_line c.in-Range.item)
