use Rattle.germ_cli.proofs.Findings.{bad_text_line}
use Rattle.germ_cli.proofs.finding.is_refused.Goals as goal
use Rattle.germ_cli.specs.Checking.{is_invalid}
use Rattle.std.proofs.Common.{ap, sym, ◌∙◌}

pub returns-in-Report : goal.returns-in-Report
returns-in-Report c = c.is_refusal.ensures ∙ ap is_invalid (sym c.in-Report.is)

pub returns-in-BadText : goal.returns-in-BadText
returns-in-BadText c = sym (ap is_invalid c.in-BadText.is ∙ bad_text_line c.in-BadText.offset)
