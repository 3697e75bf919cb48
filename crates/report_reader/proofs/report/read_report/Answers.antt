use Rattle.std.proofs.Common.{◌≡◌, ◌<◌, length, rules, arith, subst, ◌∙◌}
use Rattle.cert_text.specs.Text.{report_text}
use Rattle.cert_text.specs.WellFormed.{IsWellFormed}
use Rattle.report_reader.specs.Blocks.{IsHalt}
use Rattle.report_reader.specs.declared.halt.Halt.{Halt}
use Rattle.report_reader.proofs.WholeReports.{rest_bad, stop_bad}
use Rattle.report_reader.proofs.report.read_report.Goals as goal

pub returns-in-Stop-clause-bad_text : goal.returns-in-Stop-clause-bad_text
returns-in-Stop-clause-bad_text c = λ offset e.
    let P : Halt → Type 0 = λ h. IsHalt IsWellFormed report_text c.args.bytes.now h in
    let same : offset ≡ c.saturating_sub-offset.result = cc in
    stop_bad c.args.bytes.now c.in-Stop.left offset (subst P c.in-Stop.is c.in-Err.ensures.halt) (same ∙ c.saturating_sub-offset.ensures)

pub returns-then-not-is_empty-clause-bad_text : goal.returns-then-not-is_empty-clause-bad_text
returns-then-not-is_empty-clause-bad_text c = λ offset e.
    let read = c.in-Ok.ensures.ok in
    let some : 0 < length c.in-Ok.read.1.now = first_of (search rules, grind arith) in
    let same : offset ≡ c.saturating_sub-offset-then-not-is_empty.result = cc in
    rest_bad c.in-Ok.read.0 c.args.bytes.now c.in-Ok.read.1.now offset read.0 read.1 some (same ∙ c.saturating_sub-offset-then-not-is_empty.ensures)
