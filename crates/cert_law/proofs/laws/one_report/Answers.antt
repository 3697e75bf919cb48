use Rattle.std.proofs.Common.{[], ◌∙◌, sym}
use Rattle.std.proofs.lemmas.List.{append-nil}
use Rattle.cert_text.specs.Text.{report_text}
use Rattle.cert_law.proofs.Whole.{report_one}
use Rattle.cert_law.proofs.laws.one_report.Goals as goal

pub returns-clause-differ : goal.returns-clause-differ
returns-clause-differ c = λ r s wr ws e. (report_one r s [] [] wr ws (append-nil (report_text r) ∙ e ∙ sym (append-nil (report_text s)))).0

pub returns-clause-no_front : goal.returns-clause-no_front
returns-clause-no_front c = λ r s rest wr ws e. (report_one r s rest [] wr ws (e ∙ sym (append-nil (report_text s)))).0

pub returns-clause-read_once : goal.returns-clause-read_once
returns-clause-read_once c = report_one
