use Rattle.germ_cli.proofs.Lines.{plain, text_of}
use Rattle.germ_cli.proofs.answers.answer_text.Goals as goal

pub classify-requires-clause-one_line : goal.classify-requires-clause-one_line
classify-requires-clause-one_line c = plain c.args.line.now c.type_inv.line c.requires.unbroken

pub returns : goal.returns
returns c =
    let report = c.in_ok-report.ensures in
    text_of (λ text. text.items) c.args.limit c.args.line.now c.in_ok-report.report c.write_report.result (record { right = report.right; planned = report.planned }) c.write_report.ensures
