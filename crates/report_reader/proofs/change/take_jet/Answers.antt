use Rattle.std.proofs.Common.{refl, ap, ◌∙◌, List, ℕ, ◌++◌}
use Rattle.poly_text.specs.Polynomials.{jet_text}
use Rattle.cert_text.specs.Text.{word_line}
use Rattle.cert_text.specs.WellFormed.{IsJetOf}
use Rattle.report_reader.proofs.Fronts.{value_at, line_absent}
use Rattle.report_reader.proofs.Found.{some_is}
use Rattle.report_reader.proofs.CleanTexts.{jet_clean}
use Rattle.report_reader.proofs.change.take_jet.Goals as goal

pub returns-in-None-clause-none : goal.returns-in-None-clause-none
returns-in-None-clause-none c _ =
    let le = c.requires.frame.order_at_most in
    line_absent (IsJetOf c.args.n c.args.frame.order c.args.frame.algebra) jet_text c.args.word c.args.bytes.now (jet_clean c.args.n c.args.frame.order c.args.frame.algebra le) (c.in-None.ensures.none refl)

pub returns-in-Ok-None-clause-none : goal.returns-in-Ok-None-clause-none
returns-in-Ok-None-clause-none c _ =
    let le = c.requires.frame.order_at_most in
    value_at (IsJetOf c.args.n c.args.frame.order c.args.frame.algebra) jet_text c.args.word c.args.bytes.now c.in-Some.text.now c.in-Some.rest.now (jet_clean c.args.n c.args.frame.order c.args.frame.algebra le) c.in-Some.ensures.some.0 c.in-Some.ensures.some.1 (c.in-Ok-None.ensures.none c.in-Ok-None.field-0-is)

pub returns-in-Ok-Some-clause-some : goal.returns-in-Ok-Some-clause-some
returns-in-Ok-Some-clause-some c =
    let read = some_is c.in-Ok-Some.field-0 c.in-Ok-Some.jet _ c.in-Ok-Some.field-0-is c.in-Ok-Some.ensures.some in
    (read.0, ap (λ (z : List ℕ). word_line c.args.word z ++ c.in-Some.rest.now) read.1 ∙ c.in-Some.ensures.some.1)
