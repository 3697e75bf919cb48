use Rattle.std.proofs.Common.{refl}
use Rattle.cert_text.specs.declared.word.Word.TheVariants as words
use Rattle.report_reader.specs.Functional.{IsHead}
use Rattle.report_reader.specs.Lines.{counted_monomial_text}
use Rattle.report_reader.proofs.Fronts.{line_absent, value_at}
use Rattle.report_reader.proofs.FunctionalLines.{head_clean, no_counted, no_head}
use Rattle.report_reader.proofs.functional.take_head.Goals as goal

pub returns-in-None-clause-none : goal.returns-in-None-clause-none
returns-in-None-clause-none c _ = line_absent (IsHead c.args.corank) counted_monomial_text words.Functional c.args.bytes.now (head_clean c.args.corank) (c.in-None.ensures.none refl)

pub returns-in-None-read_counted-clause-none : goal.returns-in-None-read_counted-clause-none
returns-in-None-read_counted-clause-none c _ =
    let cut = c.in-Some.ensures.some in
    value_at (IsHead c.args.corank) counted_monomial_text words.Functional c.args.bytes.now c.in-Some.text.now c.in-Some.rest.now (head_clean c.args.corank) cut.0 cut.1 (no_counted c.args.corank c.in-Some.text.now (c.in-None-read_counted.ensures.none refl))

pub returns-else-is_few-clause-none : goal.returns-else-is_few-clause-none
returns-else-is_few-clause-none c _ =
    let cut = c.in-Some.ensures.some in
    let read = c.in-Some-read_counted.ensures.some in
    value_at (IsHead c.args.corank) counted_monomial_text words.Functional c.args.bytes.now c.in-Some.text.now c.in-Some.rest.now (head_clean c.args.corank) cut.0 cut.1
    (no_head c.args.corank c.in-Some-read_counted.head c.in-Some.text.now read.0.0 read.0.1 read.1 (λ h. let few = c.is_few.ensures.1 h in let other = c.if-is_few.false in absurd (cc (few, other))))
