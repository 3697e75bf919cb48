use Rattle.std.proofs.Common.{refl}
use Rattle.std.specs.Prelude.{IsTrue}
use Rattle.poly_text.specs.Polynomials.{name_text}
use Rattle.cert_text.specs.declared.word.Word.TheVariants as words
use Rattle.cert_text.specs.WellFormed.{is_valid_name}
use Rattle.report_reader.proofs.Fronts.{value_at, line_absent}
use Rattle.report_reader.proofs.CleanTexts.{name_clean}
use Rattle.report_reader.proofs.value.take_variable.Goals as goal

pub returns-in-None-clause-none : goal.returns-in-None-clause-none
returns-in-None-clause-none c _ = line_absent (λ name. IsTrue (is_valid_name name)) name_text words.NotCritical c.args.bytes.now name_clean (c.in-None.ensures.none refl)

pub returns-in-None-read_name-clause-none : goal.returns-in-None-read_name-clause-none
returns-in-None-read_name-clause-none c _ = value_at (λ name. IsTrue (is_valid_name name)) name_text words.NotCritical c.args.bytes.now c.in-Some.text.now c.in-Some.rest.now name_clean c.in-Some.ensures.some.0 c.in-Some.ensures.some.1 (c.in-None-read_name.ensures.none refl)
