use Rattle.std.proofs.Common.{refl}
use Rattle.std.specs.Prelude.{IsTrue}
use Rattle.cert_text.specs.declared.word.Word.TheVariants as words
use Rattle.cert_text.specs.Text.{modulus_text}
use Rattle.cert_text.specs.WellFormed.{is_valid_modulus}
use Rattle.report_reader.proofs.Fronts.{value_at, line_absent}
use Rattle.report_reader.proofs.CleanTexts.{modulus_clean}
use Rattle.report_reader.proofs.value.take_modulus_line.Goals as goal

pub returns-in-None-clause-none : goal.returns-in-None-clause-none
returns-in-None-clause-none c _ = line_absent (λ m. IsTrue (is_valid_modulus c.args.a m)) modulus_text words.Modulus c.args.bytes.now (modulus_clean c.args.a) (c.in-None.ensures.none refl)

pub returns-in-None-read_modulus_line-clause-none : goal.returns-in-None-read_modulus_line-clause-none
returns-in-None-read_modulus_line-clause-none c _ = value_at (λ m. IsTrue (is_valid_modulus c.args.a m)) modulus_text words.Modulus c.args.bytes.now c.in-Some.text.now c.in-Some.rest.now (modulus_clean c.args.a) c.in-Some.ensures.some.0 c.in-Some.ensures.some.1 (c.in-None-read_modulus_line.ensures.none refl)
