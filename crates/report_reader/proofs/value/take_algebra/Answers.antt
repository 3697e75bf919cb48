use Rattle.std.proofs.Common.{refl}
use Rattle.std.specs.Prelude.{IsTrue}
use Rattle.ext_algebra.specs.Algebra.{is_algebra}
use Rattle.cert_text.specs.declared.word.Word.TheVariants as words
use Rattle.cert_text.specs.Text.{algebra_text}
use Rattle.report_reader.proofs.Fronts.{value_at, line_absent}
use Rattle.report_reader.proofs.CleanTexts.{algebra_clean}
use Rattle.report_reader.proofs.value.take_algebra.Goals as goal

pub returns-in-None-clause-none : goal.returns-in-None-clause-none
returns-in-None-clause-none c _ = line_absent (λ a. IsTrue (is_algebra a)) algebra_text words.Algebra c.args.bytes.now algebra_clean (c.in-None.ensures.none refl)

pub returns-in-None-read_algebra-clause-none : goal.returns-in-None-read_algebra-clause-none
returns-in-None-read_algebra-clause-none c _ = value_at (λ a. IsTrue (is_algebra a)) algebra_text words.Algebra c.args.bytes.now c.in-Some.text.now c.in-Some.rest.now algebra_clean c.in-Some.ensures.some.0 c.in-Some.ensures.some.1 (c.in-None-read_algebra.ensures.none refl)
