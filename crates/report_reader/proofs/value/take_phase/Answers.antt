use Rattle.std.proofs.Common.{refl}
use Rattle.cert_text.specs.declared.word.Word.TheVariants as words
use Rattle.cert_text.specs.Names.{phase_text}
use Rattle.text_reader.specs.Reading.{IsAny}
use Rattle.report_reader.proofs.Fronts.{value_at, line_absent}
use Rattle.report_reader.proofs.CleanTexts.{phase_clean}
use Rattle.report_reader.proofs.value.take_phase.Goals as goal

pub returns-in-None-clause-none : goal.returns-in-None-clause-none
returns-in-None-clause-none c _ = line_absent IsAny phase_text words.Range c.args.bytes.now phase_clean (c.in-None.ensures.none refl)

pub returns-in-None-read_phase-clause-none : goal.returns-in-None-read_phase-clause-none
returns-in-None-read_phase-clause-none c _ = value_at IsAny phase_text words.Range c.args.bytes.now c.in-Some.text.now c.in-Some.rest.now phase_clean c.in-Some.ensures.some.0 c.in-Some.ensures.some.1 (c.in-None-read_phase.ensures.none refl)
