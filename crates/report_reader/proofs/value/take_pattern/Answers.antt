use Rattle.std.proofs.Common.{refl}
use Rattle.cert_text.specs.declared.word.Word.TheVariants as words
use Rattle.cert_text.specs.Names.{pattern_text}
use Rattle.text_reader.specs.Reading.{IsAny}
use Rattle.report_reader.proofs.Fronts.{value_at, line_absent}
use Rattle.report_reader.proofs.CleanTexts.{pattern_clean}
use Rattle.report_reader.proofs.value.take_pattern.Goals as goal

pub returns-in-None-clause-none : goal.returns-in-None-clause-none
returns-in-None-clause-none c _ = line_absent IsAny pattern_text words.Outside c.args.bytes.now pattern_clean (c.in-None.ensures.none refl)

pub returns-in-None-read_pattern-clause-none : goal.returns-in-None-read_pattern-clause-none
returns-in-None-read_pattern-clause-none c _ = value_at IsAny pattern_text words.Outside c.args.bytes.now c.in-Some.text.now c.in-Some.rest.now pattern_clean c.in-Some.ensures.some.0 c.in-Some.ensures.some.1 (c.in-None-read_pattern.ensures.none refl)
