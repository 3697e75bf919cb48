use Rattle.std.proofs.Common.{refl}
use Rattle.cert_text.specs.declared.word.Word.TheVariants as words
use Rattle.report_reader.specs.Lines.{IsPlace, place_text}
use Rattle.report_reader.proofs.Fronts.{value_at, line_absent}
use Rattle.report_reader.proofs.CleanTexts.{place_clean}
use Rattle.report_reader.proofs.value.take_place.Goals as goal

pub returns-in-None-clause-none : goal.returns-in-None-clause-none
returns-in-None-clause-none c _ = line_absent IsPlace place_text words.Syntax c.args.bytes.now place_clean (c.in-None.ensures.none refl)

pub returns-in-None-read_place-clause-none : goal.returns-in-None-read_place-clause-none
returns-in-None-read_place-clause-none c _ = value_at IsPlace place_text words.Syntax c.args.bytes.now c.in-Some.text.now c.in-Some.rest.now place_clean c.in-Some.ensures.some.0 c.in-Some.ensures.some.1 (c.in-None-read_place.ensures.none refl)
