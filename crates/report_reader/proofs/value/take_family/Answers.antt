use Rattle.std.proofs.Common.{refl}
use Rattle.cert_text.specs.declared.word.Word.TheVariants as words
use Rattle.cert_text.specs.Names.{family_text}
use Rattle.cert_text.specs.WellFormed.{IsFamily}
use Rattle.report_reader.proofs.Fronts.{value_at, line_absent}
use Rattle.report_reader.proofs.CleanTexts.{family_clean}
use Rattle.report_reader.proofs.value.take_family.Goals as goal

pub returns-in-None-clause-none : goal.returns-in-None-clause-none
returns-in-None-clause-none c _ = line_absent IsFamily family_text words.Named c.args.bytes.now family_clean (c.in-None.ensures.none refl)

pub returns-in-None-read_family-clause-none : goal.returns-in-None-read_family-clause-none
returns-in-None-read_family-clause-none c _ = value_at IsFamily family_text words.Named c.args.bytes.now c.in-Some.text.now c.in-Some.rest.now family_clean c.in-Some.ensures.some.0 c.in-Some.ensures.some.1 (c.in-None-read_family.ensures.none refl)
