use Rattle.std.proofs.Common.{refl}
use Rattle.text_reader.proofs.FamilyNames.{no_comma, before_comma}
use Rattle.text_reader.proofs.family.number_before_comma.Goals as goal

pub returns-in-None-clause-none : goal.returns-in-None-clause-none
returns-in-None-clause-none c _ n rest lt e = no_comma n rest c.args.bytes.now lt (c.in-None.ensures.none refl) e

pub returns-in-None-read_u8-clause-none : goal.returns-in-None-read_u8-clause-none
returns-in-None-read_u8-clause-none c _ n rest lt e =
    let cut = c.in-Some.ensures.some in
    c.in-None-read_u8.ensures.none refl n lt (before_comma n rest c.in-Some.digits.now c.in-Some.rest.now c.args.bytes.now lt cut.1 cut.0 e)
