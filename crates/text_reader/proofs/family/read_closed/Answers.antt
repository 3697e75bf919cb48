use Rattle.text_reader.proofs.FamilyNames.{before_close, not_empty}
use Rattle.text_reader.proofs.family.read_closed.Goals as goal

pub returns-else-is_empty-clause-none : goal.returns-else-is_empty-clause-none
returns-else-is_empty-clause-none c _ n lt e =
    let cut = c.in-Some.ensures.some in
    not_empty c.in-Some.rest.now c.is_empty.result c.is_empty.ensures c.if-is_empty.false (before_close n c.in-Some.digits.now c.in-Some.rest.now c.args.bytes.now lt cut.1 cut.0 e).1
