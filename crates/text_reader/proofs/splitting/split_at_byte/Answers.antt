use Rattle.text_reader.proofs.Places.{byte_some, byte_none}
use Rattle.text_reader.proofs.splitting.split_at_byte.Goals as goal

pub returns-in-Some-clause-some : goal.returns-in-Some-clause-some
returns-in-Some-clause-some c = byte_some c.args.byte c.args.bytes.now c.in-Some.at c.in-Some.ensures.at

pub returns-in-None-clause-none : goal.returns-in-None-clause-none
returns-in-None-clause-none c _ = byte_none c.args.byte c.args.bytes.now c.in-None.ensures.at
