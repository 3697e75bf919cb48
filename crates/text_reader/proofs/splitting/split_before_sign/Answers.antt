use Rattle.text_reader.specs.Pieces.{is_sign}
use Rattle.text_reader.proofs.Places.{place_some, place_none}
use Rattle.text_reader.proofs.PieceTexts.{is_sign-true, no_signs}
use Rattle.text_reader.proofs.splitting.split_before_sign.Goals as goal

pub returns-in-None-clause-front : goal.returns-in-None-clause-front
returns-in-None-clause-front c = no_signs c.args.bytes.now (place_none is_sign c.args.bytes.now c.in-None.ensures.at)

pub returns-in-Some-clause-front : goal.returns-in-Some-clause-front
returns-in-Some-clause-front c = no_signs _ (place_some is_sign c.args.bytes.now c.in-Some.at c.in-Some.ensures.at).before

pub returns-in-Some-clause-starts : goal.returns-in-Some-clause-starts
returns-in-Some-clause-starts c = is_sign-true _ (place_some is_sign c.args.bytes.now c.in-Some.at c.in-Some.ensures.at).passes
