use Rattle.std.proofs.Common.{[], refl, sym, ap, subst}
use Rattle.cert_law.specs.Fields.{zero_fraction}
use Rattle.text_reader.specs.Pieces.{joined, IsTaken}
use Rattle.text_reader.proofs.ComponentTexts.{taken_nothing, taken_absent, taken_present}
use Rattle.text_reader.proofs.piece.take_component.Goals as goal

pub returns-in_default : goal.returns-in_default
returns-in_default c = subst (λ z. IsTaken c.args.body.now zero_fraction z []) (sym (ap joined c.in_default.is)) (taken_nothing c.args.body.now)

pub returns-in-None : goal.returns-in-None
returns-in-None c =
    let split = c.split_before_sign.ensures in
    subst (λ z. IsTaken c.args.body.now zero_fraction z z) (sym (ap joined c.in-Some.is))
    (taken_absent c.args.body.now c.in-Some.sign c.in-Some.behind.now c.split_before_sign.result.0.now (joined c.split_before_sign.result.1) c.requires split.whole split.front split.starts (c.in-None.ensures.none refl))

pub returns-in-Some-read_piece : goal.returns-in-Some-read_piece
returns-in-Some-read_piece c =
    let split = c.split_before_sign.ensures in
    subst (λ z. IsTaken c.args.body.now c.in-Some-read_piece.q z (joined c.split_before_sign.result.1)) (sym (ap joined c.in-Some.is))
    (taken_present c.args.body.now c.in-Some-read_piece.q c.in-Some.sign c.in-Some.behind.now c.split_before_sign.result.0.now (joined c.split_before_sign.result.1) c.requires split.whole split.starts c.in-Some-read_piece.ensures.some)
