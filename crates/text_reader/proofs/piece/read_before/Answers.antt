use Rattle.std.proofs.Common.{refl}
use Rattle.text_reader.proofs.ComponentTexts.{ends_with}
use Rattle.text_reader.proofs.piece.read_before.Goals as goal

pub returns-in-None-clause-none : goal.returns-in-None-clause-none
returns-in-None-clause-none c _ q ok e =
    let h = ends_with q c.args.letters.now c.args.sign c.args.magnitude.now ok.0 c.requires e in
    c.in-None.ensures.none refl h.0 h.1
