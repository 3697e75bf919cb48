use Rattle.std.proofs.Common.{refl, sym, ap, ◌∙◌, ◌∷◌}
use Rattle.text_reader.specs.Pieces.{joined}
use Rattle.text_reader.proofs.TermTexts.{simple_cut}
use Rattle.text_reader.proofs.term.take_simple.Goals as goal

pub returns-in-None-clause-none : goal.returns-in-None-clause-none
returns-in-None-clause-none c _ t rest s starts e =
    let split = c.split_before_sign.ensures in
    c.in-None.ensures.none refl t s
    (simple_cut t s c.args.sign c.split_before_sign.result.0.now (joined c.split_before_sign.result.1) rest split.front split.starts starts (ap (λ z. c.args.sign ∷ z) (sym split.whole) ∙ e))
