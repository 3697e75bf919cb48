use Rattle.std.proofs.Common.{refl, sym, ◌∙◌, ◌∷◌}
use Rattle.text_reader.proofs.TermTexts.{factors_there, starred_some}
use Rattle.text_reader.proofs.term.read_starred.Goals as goal

pub returns-in-None-clause-none : goal.returns-in-None-clause-none
returns-in-None-clause-none c _ m is higher e =
    let f = factors_there m is higher in
    c.in-None.ensures.none refl (117 ∷ f.0) (sym e ∙ f.1)

pub returns-in-Some-clause-some : goal.returns-in-Some-clause-some
returns-in-Some-clause-some c = starred_some c.args.bytes.now c.in-Some.factors.now c.read_factors.result c.in-Some.ensures.some c.read_factors.ensures.some

pub returns-in-Some-clause-none : goal.returns-in-Some-clause-none
returns-in-Some-clause-none c none m is higher e = c.read_factors.ensures.none none m is (e ∙ c.in-Some.ensures.some)
