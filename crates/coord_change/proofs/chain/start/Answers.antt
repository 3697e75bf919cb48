use Rattle.std.proofs.Common.{[], ◌∷◌, ◌++◌, ◌∙◌, ap}
use Rattle.coord_change.proofs.ChainLemmas
use Rattle.coord_change.proofs.chain.start.Goals as goal

pub returns-clause-chain : goal.returns-clause-chain
returns-clause-chain g c n last p low q =
    let m = g.R.Ring.meaning c.args.ring.now in
    let l = (g.met.R.Ring.laws c.args.ring.now c.requires.ring).numbers in
    ChainLemmas.started m n l last p c.args.germ.now c.in_ok-copied.copied c.in_ok-jet.jet c.new-moves.result c.push.new.self c.in_ok-copied.ensures c.new-moves.ensures
    (c.in_ok-push.ensures.ok ∙ ap (λ zs. zs ++ c.in_ok-jet.jet ∷ []) c.new-jets.ensures)
    c.requires.given c.requires.at_most_8_variables c.requires.order_at_least_2 c.requires.order_at_most_16 c.in_ok-jet.ensures.jet low q
