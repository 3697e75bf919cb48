use Rattle.std.proofs.Common.{◌∙◌, [], ◌∷◌, ◌++◌, ap}
use Rattle.jacobian_row.proofs.RowLemmas.{monomial_row}
use Rattle.jacobian_row.proofs.row.monomial_row.Goals as goal

pub returns-clause-row : goal.returns-clause-row
returns-clause-row g c =
    let m = g.R.Ring.meaning c.args.ring.now in
    let laws = (g.met.R.Ring.laws c.args.ring.now c.requires.ring).numbers in
    let items = c.from_vec.ensures ∙ c.in_ok-push.ensures.items ∙ ap (λ ys. ys ++ ((c.rank.result, c.one.result) ∷ [])) c.new-entries.ensures.items in
    rw items (monomial_row m laws.ring laws.nontrivial c.args.n c.args.k c.args.a c.rank.result c.one.result c.requires.unused c.requires.degree c.rank.ensures.rank c.one.ensures.elem c.one.ensures.value)
