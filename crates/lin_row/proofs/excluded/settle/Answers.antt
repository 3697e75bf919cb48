use Rattle.std.proofs.Common.{◌∙◌, ap, ap₂, refl, [], ◌∷◌, ◌++◌}
use Rattle.lin_row.specs.Lines.{dot, entry}
use Rattle.lin_row.proofs.ExcludedLaws
use Rattle.lin_row.proofs.excluded.settle.Goals as goal

pub returns-clause-settled : goal.returns-clause-settled
returns-clause-settled g c =
    let m = g.R.Ring.meaning c.args.ring.now in
    let laws = (g.met.R.Ring.laws c.args.ring.now c.requires.ring).numbers.ring in
    let items = c.in_ok-push.ensures.items ∙ ap (λ ys. ys ++ ((c.args.column, c.one.result) ∷ [])) c.new-unit.ensures.items in
    ExcludedLaws.settled m laws c.args.column c.args.row.now c.args.values.items c.in_ok-next.next.items ((c.args.column, c.one.result) ∷ []) c.one.result (m.value c.neg.result) (m.value c.in_ok-y.y) refl c.one.ensures.value c.requires.pivot.one
    (c.in_ok-y.ensures.value ∙ ap (λ ys. dot m c.args.row.now (entry m ys)) c.deref.ensures.value) c.neg.ensures.value
    (λ w. c.in_ok-next.ensures.value w ∙ ap₂ (λ ys zs. m.scalars.ops.add (dot m ys w) (m.scalars.ops.mul (m.value c.neg.result) (dot m zs w))) c.deref-2.ensures.value (c.deref-3.ensures.value ∙ items))
