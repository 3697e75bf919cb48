use Rattle.std.proofs.Common.{◌∙◌, ap, arith, [], ◌∷◌, ◌++◌}
use Rattle.lin_row.specs.Lines.{dot, entry, lead_of}
use Rattle.lin_row.specs.System.{lines_of}
use Rattle.lin_row.proofs.SystemLaws
use Rattle.lin_row.proofs.BuildLaws
use Rattle.lin_row.proofs.ExcludedLaws
use Rattle.lin_row.proofs.excluded.excluding.Goals as goal

pub lead_inverse-requires-clause-some : goal.lead_inverse-requires-clause-some
lead_inverse-requires-clause-some g c = BuildLaws.lead_some c.args.left.now (omega arith)

pub functional-requires-clause-pivots : goal.functional-requires-clause-pivots
functional-requires-clause-pivots g c =
    let m = g.F.Ring.meaning c.args.field.now in
    SystemLaws.triangular m (g.met.F.Ring.laws c.args.field.now c.requires.ring).numbers.ring (lines_of c.args.pivots.now) c.requires.pivots

pub functional-requires-clause-line : goal.functional-requires-clause-line
functional-requires-clause-line g c =
    let m = g.F.Ring.meaning c.args.field.now in
    let laws = (g.met.F.Ring.laws c.args.field.now c.requires.ring).numbers in
    let items = c.in_ok-push.ensures.items ∙ ap (λ ys. ys ++ ((c.lead-column.result, c.in_ok-inverse.inverse) ∷ [])) c.new-start.ensures.items in
    rw items (record { rising = (tt, tt); units = ((c.in_ok-inverse.ensures.elem, ExcludedLaws.inverse_unit m laws.ring laws.nontrivial (entry m c.args.left.now (lead_of c.args.left.now)) (m.value c.in_ok-inverse.inverse) c.in_ok-inverse.ensures.unit), tt) })

pub returns : goal.returns
returns g c =
    let m = g.F.Ring.meaning c.args.field.now in
    let laws = (g.met.F.Ring.laws c.args.field.now c.requires.ring).numbers.ring in
    let x = c.in_ok-inverse.inverse in
    let column = c.lead-column.result in
    let items = c.in_ok-push.ensures.items ∙ ap (λ ys. ys ++ ((column, x) ∷ [])) c.new-start.ensures.items in
    ExcludedLaws.excludes m laws (lines_of c.args.pivots.now) c.args.left.now c.in_ok-values.values.items column (m.value x) c.lead-column.ensures
    c.requires.cleared (ap (λ k. m.scalars.ops.mul (entry m c.args.left.now k) (m.value x)) c.lead-column.ensures ∙ c.in_ok-inverse.ensures.unit) c.in_ok-values.ensures.line c.in_ok-values.ensures.vanish
    (λ w zeros. c.in_ok-values.ensures.same w zeros ∙ ap (λ ys. dot m ys w) items ∙ ExcludedLaws.dot-one m laws column x w)
