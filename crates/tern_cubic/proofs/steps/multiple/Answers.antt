use Rattle.std.proofs.Common.{sym, ap, ◌∙◌}
use Rattle.jet_poly.proofs.Steps.{if_ok}
use Rattle.tern_cubic.proofs.Multiplication.{multiple_nonzero}
use Rattle.tern_cubic.proofs.steps.multiple.Goals as goal

pub returns-clause-nonzero : goal.returns-clause-nonzero
returns-clause-nonzero g c =
    let m = g.F.Ring.meaning c.args.field.now in
    let laws = (g.met.F.Ring.laws c.args.field.now c.requires.field).numbers in
    let other = multiple_nonzero m.scalars laws c.args.k c.requires.factor (m.value c.args.x) c.requires.nonzero in
    if_ok c.mul.result (λ y h e. other (sym (h ∙ ap (λ v. m.scalars.ops.mul v (m.value c.args.x)) c.whole.ensures.value) ∙ e)) c.mul.ensures.value
