use Rattle.std.proofs.Common.{sym, ap, ◌∙◌}
use Rattle.bin_forms.proofs.Zeros.{multiple_nonzero}
use Rattle.bin_forms.proofs.number.over_multiple.Goals as goal

pub quotient-requires-clause-nonzero : goal.quotient-requires-clause-nonzero
quotient-requires-clause-nonzero g c =
    let m = g.F.Ring.meaning c.args.field.now in
    let laws = (g.met.F.Ring.laws c.args.field.now c.requires.field).numbers in
    let inverts = g.met.F.Field.inverts c.args.field.now c.requires.field in
    λ z. multiple_nonzero m.scalars laws inverts c.args.k (m.value c.args.b) c.requires.factor c.requires.nonzero
    (sym (c.in_ok-multiple.ensures.value ∙ ap (λ v. m.scalars.ops.mul v (m.value c.args.b)) c.whole.ensures.value) ∙ z)
