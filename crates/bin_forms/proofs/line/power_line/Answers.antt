use Rattle.std.proofs.Common.{sym, ◌∙◌}
use Rattle.bin_forms.proofs.Zeros.{not_zero}
use Rattle.bin_forms.proofs.line.power_line.Goals as goal

pub over_multiple-requires-clause-nonzero : goal.over_multiple-requires-clause-nonzero
over_multiple-requires-clause-nonzero g c =
    let m = g.F.Ring.meaning c.args.field.now in
    not_zero m.scalars (g.met.F.Ring.laws c.args.field.now c.requires.field).numbers (sym c.is_zero.ensures ∙ c.if-is_zero.false)
