use Rattle.std.proofs.Common.{sym, ap, ◌∙◌, arith}
use Rattle.jet_poly.proofs.Derived.{whole_valid}
use Rattle.split_lemma.proofs.Halves.{zero_from_double}
use Rattle.hessian_rank.proofs.matrix.half_inverse.Goals as goal

pub inject-two-requires-clause-frac : goal.inject-two-requires-clause-frac
inject-two-requires-clause-frac g c = whole_valid 2 (omega arith)

pub unreachable-requires : goal.unreachable-requires
unreachable-requires g c =
    let m = g.F.Ring.meaning c.args.field.now in
    let v = m.value c.args.a in
    let double = c.in_ok-double.ensures.value ∙ ap (λ z. m.scalars.ops.mul z v) c.inject-two.ensures.value in
    let is_zero = rw c.in-None.is at c.in_ok-x.ensures.zero in
    c.requires.unit (zero_from_double m.scalars (g.met.F.Ring.laws c.args.field.now c.requires.ring).numbers v (sym double ∙ is_zero))
