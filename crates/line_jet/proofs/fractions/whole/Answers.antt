use Rattle.std.proofs.Common.{◌≡◌, ◌<◌, ◌^◌, pos, to_z, of_z, subst, sym, ◌∙◌, ap, arith}
use mir.Syntax.{w128}
use Rattle.ring_law.specs.Fraction.{Represents}
use Rattle.germ_law.specs.Germ as germ
use Rattle.small_frac.proofs.Parts.{kept}
use Rattle.line_jet_law.proofs.FractionValues.{whole_is}
use Rattle.line_jet.proofs.fractions.whole.Goals as goal

pub returns : goal.returns
returns c =
    let small : c.args.n < 2 ^ 64 = omega arith in
    let whole : to_z w128 (of_z w128 c.from.result) ≡ pos c.args.n = ap (λ z. to_z w128 (of_z w128 z)) c.from.ensures ∙ kept (pos c.args.n) (let h : c.args.n < 2 ^ 127 = omega arith in h) in
    subst (λ d. Represents (record { num = d; den = pos 1 }) (germ.whole c.args.n)) (sym whole) (whole_is c.args.n small)
