use Rattle.std.proofs.Common.{◌≡◌, true, eqb, get_or, sym, subst, ◌∙◌, arith}
use Rattle.poly_law.specs.Exps.{all_to}
use Rattle.jet_poly.proofs.Coefficients.{same-places}
use Rattle.jet_poly.proofs.coefficient.is_same.Goals as goal

pub returns : goal.returns
returns c =
    let full : c.loop-i.i ≡ 8 = omega arith in
    sym (subst (λ k. all_to k (λ k. eqb (get_or c.args.a.e k 0) (get_or c.args.b.e k 0)) ≡ true) full c.loop-i.invariant) ∙ same-places c.args.a c.args.b
