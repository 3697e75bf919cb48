use Rattle.std.proofs.Common.{ℤ, pos, FitsSigned, to_z-of_z, sym, ap, subst, ◌∙◌, arith}
use Rattle.std.specs.Int.{w128}
use Rattle.ring_law.specs.Fraction.{IsFrac, frac_value}
use Rattle.ring_law.specs.declared.fraction.Frac.{Frac}
use Rattle.jet_poly.proofs.Derived.{whole_valid}
use Rattle.check_rows.proofs.derive.whole_number.Goals as goal

abbrev frac_of : ℤ → Frac
frac_of k = record { num = k; den = pos 1 }

pub inject-requires-clause-frac : goal.inject-requires-clause-frac
inject-requires-clause-frac g c =
    let fits : FitsSigned w128 c.from.result = record { sfits = c.from.type_inv } in
    subst (λ z. IsFrac (frac_of z)) (sym (to_z-of_z fits ∙ c.from.ensures)) (whole_valid c.args.k (omega arith))

pub returns-clause-value : goal.returns-clause-value
returns-clause-value g c =
    let fits : FitsSigned w128 c.from.result = record { sfits = c.from.type_inv } in
    c.inject.ensures.value ∙ ap (λ z. (g.R.Ring.meaning c.args.ring.now).scalars.rational (frac_value (frac_of z))) (to_z-of_z fits ∙ c.from.ensures)
