use Rattle.std.proofs.Common.{ℤ, pos, FitsSigned, to_z-of_z, sym, subst, ◌∙◌, arith}
use Rattle.std.specs.Int.{w128}
use Rattle.ring_law.specs.Fraction.{IsFrac}
use Rattle.ring_law.specs.declared.fraction.Frac.{Frac}
use Rattle.jet_poly.proofs.Derived.{whole_valid}
use Rattle.rules_corank2.proofs.finish_moves.number.Goals as goal

abbrev frac_of : ℤ → Frac
frac_of k = record { num = k; den = pos 1 }

pub inject-requires-clause-frac : goal.inject-requires-clause-frac
inject-requires-clause-frac g c =
    let fits : FitsSigned w128 c.from.result = record { sfits = c.from.type_inv } in
    subst (λ z. IsFrac (frac_of z)) (sym (to_z-of_z fits ∙ c.from.ensures)) (whole_valid c.args.k (omega arith))
