use Rattle.std.proofs.Common.{◌<◌, ℤ, pos, FitsSigned, to_z-of_z, sym, subst, ◌∙◌, arith}
use Rattle.std.specs.Int.{w128}
use Rattle.std.proofs.lemmas.Int.{ints}
use Rattle.ring_theory.proofs.GcdLaws.{coprime_by}
use Rattle.ring_law.specs.Fraction.{IsFrac}
use Rattle.ring_law.specs.declared.fraction.Frac.{Frac}
use Rattle.tern_cubic.proofs.steps.whole.Goals as goal

abbrev frac_of : ℤ → Frac
frac_of k = record { num = k; den = pos 1 }

pub inject-requires-clause-frac : goal.inject-requires-clause-frac
inject-requires-clause-frac g c =
    let small : c.args.k < 256 = omega arith in
    let fits : FitsSigned w128 c.from.result = record { sfits = c.from.type_inv } in
    subst (λ z. IsFrac (frac_of z)) (sym (to_z-of_z fits ∙ c.from.ensures))
    (record { den_pos = omega (arith, ints); lowest = coprime_by c.args.k 1 (λ d x y. y); num_fits = omega (arith, ints); den_fits = omega arith })
