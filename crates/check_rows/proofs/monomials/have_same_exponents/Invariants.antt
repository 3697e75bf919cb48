use Rattle.std.proofs.Common.{◌≡◌, map, take}
use Rattle.mono_exp.specs.Exponents.{exponents}
use Rattle.check_rows.proofs.monomials.have_same_exponents.Given as goal

abbrev pub invariant-loop-i : goal.invariant-loop-i
invariant-loop-i l = map (λ a. exponents l.n a.e) (take l.i l.left) ≡ map (λ a. exponents l.n a.e) (take l.i l.right)
