use Rattle.std.proofs.Common.{◌≡◌, map, take}
use Rattle.jet_quotient.specs.Answers.{free_of}
use Rattle.jet_quotient.proofs.basis.basis_of.Given as goal

abbrev pub invariant-loop-a : goal.invariant-loop-a
invariant-loop-a g l = l.basis.items ≡ map (λ a. a) (free_of l.n l.form (take l.a-index l.monomials))
