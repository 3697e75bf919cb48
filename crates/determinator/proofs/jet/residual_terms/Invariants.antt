use Rattle.std.proofs.Common.{◌≡◌, take}
use Rattle.normal_forms.specs.Monomials.{residual_terms}
use Rattle.determinator.proofs.jet.residual_terms.Given as goal

abbrev pub invariant-loop-t : goal.invariant-loop-t
invariant-loop-t g l = l.kept.items ≡ residual_terms l.c (take l.t-index l.terms)
