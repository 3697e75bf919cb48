use Rattle.jet_law.specs.Terms.{poly_of}
use Rattle.check_quotient.specs.Tables.{IsInKernel}
use Rattle.check_quotient.proofs.image.is_in_kernel.Given as goal

abbrev pub invariant-loop-j : goal.invariant-loop-j
invariant-loop-j g l = let m = g.R.Ring.meaning l.ring in IsInKernel m l.n l.table l.j (poly_of l.n m.value l.f)
