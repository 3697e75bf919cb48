use Rattle.std.proofs.Common.{◌≡◌, take}
use Rattle.jet_law.specs.Terms.{poly_of}
use Rattle.report_jet.proofs.terms.are_same_terms.Given as goal

abbrev pub invariant-loop-i : goal.invariant-loop-i
invariant-loop-i g l = let m = g.R.Ring.meaning l.ring in poly_of l.n m.value (take l.i l.f) ≡ poly_of l.n m.value (take l.i l.g)
