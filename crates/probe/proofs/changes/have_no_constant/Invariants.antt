use Rattle.std.proofs.Common.{ℕ, ◌<◌}
use Rattle.poly_law.specs.Polynomials.{StartsAtIn}
use Rattle.jet_subst.specs.Parts.{part_of}
use Rattle.probe.proofs.changes.have_no_constant.Given as goal

abbrev pub invariant-loop-p : goal.invariant-loop-p
invariant-loop-p g l = let m = g.R.Ring.meaning l.ring in (i : ℕ) → i < l.p-index → StartsAtIn l.n m.scalars.ops 1 (part_of l.n m.value l.parts i)
