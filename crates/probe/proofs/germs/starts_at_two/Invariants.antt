use Rattle.std.proofs.Common.{ℕ, ◌<◌, ◌≤◌, get_or, sum}
use Rattle.mono_exp.specs.declared.exponent.Exp.{Exp}
use Rattle.probe.proofs.germs.starts_at_two.Given as goal

abbrev pub invariant-loop-t : goal.invariant-loop-t
invariant-loop-t g l = (j : ℕ) (d : Exp × g.row.R-Elem.Denot) → j < l.t-index → 2 ≤ sum (get_or l.terms j d).0.e
