use Rattle.std.proofs.Common.{◌≡◌, ◌≤◌, ◌+◌, ◌⊎◌}
use Rattle.move_law.specs.Finish.{Finishing as Underway, kills_at}
use Rattle.rules_corank2.specs.Finishes.{IsUnderWay, grades_before}
use Rattle.rules_corank2.proofs.finish_kills.graded_kill.Given as goal

abbrev pub invariant-loop-grade : goal.invariant-loop-grade
invariant-loop-grade g l = let m = g.F.Ring.meaning l.field in let n = l.fn.state.form.n in let o = l.fn.state.form.order in record {
  killed : (p : Underway n (g.F.Ring.Value l.field)) → IsUnderWay m n o p l.fn.state → IsUnderWay m n o (kills_at n m.scalars o l.part (grades_before l.part l.grade) p) l.reached;
  within : (l.grade ≡ l.degree + 1) ⊎ (l.grade ≤ l.last + 1);
}
