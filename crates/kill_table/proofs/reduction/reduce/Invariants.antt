use Rattle.std.proofs.Common.{◌*◌, length, map}
use Rattle.std.specs.Prelude.{filter}
use Rattle.jet_law.specs.Terms.{poly_of}
use Rattle.kill_table.specs.Steps.{is_graded}
use Rattle.kill_table.proofs.Steps.{IsReducing}
use Rattle.kill_table.proofs.reduction.reduce.Given as goal

abbrev pub invariant-loop-round : goal.invariant-loop-round
invariant-loop-round g l =
    let m = g.F.Ring.meaning l.field in
    let h = filter (λ t. is_graded l.fn.part l.grade t.0.e) l.terms in
    IsReducing m (map m.value l.letters) l.fn.part l.n l.grade (poly_of l.n m.value h) (3 * length h) l._round l.left.items l.steps.items
