use Rattle.jet_law.specs.Terms.{poly_of}
use Rattle.jet_law.specs.Canonical.{jet}
use Rattle.move_law.specs.Hessian.{started, squares_after}
use Rattle.hessian_rank.specs.Stages.{IsStageFor}
use Rattle.hessian_rank.proofs.stage.squares.Given as goal

abbrev pub invariant-loop-k : goal.invariant-loop-k
invariant-loop-k g l =
    let m = g.F.Ring.meaning l.field in
    let n = l.f.n in
    IsStageFor m n (squares_after n m.scalars l.k (started n m.scalars (jet n m.scalars 2 (poly_of n m.value l.f.terms)))) l.stage
