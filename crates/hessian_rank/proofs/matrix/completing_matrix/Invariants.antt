use Rattle.std.proofs.Common.{take}
use Rattle.hessian_rank.specs.Stages.{stage_of}
use Rattle.hessian_rank.proofs.MatrixMoves.{IsRowTo}
use Rattle.hessian_rank.proofs.matrix.completing_matrix.Given as goal

abbrev pub invariant-loop-j : goal.invariant-loop-j
invariant-loop-j g l = let m = g.F.Ring.meaning l.field in let n = l.stage.change.n in IsRowTo m n (stage_of m n l.stage) l.i (take l.j-index l.others) l.matrix.items
