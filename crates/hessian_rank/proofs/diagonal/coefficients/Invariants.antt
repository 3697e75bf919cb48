use Rattle.std.proofs.Common.{◌≡◌, map, take, All}
use Rattle.move_law.specs.Hessian.{entry as entry_of}
use Rattle.hessian_rank.specs.Stages.{stage_of}
use Rattle.hessian_rank.proofs.diagonal.coefficients.Given as goal

abbrev pub invariant-loop-i : goal.invariant-loop-i
invariant-loop-i g l = let m = g.R.Ring.meaning l.ring in let n = l.stage.change.n in record {
  elems : All m.is_elem l.all.items;
  values : map m.value l.all.items ≡ map (λ i. entry_of n m.scalars (stage_of m n l.stage) i i) (take l.i-index l.i-items);
}
