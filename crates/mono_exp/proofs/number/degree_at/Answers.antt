use Rattle.std.proofs.Common.{arith}
use Rattle.mono_exp.proofs.NumberLemmas.{degree_positive}
use Rattle.mono_exp.proofs.number.degree_at.Goals as goal

pub overflow_sub-d : goal.overflow_sub-d
overflow_sub-d c = degree_positive c.args.n c.loop-d.d c.args.number (let e = c.first.ensures.count in omega arith)

pub loop-d-smaller : goal.loop-d-smaller
loop-d-smaller c = let low = degree_positive c.args.n c.loop-d.d c.args.number (let e = c.first.ensures.count in omega arith) in omega arith
