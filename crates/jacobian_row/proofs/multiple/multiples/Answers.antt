use Rattle.std.proofs.Common.{ap, sym, map, arith}
use Rattle.jacobian_row.specs.Multiples.{pair_of}
use Rattle.jacobian_row.proofs.MultipleLemmas.{blocks, degrees_none, degree_step, degrees_all}
use Rattle.jacobian_row.proofs.multiple.multiples.Goals as goal

pub loop-degree-init : goal.loop-degree-init
loop-degree-init c = rw c.new-all.ensures.items (record { from = omega arith; list = ap (blocks c.args.n) (sym (degrees_none c.args.n c.args.low)); unused = λ k d h. absurd (omega arith); long = λ k d h. absurd (omega arith) })

pub loop-degree-preserved : goal.loop-degree-preserved
loop-degree-preserved c = record {
  from = (let f = c.loop-degree.invariant.from in omega arith);
  list = degree_step c.args.n c.args.low c.loop-degree.degree (map (pair_of c.args.n) c.loop-degree.all.items) _ c.loop-degree.invariant.from c.loop-degree.invariant.list c.in_ok-add_degree.ensures.list;
  unused = c.in_ok-add_degree.ensures.unused;
  long = c.in_ok-add_degree.ensures.long;
}

pub returns-clause-multiples : goal.returns-clause-multiples
returns-clause-multiples c =
    record {
      list = degrees_all c.args.n c.args.low c.args.high c.loop-degree.degree _ (omega arith) c.loop-degree.invariant.list;
      unused = c.loop-degree.invariant.unused;
      long = c.loop-degree.invariant.long;
    }
