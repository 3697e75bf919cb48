use Rattle.std.proofs.Common.{arith}
use Rattle.tern_cubic.proofs.MatrixRows.{coefficient_in_three}
use Rattle.tern_cubic.proofs.steps.coefficient.Goals as goal

pub coef-requires-clause-at_most_8_variables : goal.coef-requires-clause-at_most_8_variables
coef-requires-clause-at_most_8_variables g c = let e = c.requires.jet.variables in omega arith

pub returns-clause-value : goal.returns-clause-value
returns-clause-value g c =
    let m = g.R.Ring.meaning c.args.ring.now in
    coefficient_in_three m c.args.f.now c.args.i c.args.j c.args.k (m.value c.coef.result) c.requires.jet.variables c.coef.ensures.in_variables
