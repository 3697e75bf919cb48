use Rattle.std.proofs.Common.{◌≡◌, length, map, subst, arith}
use Rattle.ring_theory.specs.Rational.{rational_ops}
use Rattle.ring_law.specs.Fraction.{rational_meaning}
use Rattle.lin_row.specs.Lines.{entry}
use Rattle.lin_row.specs.Rows.{rows_of}
use Rattle.ternary_law.specs.Linear.{HasRank}
use Rattle.tern_cubic.proofs.KernelLemmas.{rank_is}
use Rattle.tern_cubic.proofs.kernel.rank_of.Goals as goal

pub returns-clause-rank : goal.returns-clause-rank
returns-clause-rank c =
    let size = c.in_ok-form.form.ok.0 in
    let count = c.len.ensures in
    subst (HasRank rational_ops c.args.columns (map (entry rational_meaning) (rows_of c.args.rows.now))) (let e : length c.in_ok-form.form.items ≡ c.len.result = omega arith in e)
    (rank_is c.args.columns (rows_of c.args.rows.now) c.requires.columns c.in_ok-form.form.items c.in_ok-form.ensures.form)
