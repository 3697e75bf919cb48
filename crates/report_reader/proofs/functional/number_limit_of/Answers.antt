use Rattle.std.proofs.Common.{arith}
use Rattle.mono_exp.proofs.Table.{table_counts}
use Rattle.report_reader.proofs.FunctionalLines.{limit_there}
use Rattle.report_reader.proofs.functional.number_limit_of.Goals as goal

pub returns-in-0 : goal.returns-in-0
returns-in-0 c = limit_there 1 c.args.corank 0 c.in-0.is (table_counts 0 18 (omega arith) (omega arith))

pub returns-in-1 : goal.returns-in-1
returns-in-1 c = limit_there 18 c.args.corank 1 c.in-1.is (table_counts 1 18 (omega arith) (omega arith))

pub returns-in-2 : goal.returns-in-2
returns-in-2 c = limit_there 171 c.args.corank 2 c.in-2.is (table_counts 2 18 (omega arith) (omega arith))

pub returns-in-3 : goal.returns-in-3
returns-in-3 c = limit_there 1140 c.args.corank 3 c.in-3.is (table_counts 3 18 (omega arith) (omega arith))

pub returns-in-4 : goal.returns-in-4
returns-in-4 c = limit_there 5985 c.args.corank 4 c.in-4.is (table_counts 4 18 (omega arith) (omega arith))

pub returns-in-5 : goal.returns-in-5
returns-in-5 c = limit_there 26334 c.args.corank 5 c.in-5.is (table_counts 5 18 (omega arith) (omega arith))

pub returns-in-6 : goal.returns-in-6
returns-in-6 c = limit_there 100947 c.args.corank 6 c.in-6.is (table_counts 6 18 (omega arith) (omega arith))

pub returns-in-7 : goal.returns-in-7
returns-in-7 c = limit_there 346104 c.args.corank 7 c.in-7.is (table_counts 7 18 (omega arith) (omega arith))

pub returns-in_default : goal.returns-in_default
returns-in_default c = limit_there 1081575 c.args.corank 8 (omega arith) (table_counts 8 18 (omega arith) (omega arith))
