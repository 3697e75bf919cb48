use Rattle.std.proofs.Common.{arith}
use Rattle.germ_cli.proofs.Words.{other_limit}
use Rattle.germ_cli.proofs.command.read_limit.Goals as goal

pub returns-in_default-clause-none : goal.returns-in_default-clause-none
returns-in_default-clause-none c = λ _. other_limit c.in-Some.limit c.args.word.now c.in-Some.ensures.some (λ low high. omega (arith, c.if-limit-le16.false))

pub returns-in_default-2-clause-none : goal.returns-in_default-2-clause-none
returns-in_default-2-clause-none c = λ _. other_limit c.in-Some.limit c.args.word.now c.in-Some.ensures.some (λ low high. omega (arith, c.if-limit-ge3.false))
