use Rattle.std.proofs.Common.{refl, arith}
use Rattle.report_reader.proofs.WholeReports.{germ_fits, no_germ, no_short_germ, one_line}
use Rattle.report_reader.proofs.whole.take_germ.Goals as goal

pub returns-in-None-clause-none : goal.returns-in-None-clause-none
returns-in-None-clause-none c = λ _. no_germ c.args.bytes.now (c.in-None.ensures.none refl)

pub returns-then-text-le-MOST-clause-some : goal.returns-then-text-le-MOST-clause-some
returns-then-text-le-MOST-clause-some c =
    let read = c.in-Some.ensures.some in
    (one_line c.in-Some.text.now (germ_fits c.in-Some.text.now c.in-Some.rest.now c.args.bytes.now read.1 c.type_inv.bytes) read.0 (omega (arith, c.if-text-le-MOST.true)), read.1)

pub returns-else-text-le-MOST-clause-none : goal.returns-else-text-le-MOST-clause-none
returns-else-text-le-MOST-clause-none c =
    let read = c.in-Some.ensures.some in
    λ _. no_short_germ c.args.bytes.now c.in-Some.text.now c.in-Some.rest.now read.0 read.1 (omega (arith, c.if-text-le-MOST.false))
