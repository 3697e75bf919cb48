use Rattle.std.proofs.Common.{refl}
use Rattle.report_reader.proofs.WholeReports.{too_long_stop, too_long_end}
use Rattle.report_reader.proofs.whole.behind_too_long.Goals as goal

pub returns-in-None-clause-halt : goal.returns-in-None-clause-halt
returns-in-None-clause-halt c = too_long_stop c.args.bytes.now (c.in-None.ensures.none refl)

pub returns-in-None-take_line-clause-halt : goal.returns-in-None-take_line-clause-halt
returns-in-None-take_line-clause-halt c = too_long_end c.args.bytes.now c.in-Some.one.now c.in-Some.ensures.some (c.in-None-take_line.ensures.none refl)
