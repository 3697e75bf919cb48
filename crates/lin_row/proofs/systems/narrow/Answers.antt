use Rattle.std.proofs.Common.{◌<◌, arith}
use Rattle.lin_row.proofs.SystemLaws
use Rattle.lin_row.proofs.systems.narrow.Goals as goal

pub overflow_cast-t : goal.overflow_cast-t
overflow_cast-t g c =
    let low : c.t-item.result.0 < 4294967296 = SystemLaws.below_get c.args.line.now c.loop-t.t-index 4294967296 c.t-item.result c.loop-t-test.true c.t-item.is c.requires in
    omega arith
