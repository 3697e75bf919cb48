use Rattle.std.proofs.Common.{map}
use Rattle.mono_exp.specs.Exponents.{numbers_below}
use Rattle.kill_table.specs.Steps.{put_by}
use Rattle.kill_table.proofs.Killed.{ArePutFor}
use Rattle.kill_table.proofs.moves.move_of.Given as goal

abbrev pub invariant-loop-i : goal.invariant-loop-i
invariant-loop-i g l = let m = g.F.Ring.meaning l.field in
    ArePutFor m l.n 16 (map (put_by m (map m.value l.letters) l.n l.steps.items) (numbers_below l.i)) l.parts.items
