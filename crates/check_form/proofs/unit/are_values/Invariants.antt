use Rattle.std.proofs.Common.{◌≡◌, map, take}
use Rattle.check_form.proofs.unit.are_values.Given as goal

abbrev pub invariant-loop-i : goal.invariant-loop-i
invariant-loop-i g l = let m = g.R.Ring.meaning l.ring in map (λ p. m.value p.0) (take l.i l.pairs) ≡ map m.value (take l.i l.values)
