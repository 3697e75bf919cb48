use Rattle.std.proofs.Common.{◌≡◌, take}
use Rattle.std.specs.List.{AllByRecursion}
use Rattle.check_form.proofs.unit.are_inverses.Given as goal

abbrev pub invariant-loop-i : goal.invariant-loop-i
invariant-loop-i g l = let m = g.R.Ring.meaning l.ring in AllByRecursion (λ p. m.scalars.ops.mul (m.value p.0) (m.value p.1) ≡ m.scalars.ops.one) (take l.i l.pairs)
