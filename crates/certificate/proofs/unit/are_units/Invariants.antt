use Rattle.std.proofs.Common.{◌≡◌, ◌≤◌, true, not, take, length}
use Rattle.std.specs.List.{list_all}
use Rattle.certificate.proofs.unit.are_units.Given as goal

abbrev pub invariant-loop-x : goal.invariant-loop-x
invariant-loop-x g l =
    let m = g.R.Ring.meaning l.ring in
    record {
      within : l.x-index ≤ length l.xs;
      units_before : list_all (λ x. not (m.scalars.is_zero (m.value x))) (take l.x-index l.xs) ≡ true;
    }
