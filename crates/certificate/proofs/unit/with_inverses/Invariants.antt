use Rattle.std.proofs.Common.{◌≡◌, map, take, All}
use Rattle.certificate.proofs.unit.with_inverses.Given as goal

abbrev pub invariant-loop-value : goal.invariant-loop-value
invariant-loop-value g l = let m = g.F.Ring.meaning l.field in record {
  elems : All {X = g.row.F-Elem.Denot × g.row.F-Elem.Denot} (λ u. m.is_elem u.0 × m.is_elem u.1) l.units.items;
  values : map {B = g.F.Ring.Value l.field × g.F.Ring.Value l.field} (λ u. (m.value u.0, m.value u.1)) l.units.items
      ≡ map {B = g.F.Ring.Value l.field × g.F.Ring.Value l.field} (λ x. (m.value x, m.scalars.inverse (m.value x))) (take l.value-index l.values);
}
