use Rattle.std.proofs.Common.{◌≡◌, length, All}
use Rattle.probe.proofs.scalars.Over.elements.Given as goal

abbrev pub invariant-loop-i : goal.invariant-loop-i
invariant-loop-i g l = record {
  elems : All (g.F.Ring.meaning l.self.field).is_elem l.elements.items;
  count : length l.elements.items ≡ l._i;
}
