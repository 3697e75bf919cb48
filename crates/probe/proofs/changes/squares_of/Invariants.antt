use Rattle.std.proofs.Common.{◌≡◌, ◌≢◌, ◌-◌, ◌≤◌, length, All}
use Rattle.probe.proofs.changes.squares_of.Given as goal

abbrev pub invariant-loop-i : goal.invariant-loop-i
invariant-loop-i g l =
    let m = g.F.Ring.meaning l.over.field in
    record {
      elems : All m.is_elem l.squares.items;
      from : l.corank ≤ l._i;
      count : length l.squares.items ≡ l._i - l.corank;
      units : All (λ x. m.value x ≢ m.scalars.ops.zero) l.squares.items;
    }
