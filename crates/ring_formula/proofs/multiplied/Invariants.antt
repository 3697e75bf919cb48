use Rattle.std.proofs.Common.{◌≡◌}
use Rattle.ring_formula.specs.Formulas.{multiplied}
use Rattle.ring_formula.proofs.multiplied.Given as goal

abbrev pub invariant-loop-i : goal.invariant-loop-i
invariant-loop-i g l =
    let m = g.R.Ring.meaning l.ring in
    record {
      elem : m.is_elem l.y;
      value : m.value l.y ≡ multiplied m.scalars (m.value l.fn.v) (m.value l.x) l._i;
    }
