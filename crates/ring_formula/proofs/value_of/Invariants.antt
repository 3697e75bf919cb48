use Rattle.std.proofs.Common.{◌≡◌, map}
use Rattle.ring_formula.specs.Formulas.{first_factors}
use Rattle.ring_formula.proofs.value_of.Given as goal

abbrev pub invariant-loop-i : goal.invariant-loop-i
invariant-loop-i g l =
    let m = g.R.Ring.meaning l.ring in
    record {
      elem : m.is_elem l.y;
      value : m.value l.y ≡ first_factors m.scalars (map m.value l.letters) l.e l.i;
    }
