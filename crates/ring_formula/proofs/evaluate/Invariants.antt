use Rattle.std.proofs.Common.{◌≡◌, ◌≤◌, map, take, length}
use Rattle.ring_theory.specs.Scalars.{sum_of}
use Rattle.ring_formula.specs.Formulas.{summand_value}
use Rattle.ring_formula.proofs.evaluate.Given as goal

abbrev pub invariant-loop-e : goal.invariant-loop-e
invariant-loop-e g l =
    let m = g.R.Ring.meaning l.ring in
    record {
      within : l.e-index ≤ length l.formula;
      elem : m.is_elem l.sum;
      value : m.value l.sum ≡ sum_of m.scalars.ops (map (summand_value m.scalars (map m.value l.letters)) (take l.e-index l.formula));
    }
