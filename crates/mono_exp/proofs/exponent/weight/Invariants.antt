use Rattle.std.proofs.Common.{◌≡◌, ◌≤◌, ◌+◌, ◌*◌, drop}
use Rattle.mono_exp.specs.Exponents.{weighted_degree_of}
use Rattle.mono_exp.proofs.exponent.weight.Given as goal

abbrev pub invariant-loop-i : goal.invariant-loop-i
invariant-loop-i l = record {
  so_far : l.total + weighted_degree_of (drop l.i l.w) (drop l.i l.a.e) ≡ weighted_degree_of l.w l.a.e;
  bound : l.total ≤ 65025 * l.i;
}
