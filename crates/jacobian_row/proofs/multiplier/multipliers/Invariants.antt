use Rattle.std.proofs.Common.{◌≡◌, length}
use Rattle.jacobian_row.specs.Rows.{EachIndexIs}
use Rattle.jacobian_row.specs.Multipliers.{IsMultiplier}
use Rattle.jacobian_row.proofs.multiplier.multipliers.Given as goal

abbrev pub invariant-loop-variable : goal.invariant-loop-variable
invariant-loop-variable g l = record {
  count : length l.all.items ≡ l.variable;
  each : EachIndexIs (IsMultiplier l.n l.k l.multiples l.coefficients) l.all.items;
}
