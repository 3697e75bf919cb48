use Rattle.std.proofs.Common.{◌≡◌, take}
use Rattle.jacobian_row.specs.Multipliers.{terms_of}
use Rattle.jacobian_row.proofs.multiplier.multiplier_terms.Given as goal

abbrev pub invariant-loop-t : goal.invariant-loop-t
invariant-loop-t g l = l.terms.items ≡ terms_of l.multiples (take l.t-index l.coefficients) l.variable
