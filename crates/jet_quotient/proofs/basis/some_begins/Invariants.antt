use Rattle.std.proofs.Common.{◌≡◌, false, take}
use Rattle.jet_quotient.specs.Answers.{begins_at}
use Rattle.jet_quotient.proofs.basis.some_begins.Given as goal

abbrev pub invariant-loop-row : goal.invariant-loop-row
invariant-loop-row g l = begins_at (take l.row-index l.form) l.column ≡ false
