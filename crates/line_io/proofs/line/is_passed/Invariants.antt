use Rattle.std.proofs.Common.{◌≡◌, drop}
use Rattle.line_io.specs.Lines.{is_passed_over}
use Rattle.line_io.proofs.line.is_passed.Given as goal

abbrev pub invariant-loop-b : goal.invariant-loop-b
invariant-loop-b l = is_passed_over (drop l.b-index l.line) ≡ is_passed_over l.line
