use Rattle.std.proofs.Common.{◌≡◌, ◌++◌, drop}
use Rattle.lin_row.specs.Lines.{given_part}
use Rattle.lin_row.proofs.forms.given_entries.Given as goal

abbrev pub invariant-loop-t : goal.invariant-loop-t
invariant-loop-t g l = l.all.items ++ given_part 4294967296 (drop l.t-index l.line) ≡ given_part 4294967296 l.line
