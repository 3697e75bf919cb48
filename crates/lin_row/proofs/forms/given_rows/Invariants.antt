use Rattle.std.proofs.Common.{◌≡◌, map, take}
use Rattle.lin_row.specs.Lines.{given_part}
use Rattle.lin_row.specs.Rows.{rows_of}
use Rattle.lin_row.specs.System.{lines_of}
use Rattle.lin_row.proofs.forms.given_rows.Given as goal

abbrev pub invariant-loop-p : goal.invariant-loop-p
invariant-loop-p g l = rows_of l.all.items ≡ map (λ p. given_part 4294967296 p.1) (lines_of (take l.p-index l.pivots))
