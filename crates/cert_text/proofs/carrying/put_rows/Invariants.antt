use Rattle.std.proofs.Common.{◌≡◌, ◌++◌, ◌-◌}
use Rattle.cert_text.specs.Text.{rows_text}
use Rattle.cert_text.proofs.carrying.put_rows.Given as goal

abbrev pub invariant-loop : goal.invariant-loop
invariant-loop l = l.out.items ++ rows_text (l.n - l.counter) l.n l.rest ≡ l.initial.out.items ++ rows_text l.n l.n l.elements
