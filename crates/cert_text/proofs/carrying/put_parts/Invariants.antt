use Rattle.std.proofs.Common.{◌≡◌, ◌++◌, drop}
use Rattle.cert_text.specs.Text.{parts_text}
use Rattle.cert_text.proofs.carrying.put_parts.Given as goal

abbrev pub invariant-loop-i : goal.invariant-loop-i
invariant-loop-i l = l.out.items ++ parts_text (drop l.i l.names) (drop l.i l.parts) ≡ l.initial.out.items ++ parts_text l.names l.parts
