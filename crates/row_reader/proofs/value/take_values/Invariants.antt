use Rattle.std.proofs.Common.{◌≡◌, length}
use Rattle.row_reader.specs.Words.{after_space}
use Rattle.row_reader.proofs.ValueTexts.{AreRead}
use Rattle.row_reader.proofs.value.take_values.Given as goal

abbrev pub invariant-loop-i : goal.invariant-loop-i
invariant-loop-i l = record { long : length l.values.items ≡ l.i; so_far : AreRead l.a l.count (after_space l.rest) l.values.items (after_space l.left) }
