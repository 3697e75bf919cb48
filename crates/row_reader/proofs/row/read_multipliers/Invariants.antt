use Rattle.std.proofs.Common.{◌≡◌, length}
use Rattle.row_reader.specs.Words.{after_space}
use Rattle.row_reader.proofs.RowTexts.{AreMultipliersTo}
use Rattle.row_reader.proofs.row.read_multipliers.Given as goal

abbrev pub invariant-loop-i : goal.invariant-loop-i
invariant-loop-i l = record { long : length l.jets.items ≡ l.i; so_far : AreMultipliersTo l.a l.corank l.order (after_space l.rest) l.jets.items (after_space l.left) }
