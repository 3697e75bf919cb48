use Rattle.std.proofs.Common.{◌≡◌, ◌++◌}
use Rattle.std.specs.List.{flat_map}
use Rattle.cert_text.specs.Text.{unit_text}
use Rattle.row_reader.specs.Values.{IsUnitPair}
use Rattle.report_reader.specs.Rows.{AreMany}
use Rattle.report_reader.proofs.rows.read_unit_rows.Given as goal

-- the rows read so far
abbrev pub invariant-loop-count_read : goal.invariant-loop-count_read
invariant-loop-count_read l = AreMany (IsUnitPair l.a) l.count_read l.rows × (flat_map unit_text l.rows ++ l.rest ≡ l.bytes)
