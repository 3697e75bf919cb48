use Rattle.std.proofs.Common.{◌≡◌, ◌++◌}
use Rattle.std.specs.List.{flat_map}
use Rattle.cert_text.specs.Text.{table_text}
use Rattle.cert_text.specs.WellFormed.{IsTableRowOf}
use Rattle.report_reader.specs.Rows.{AreMany}
use Rattle.report_reader.proofs.rows.read_table_rows.Given as goal

-- the rows read so far
abbrev pub invariant-loop-count_read : goal.invariant-loop-count_read
invariant-loop-count_read l = AreMany (IsTableRowOf l.frame.algebra l.frame.corank l.frame.order l.size) l.count_read l.rows × (flat_map table_text l.rows ++ l.rest ≡ l.bytes)
