use Rattle.std.proofs.Common.{◌≡◌, ◌++◌}
use Rattle.std.specs.List.{flat_map}
use Rattle.cert_text.specs.Text.{mather_text}
use Rattle.cert_text.specs.WellFormed.{IsRowOf}
use Rattle.report_reader.specs.Rows.{AreMany}
use Rattle.report_reader.proofs.rows.read_mather_rows.Given as goal

-- the rows read so far
abbrev pub invariant-loop-count_read : goal.invariant-loop-count_read
invariant-loop-count_read l = AreMany (IsRowOf l.frame.algebra l.frame.corank l.frame.order) l.count_read l.rows × (flat_map mather_text l.rows ++ l.rest ≡ l.bytes)
