use Rattle.std.proofs.Common.{◌≡◌, ◌++◌, List}
use Rattle.std.specs.List.{flat_map}
use Rattle.cert_law.specs.Fields.{Element}
use Rattle.row_reader.specs.Values.{AreElements}
use Rattle.report_reader.specs.Rows.{AreMany}
use Rattle.report_reader.proofs.Matrix.{row_line, joined}
use Rattle.report_reader.proofs.change.read_matrix.Given as goal

-- the rows read so far
abbrev pub invariant-loop-count : goal.invariant-loop-count
invariant-loop-count l = (rows : List (List Element)) × AreMany (AreElements l.frame.algebra l.n) l.count rows × (l.elements ≡ joined rows) × (flat_map row_line rows ++ l.rest ≡ l.bytes)
