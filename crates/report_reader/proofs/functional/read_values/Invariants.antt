use Rattle.std.proofs.Common.{◌≡◌, ◌++◌, length}
use Rattle.std.specs.List.{flat_map}
use Rattle.cert_text.specs.Text.{functional_text}
use Rattle.report_reader.proofs.FunctionalLines.{AreDone}
use Rattle.report_reader.proofs.functional.read_values.Given as goal

-- the values read so far
abbrev pub invariant-loop-i : goal.invariant-loop-i
invariant-loop-i l = record { long : length l.values ≡ l.i; done : AreDone l.a l.corank 0 l.count l.values l.low; text : flat_map functional_text l.values ++ l.rest ≡ l.bytes }
