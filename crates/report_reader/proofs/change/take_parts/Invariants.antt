use Rattle.std.proofs.Common.{◌≡◌, ◌++◌}
use Rattle.report_reader.specs.States.{lines_of, AreSoMany}
use Rattle.report_reader.proofs.change.take_parts.Given as goal

-- the parts read so far
abbrev pub invariant-loop-count : goal.invariant-loop-count
invariant-loop-count l = AreSoMany l.frame l.n l.count l.parts × (lines_of l.parts ++ l.rest ≡ l.bytes)
