use Rattle.std.proofs.Common.{◌≡◌, ◌++◌}
use Rattle.report_reader.specs.declared.frame.Parts.{Parts}
use Rattle.report_reader.specs.States.{lines_of, AreSoMany}
use Rattle.report_reader.proofs.change.pass_parts.Given as goal

-- the parts passed so far
abbrev pub invariant-loop-count : goal.invariant-loop-count
invariant-loop-count l = (p : Parts) × AreSoMany l.frame 8 l.count p × (lines_of p ++ l.rest ≡ l.bytes)
