use Rattle.std.proofs.Common.{take}
use Rattle.std.specs.List.{All}
use Rattle.determinator.specs.Jets.{IsListed}
use Rattle.determinator.proofs.ending.see_jets.Given as goal

abbrev pub invariant-loop-jet : goal.invariant-loop-jet
invariant-loop-jet l = All IsListed (take l.jet-index l.jets)
