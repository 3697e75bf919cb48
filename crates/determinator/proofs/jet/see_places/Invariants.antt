use Rattle.std.proofs.Common.{◌≡◌, length, take}
use Rattle.std.specs.List.{All}
use Rattle.determinator.proofs.jet.see_places.Given as goal

abbrev pub invariant-loop-t : goal.invariant-loop-t
invariant-loop-t g l = All (λ t. length t.0.e ≡ 8) (take l.t-index l.terms)
