use Rattle.std.proofs.Common.{◌≡◌, ◌&&◌, leb, sum, take}
use Rattle.std.specs.List.{filter}
use Rattle.jet_poly.proofs.walk.between.Given as goal

abbrev pub invariant-loop-t : goal.invariant-loop-t
invariant-loop-t g l = l.kept.items ≡ filter (λ t. leb l.low (sum t.0.e) && leb (sum t.0.e) l.high) (take l.t-index l.terms)
