use Rattle.std.proofs.Common.{◌≡◌, ◌++◌, take, codes}
use Rattle.std.specs.List.{flat_map}
use Rattle.poly_text.specs.Polynomials.{jet_text}
use Rattle.cert_text.proofs.evidence.put_multipliers.Given as goal

abbrev pub invariant-loop-multiplier : goal.invariant-loop-multiplier
invariant-loop-multiplier l = l.out.items ≡ l.initial.out.items ++ flat_map (λ f. codes " ; " ++ jet_text f) (take l.multiplier-index l.others)
