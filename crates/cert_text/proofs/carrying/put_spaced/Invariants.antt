use Rattle.std.proofs.Common.{◌≡◌, ◌++◌, ◌∷◌, take}
use Rattle.std.specs.List.{flat_map}
use Rattle.poly_text.specs.Numbers.{element_text}
use Rattle.cert_text.proofs.carrying.put_spaced.Given as goal

abbrev pub invariant-loop-element : goal.invariant-loop-element
invariant-loop-element l = l.out.items ≡ l.initial.out.items ++ flat_map (λ v. 32 ∷ element_text v) (take l.element-index l.others)
