use Rattle.std.proofs.Common.{◌≡◌, ◌++◌, take}
use Rattle.std.specs.List.{flat_map}
use Rattle.poly_text.specs.Numbers.{component_text}
use Rattle.poly_text.proofs.number.put_components.Given as goal

abbrev pub invariant-loop-q : goal.invariant-loop-q
invariant-loop-q l = l.pieces.items ≡ l.initial.pieces.items ++ flat_map (λ p. component_text (p.0, p.1.now)) (take l.q-index l.components)
