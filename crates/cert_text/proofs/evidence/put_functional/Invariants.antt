use Rattle.std.proofs.Common.{◌≡◌, ◌++◌, take}
use Rattle.std.specs.List.{flat_map}
use Rattle.cert_text.specs.Text.{functional_text}
use Rattle.cert_text.proofs.evidence.put_functional.Given as goal

abbrev pub invariant-loop-value : goal.invariant-loop-value
invariant-loop-value l = l.out.items ≡ l.initial.out.items ++ flat_map functional_text (take l.value-index l.values)
