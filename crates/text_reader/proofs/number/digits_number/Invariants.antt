use Rattle.std.proofs.Common.{◌≤◌, take}
use Rattle.text_reader.specs.Digits.{IsValueOf}
use Rattle.text_reader.proofs.number.digits_number.Given as goal

abbrev pub invariant-loop-b : goal.invariant-loop-b
invariant-loop-b l = record {
  value : IsValueOf (take l.b-index l.bytes) l.value;
  small : l.value ≤ l.most;
}
