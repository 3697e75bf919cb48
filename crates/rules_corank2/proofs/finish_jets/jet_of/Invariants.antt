use Rattle.std.proofs.Common.{◌≡◌, ◌≤◌, length, take}
use Rattle.std.specs.List.{filter}
use Rattle.rules_corank2.proofs.OrderedTerms.{has_unit}
use Rattle.rules_corank2.proofs.finish_jets.jet_of.Given as goal

abbrev pub invariant-loop-t : goal.invariant-loop-t
invariant-loop-t g l = let m = g.R.Ring.meaning l.ring in record {
  within : l.t-index ≤ length l.terms;
  kept : l.kept.items ≡ filter (has_unit m) (take l.t-index l.terms);
}
