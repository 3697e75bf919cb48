use Rattle.std.proofs.Common.{◌≤◌, length, take}
use Rattle.jet_subst.specs.Blocks.{AreBlocks}
use Rattle.jet_subst.specs.KeptPowers.{IsKept, KeepsParts}
use Rattle.jet_subst.proofs.blocks.block.Given as goal

abbrev pub invariant-loop-t : goal.invariant-loop-t
invariant-loop-t g l = let m = g.R.Ring.meaning l.ring in let k = l.initial.kept in record {
  within : l.t-index ≤ length l.t-items;
  kept : IsKept m l.kept;
  stays : KeepsParts k l.kept;
  blocks : AreBlocks m k.n k.order k.parts (take l.t-index l.t-items) l.all.items;
}
