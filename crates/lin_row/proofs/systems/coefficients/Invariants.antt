use Rattle.std.proofs.Common.{◌≡◌, length}
use Rattle.lin_row.specs.Lines.{EachOf}
use Rattle.lin_row.specs.System.{AreNegated}
use Rattle.lin_row.proofs.systems.coefficients.Given as goal

abbrev pub invariant-loop-k : goal.invariant-loop-k
invariant-loop-k g l =
    record {
      length : length l.all.items ≡ l.k;
      valid : EachOf (g.R.Ring.meaning l.ring).is_elem l.all.items;
      value : AreNegated (g.R.Ring.meaning l.ring) l.left 4294967296 l.all.items;
    }
