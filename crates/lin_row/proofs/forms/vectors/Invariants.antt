use Rattle.lin_row.specs.System.{lines_of}
use Rattle.lin_row.specs.Forms.{AreKernelParts}
use Rattle.lin_row.proofs.forms.vectors.Given as goal

abbrev pub invariant-loop-c : goal.invariant-loop-c
invariant-loop-c g l = AreKernelParts (g.R.Ring.meaning l.ring) (lines_of l.pivots) l.c (lines_of l.all.items)
