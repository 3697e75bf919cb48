use Rattle.std.proofs.Common.{suc, sym, subst}
use Rattle.lin_row.specs.Forms.{AreKernelParts}
use Rattle.lin_row.specs.System.{lines_of}
use Rattle.lin_row.proofs.SystemLaws
use Rattle.lin_row.proofs.KernelLaws
use Rattle.lin_row.proofs.forms.add_vector.Goals as goal

pub returns-then-is_pivot-clause-parts : goal.returns-then-is_pivot-clause-parts
returns-then-is_pivot-clause-parts g c =
    let m = g.R.Ring.meaning c.args.ring.now in
    let pivot = rw c.if-is_pivot.true at c.is_pivot.ensures.pivot in
    KernelLaws.parts_pivot m (lines_of c.args.pivots.now) (lines_of c.args.vectors.now.items) c.args.column c.requires.parts pivot

pub kernel_vector-requires-clause-free : goal.kernel_vector-requires-clause-free
kernel_vector-requires-clause-free g c = rw c.if-is_pivot.false at c.is_pivot.ensures.free

pub returns-clause-parts : goal.returns-clause-parts
returns-clause-parts g c =
    let m = g.R.Ring.meaning c.args.ring.now in
    let free = rw c.if-is_pivot.false at c.is_pivot.ensures.free in
    let v = c.in_ok-vector.vector in
    rw c.in_ok-push.ensures.items
    (subst (AreKernelParts m (lines_of c.args.pivots.now) (suc c.args.column)) (sym (SystemLaws.lines-push c.args.vectors.now.items (c.args.column, v)))
    (KernelLaws.parts_push m (lines_of c.args.pivots.now) (lines_of c.args.vectors.now.items) c.args.column c.requires.parts v.items
    (record { line = c.in_ok-vector.ensures.line; free = free; vanish = c.in_ok-vector.ensures.vanish; same = c.in_ok-vector.ensures.same; last = c.in_ok-vector.ensures.last })))
