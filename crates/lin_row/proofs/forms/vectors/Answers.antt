use Rattle.std.proofs.Common.{◌≡◌, ◌+◌, suc, subst, arith}
use Rattle.lin_row.specs.Forms.{AreKernelParts}
use Rattle.lin_row.specs.System.{lines_of}
use Rattle.lin_row.proofs.forms.vectors.Goals as goal

pub loop-c-init : goal.loop-c-init
loop-c-init g c = rw c.new-all.ensures.items (record { parts = tt; rising = tt; below = tt; complete = λ d low free absent. omega (arith, low) })

pub add_vector-requires-clause-parts : goal.add_vector-requires-clause-parts
add_vector-requires-clause-parts g c = rw c.from.ensures c.loop-c.invariant

pub loop-c-preserved : goal.loop-c-preserved
loop-c-preserved g c =
    let m = g.R.Ring.meaning c.args.ring.now in
    let e : suc c.from.result ≡ c.loop-c.c + 1 = (let k = c.from.ensures in omega (arith, k)) in
    subst (λ n. AreKernelParts m (lines_of c.args.pivots.now) n (lines_of c.add_vector.new.vectors.items)) e c.in_ok-add_vector.ensures.parts
