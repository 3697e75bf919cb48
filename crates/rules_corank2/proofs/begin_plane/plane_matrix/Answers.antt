use Rattle.rules_corank2.proofs.PlaneMatrices
use Rattle.rules_corank2.proofs.begin_plane.plane_matrix.Goals as goal

pub returns-clause-matrix : goal.returns-clause-matrix
returns-clause-matrix g c =
    let m = g.R.Ring.meaning c.args.ring.now in
    let l = (g.met.R.Ring.laws c.args.ring.now c.requires.ring).numbers in
    let u = c.in_ok-matrix.ensures in
    PlaneMatrices.plane_entries m l c.args.n c.requires.two_variables c.in_ok-matrix.matrix.items c.args.x.0 c.args.x.1 c.args.y.0 c.args.y.1
    c.requires.x_elems.0 c.requires.x_elems.1 c.requires.y_elems.0 c.requires.y_elems.1 (record { elems = u.elems; count = u.count; same = u.entries }) c.from-rows.result c.from-rows.ensures
