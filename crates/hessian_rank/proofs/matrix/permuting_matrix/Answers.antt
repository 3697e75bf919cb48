use Rattle.std.proofs.Common.{◌+◌, ◌/◌, ◌%◌, ◌∷◌, [], length, get_or, All, length-append, refl, sym, ◌∙◌, ap, subst, arith}
use Rattle.poly_law.specs.Sums.{unit_at}
use Rattle.jet_subst.proofs.Tables.{all_push}
use Rattle.coord_change.proofs.Matrices
use Rattle.hessian_rank.proofs.MatrixMoves.{permuting_matrix_is}
use Rattle.hessian_rank.proofs.matrix.permuting_matrix.Goals as goal

pub loop-place-preserved : goal.loop-place-preserved
loop-place-preserved g c =
    let m = g.R.Ring.meaning c.args.ring.now in
    let n = length c.args.order.now in
    let old = c.loop-place.matrix.items in
    let x = c.unit_entry-entry.result in
    record {
      count = ap length c.in_ok-push.ensures.items ∙ length-append old (x ∷ []) ∙ ap (λ z. z + 1) c.loop-place.invariant.count;
      elems = subst (All m.is_elem) (sym c.in_ok-push.ensures.items) (all_push m.is_elem old x c.loop-place.invariant.elems c.unit_entry-entry.ensures.elem);
      entries = Matrices.entries_more m old c.push.new.self.items x (λ k. unit_at m.scalars.ops (k / n) (get_or c.args.order.now (k % n) 0)) c.loop-place.place
          c.loop-place.invariant.count c.in_ok-push.ensures.items (c.unit_entry-entry.ensures.value ∙ ap (unit_at m.scalars.ops (c.loop-place.place / n)) c.from.ensures) c.loop-place.invariant.entries;
    }

pub returns-clause-matrix : goal.returns-clause-matrix
returns-clause-matrix g c =
    let m = g.R.Ring.meaning c.args.ring.now in
    let laws = (g.met.R.Ring.laws c.args.ring.now c.requires.ring).numbers in
    let n = length c.args.order.now in
    let last = c.loop-place-test.false in
    let end = c.loop-place.auto.place-end in
    let count = c.loop-place.invariant.count in
    permuting_matrix_is m laws n c.args.order.now refl c.requires.inside c.requires.distinct c.requires.onto c.loop-place.matrix.items
    (record {
      elems = c.loop-place.invariant.elems;
      count = omega arith;
      same = Matrices.entries_are m n c.loop-place.matrix.items (λ a b. unit_at m.scalars.ops a (get_or c.args.order.now b 0)) (omega arith)
          (λ k d h. c.loop-place.invariant.entries k d (omega arith));
    })
