use Rattle.std.proofs.Common.{◌≡◌, ◌+◌, ◌*◌, ◌/◌, ◌%◌, ◌∷◌, [], length, get_or, All, length-append, sym, ◌∙◌, ap, ap₂, subst, arith}
use Rattle.ring_law.proofs.Exits.{faulted}
use Rattle.poly_law.specs.Sums.{sum_to}
use Rattle.jet_subst.proofs.Tables.{all_push}
use Rattle.coord_change.specs.Changes.{entry_of, IsMatrixHigh}
use Rattle.coord_change.proofs.Matrices
use Rattle.coord_change.proofs.matrix.matrix_product.Goals as goal

pub loop-place-preserved : goal.loop-place-preserved
loop-place-preserved g c =
    let m = g.R.Ring.meaning c.args.ring.now in
    let rows = c.from-rows.result in
    record {
      count = ap length c.in_ok-push.ensures.items ∙ length-append c.loop-place.all.items (c.in_ok-entry.entry ∷ []) ∙ ap (λ z. z + 1) c.loop-place.invariant.count;
      elems = subst (All m.is_elem) (sym c.in_ok-push.ensures.items) (all_push m.is_elem c.loop-place.all.items c.in_ok-entry.entry c.loop-place.invariant.elems c.in_ok-entry.ensures.elem);
      entries = Matrices.entries_more m c.loop-place.all.items c.push.new.self.items c.in_ok-entry.entry
          (λ k. sum_to m.scalars.ops rows (λ t. m.scalars.ops.mul (entry_of m rows c.args.b.now (k / rows) t) (entry_of m rows c.args.a.now t (k % rows)))) c.loop-place.place
          c.loop-place.invariant.count c.in_ok-push.ensures.items c.in_ok-entry.ensures.value c.loop-place.invariant.entries;
    }

pub returns-clause-entries : goal.returns-clause-entries
returns-clause-entries g c =
    let m = g.R.Ring.meaning c.args.ring.now in
    let e : c.from-rows.result ≡ c.args.n = c.from-rows.ensures in
    let sq : c.from-rows.result * c.from-rows.result ≡ c.args.n * c.args.n = ap₂ (λ y z. y * z) e e in
    let last = c.loop-place-test.false in
    let end = c.loop-place.auto.place-end in
    let count = c.loop-place.invariant.count in
    Matrices.entries_are m c.args.n c.loop-place.all.items
    (λ i j. sum_to m.scalars.ops c.args.n (λ t. m.scalars.ops.mul (entry_of m c.args.n c.args.b.now i t) (entry_of m c.args.n c.args.a.now t j))) (omega arith)
    (λ k d h. subst (λ z. m.value (get_or c.loop-place.all.items k d) ≡ sum_to m.scalars.ops z (λ t. m.scalars.ops.mul (entry_of m z c.args.b.now (k / z) t) (entry_of m z c.args.a.now t (k % z)))) e
    (c.loop-place.invariant.entries k d (omega arith)))

pub returns-in_err-entry-clause-range : goal.returns-in_err-entry-clause-range
returns-in_err-entry-clause-range g c =
    let m = g.R.Ring.meaning c.args.ring.now in
    let rows = c.from-rows.result in
    let place = c.loop-place.place in
    faulted _ c.from_residual.ensures.1
    (λ high. subst (λ z. IsMatrixHigh m.scalars z (entry_of m z c.args.b.now) (entry_of m z c.args.a.now)) c.from-rows.ensures
    (record {
      row = place / rows;
      column = place % rows;
      row_inside = Matrices.row_inside rows place (let e = c.from-rows.ensures in let z = c.requires.given in omega arith) c.loop-place-test.true;
      column_inside = Matrices.column_inside rows place (let e = c.from-rows.ensures in let z = c.requires.given in omega arith);
      entry = high;
    }))
    c.in_err-entry.ensures.range
