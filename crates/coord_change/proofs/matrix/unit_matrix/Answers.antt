use Rattle.std.proofs.Common.{◌≡◌, ◌+◌, ◌*◌, ◌/◌, ◌%◌, ◌∷◌, [], length, get_or, All, length-append, sym, ◌∙◌, ap, ap₂, subst, arith}
use Rattle.poly_law.specs.Sums.{unit_at}
use Rattle.jet_subst.proofs.Tables.{all_push}
use Rattle.coord_change.proofs.Matrices
use Rattle.coord_change.proofs.matrix.unit_matrix.Goals as goal

pub loop-place-preserved : goal.loop-place-preserved
loop-place-preserved g c =
    let m = g.R.Ring.meaning c.args.ring.now in
    record {
      count = ap length c.in_ok-push.ensures.items ∙ length-append c.loop-place.all.items (c.unit_entry-entry.result ∷ []) ∙ ap (λ z. z + 1) c.loop-place.invariant.count;
      elems = subst (All m.is_elem) (sym c.in_ok-push.ensures.items) (all_push m.is_elem c.loop-place.all.items c.unit_entry-entry.result c.loop-place.invariant.elems c.unit_entry-entry.ensures.elem);
      entries = Matrices.entries_more m c.loop-place.all.items c.push.new.self.items c.unit_entry-entry.result (λ k. unit_at m.scalars.ops (k / c.from-rows.result) (k % c.from-rows.result)) c.loop-place.place
          c.loop-place.invariant.count c.in_ok-push.ensures.items c.unit_entry-entry.ensures.value c.loop-place.invariant.entries;
    }

pub returns-clause-entries : goal.returns-clause-entries
returns-clause-entries g c =
    let m = g.R.Ring.meaning c.args.ring.now in
    let e : c.from-rows.result ≡ c.args.n = c.from-rows.ensures in
    let sq : c.from-rows.result * c.from-rows.result ≡ c.args.n * c.args.n = ap₂ (λ y z. y * z) e e in
    let last = c.loop-place-test.false in
    let end = c.loop-place.auto.place-end in
    let count = c.loop-place.invariant.count in
    Matrices.entries_are m c.args.n c.loop-place.all.items (unit_at m.scalars.ops) (omega arith)
    (λ k d h. subst (λ z. m.value (get_or c.loop-place.all.items k d) ≡ unit_at m.scalars.ops (k / z) (k % z)) e (c.loop-place.invariant.entries k d (omega arith)))
