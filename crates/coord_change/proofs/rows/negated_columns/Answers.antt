use Rattle.std.proofs.Common.{◌≡◌, ◌+◌, ◌*◌, ◌/◌, ◌%◌, ◌<◌, [], ◌∷◌, length, get_or, All, length-append, sym, ◌∙◌, ap, ap₂, subst, arith}
use Rattle.lin_row.specs.Lines.{IsLine, entry}
use Rattle.lin_row.specs.Rows.{rows_of}
use Rattle.lin_row.specs.declared.row.Row.{Row}
use Rattle.jet_subst.proofs.Tables.{all_push}
use Rattle.coord_change.proofs.Matrices
use Rattle.coord_change.proofs.RowSteps
use Rattle.coord_change.proofs.rows.negated_columns.Goals as goal

pub entry_at-x-requires-clause-line : goal.entry_at-x-requires-clause-line
entry_at-x-requires-clause-line g c =
    let m = g.R.Ring.meaning c.args.ring.now in
    let size = c.from-size.ensures in
    let given = c.requires.given in
    let count = c.requires.count in
    let inside : c.loop-place.place % c.from-size.result < c.from-size.result = Matrices.column_inside c.from-size.result c.loop-place.place (omega arith) in
    subst (IsLine m) (sym (c.as_slice-column.ensures ∙ ap (λ (r : Row g.row.R-Elem.Denot). r.entries) (sym c.index-columns-place.is)))
    (RowSteps.line-at m c.args.columns.now (c.loop-place.place % c.from-size.result) c.index-columns-place.result (omega arith) c.index-columns-place.is c.requires.rows)

pub loop-place-preserved : goal.loop-place-preserved
loop-place-preserved g c =
    let m = g.R.Ring.meaning c.args.ring.now in
    let size = c.from-size.ensures in
    let given = c.requires.given in
    let columns = c.requires.count in
    let rows = c.from-size.result in
    let inside : c.loop-place.place % rows < rows = Matrices.column_inside rows c.loop-place.place (omega arith) in
    record {
      count = ap length c.in_ok-push.ensures.items ∙ length-append c.loop-place.all.items (c.neg.result ∷ []) ∙ ap (λ z. z + 1) c.loop-place.invariant.count;
      elems = subst (All m.is_elem) (sym c.in_ok-push.ensures.items) (all_push m.is_elem c.loop-place.all.items c.neg.result c.loop-place.invariant.elems c.neg.ensures.elem);
      entries = Matrices.entries_more m c.loop-place.all.items c.push.new.self.items c.neg.result (λ k. m.scalars.ops.neg (entry m (get_or (rows_of c.args.columns.now) (k % rows) []) (k / rows))) c.loop-place.place
          c.loop-place.invariant.count c.in_ok-push.ensures.items
          (c.neg.ensures.value ∙ ap m.scalars.ops.neg (c.entry_at-x.ensures.value
          ∙ ap (λ zs. entry m zs (c.loop-place.place / rows)) (c.as_slice-column.ensures ∙ ap (λ (r : Row g.row.R-Elem.Denot). r.entries) (sym c.index-columns-place.is) ∙ sym (RowSteps.row-at c.args.columns.now (c.loop-place.place % rows) c.index-columns-place.result (omega arith) c.index-columns-place.is))))
          c.loop-place.invariant.entries;
    }

pub returns-clause-entries : goal.returns-clause-entries
returns-clause-entries g c =
    let m = g.R.Ring.meaning c.args.ring.now in
    let e : c.from-size.result ≡ c.args.n = c.from-size.ensures in
    let sq : c.from-size.result * c.from-size.result ≡ c.args.n * c.args.n = ap₂ (λ y z. y * z) e e in
    let last = c.loop-place-test.false in
    let end = c.loop-place.auto.place-end in
    let count = c.loop-place.invariant.count in
    Matrices.entries_are m c.args.n c.loop-place.all.items (λ i j. m.scalars.ops.neg (entry m (get_or (rows_of c.args.columns.now) j []) i)) (omega arith)
    (λ k d h. subst (λ z. m.value (get_or c.loop-place.all.items k d) ≡ m.scalars.ops.neg (entry m (get_or (rows_of c.args.columns.now) (k % z) []) (k / z))) e (c.loop-place.invariant.entries k d (omega arith)))
