use Rattle.std.proofs.Common.{◌∙◌, ◌+◌, List, [], get_or, length, sym, ap, subst, arith}
use Rattle.ring_law.proofs.Exits.{fault_handed_on}
use Rattle.lin_row.specs.Lines.{entry}
use Rattle.lin_row.specs.Forms.{IsKernelBasis}
use Rattle.lin_row.specs.Rows.{AreRows, rows_of}
use Rattle.lin_row.specs.Systems.{SystemIsHigh}
use Rattle.lin_row.specs.declared.row.Row.{Row}
use Rattle.lin_row.proofs.BuildLaws
use Rattle.coord_change.specs.Changes.{entry_of}
use Rattle.coord_change.proofs.MatrixRows
use Rattle.coord_change.proofs.KernelVectors
use Rattle.coord_change.proofs.RowSteps
use Rattle.coord_change.proofs.inverse.inverse_of.Goals as goal

pub returns-in_err-vectors-clause-range : goal.returns-in_err-vectors-clause-range
returns-in_err-vectors-clause-range g c =
    let m = g.F.Ring.meaning c.args.field.now in
    let laws = (g.met.F.Ring.laws c.args.field.now c.requires.ring).numbers in
    let inverts = g.met.F.Field.inverts c.args.field.now c.requires.ring in
    let n = c.args.n in
    let few = c.requires.at_most_8_rows in
    fault_handed_on _ c.from_residual-in_err-vectors.ensures.1
    (λ high. MatrixRows.high_of_extended_rows m laws n (entry_of m n c.args.matrix.now) inverts 4294967296 (omega arith) (rows_of c.in_ok-rows.rows.items) c.in_ok-rows.ensures.forms c.requires.regular
    (subst (SystemIsHigh m) c.deref.ensures.value high))
    c.in_err-vectors.ensures.range

pub negated_columns-requires-clause-rows : goal.negated_columns-requires-clause-rows
negated_columns-requires-clause-rows g c =
    let m = g.F.Ring.meaning c.args.field.now in
    subst (AreRows m) (sym c.deref-2.ensures.value) (KernelVectors.basis_rows m (rows_of c.deref.result.now) c.from.result c.in_ok-vectors.vectors.items c.in_ok-vectors.ensures.basis)

pub negated_columns-requires-clause-count : goal.negated_columns-requires-clause-count
negated_columns-requires-clause-count g c =
    let m = g.F.Ring.meaning c.args.field.now in
    let laws = (g.met.F.Ring.laws c.args.field.now c.requires.ring).numbers in
    let inverts = g.met.F.Field.inverts c.args.field.now c.requires.ring in
    let n = c.args.n in
    let basis : IsKernelBasis m (rows_of c.in_ok-rows.rows.items) (n + n) (rows_of c.in_ok-vectors.vectors.items) =
    subst (λ z. IsKernelBasis m (rows_of c.in_ok-rows.rows.items) z (rows_of c.in_ok-vectors.vectors.items)) c.from.ensures
    (subst (λ (zs : List (Row g.row.F-Elem.Denot)). IsKernelBasis m (rows_of zs) c.from.result (rows_of c.in_ok-vectors.vectors.items)) c.deref.ensures.value c.in_ok-vectors.ensures.basis) in
    ap length c.deref-2.ensures.value ∙ sym (BuildLaws.rows-length c.in_ok-vectors.vectors.items)
    ∙ KernelVectors.vectors_count m laws n (entry_of m n c.args.matrix.now) inverts (rows_of c.in_ok-rows.rows.items) (rows_of c.in_ok-vectors.vectors.items) c.in_ok-rows.ensures.forms c.requires.regular basis

pub returns-clause-inverse : goal.returns-clause-inverse
returns-clause-inverse g c =
    let m = g.F.Ring.meaning c.args.field.now in
    let laws = (g.met.F.Ring.laws c.args.field.now c.requires.ring).numbers in
    let inverts = g.met.F.Field.inverts c.args.field.now c.requires.ring in
    let n = c.args.n in
    let basis : IsKernelBasis m (rows_of c.in_ok-rows.rows.items) (n + n) (rows_of c.in_ok-vectors.vectors.items) =
    subst (λ z. IsKernelBasis m (rows_of c.in_ok-rows.rows.items) z (rows_of c.in_ok-vectors.vectors.items)) c.from.ensures
    (subst (λ (zs : List (Row g.row.F-Elem.Denot)). IsKernelBasis m (rows_of zs) c.from.result (rows_of c.in_ok-vectors.vectors.items)) c.deref.ensures.value c.in_ok-vectors.ensures.basis) in
    RowSteps.if_ok_three c.negated_columns.result
    (λ v elems count entries. record {
      elems = elems;
      count = count;
      inverse = KernelVectors.inverse_of_vectors m laws n (entry_of m n c.args.matrix.now) inverts (rows_of c.in_ok-rows.rows.items) (rows_of c.in_ok-vectors.vectors.items) c.in_ok-rows.ensures.forms c.requires.regular basis (entry_of m n v.items)
          (λ d k h y. entries d k h y ∙ ap (λ (zs : List (Row g.row.F-Elem.Denot)). m.scalars.ops.neg (entry m (get_or (rows_of zs) k []) d)) c.deref-2.ensures.value);
    })
    c.negated_columns.ensures.elems c.negated_columns.ensures.count c.negated_columns.ensures.entries
