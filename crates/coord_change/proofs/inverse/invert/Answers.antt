use Rattle.std.proofs.Common.{◌≡◌, ◌∙◌, ◌<◌, ℕ, eqb, false, List, sym, subst, eqb-true, eq-eqb, arith, vec_len}
use Rattle.ring_law.proofs.Exits.{fault_handed_on}
use Rattle.lin_row.specs.Forms.{IsKernelBasis}
use Rattle.lin_row.specs.Rows.{rows_of}
use Rattle.lin_row.specs.Systems.{SystemIsHigh}
use Rattle.lin_row.specs.declared.row.Row.{Row}
use Rattle.coord_change.specs.Changes.{entry_of}
use Rattle.coord_change.proofs.MatrixRows
use Rattle.coord_change.proofs.KernelVectors
use Rattle.coord_change.proofs.RowSteps
use Rattle.coord_change.proofs.inverse.invert.Goals as goal

eqb-false : (a b : ℕ) → eqb a b ≡ false → a ≡ b → ⊥
eqb-false a b e h = let z = sym (eq-eqb a b h) ∙ e in cc z

positive : {k l : ℕ} → k ≡ l → (k ≡ 0 → ⊥) → 0 < l
positive e h = grind arith

pub returns-in_err-vectors-clause-range : goal.returns-in_err-vectors-clause-range
returns-in_err-vectors-clause-range g c =
    let m = g.F.Ring.meaning c.args.field.now in
    let laws = (g.met.F.Ring.laws c.args.field.now c.requires.ring).numbers in
    let inverts = g.met.F.Field.inverts c.args.field.now c.requires.ring in
    let n = c.args.n in
    let few = c.requires.at_most_8_rows in
    fault_handed_on _ c.from_residual-in_err-vectors.ensures.1
    (λ high. MatrixRows.high_of_rows m laws n (entry_of m n c.args.matrix.now) inverts 4294967296 (omega arith) (rows_of c.in_ok-rows.rows.items) c.in_ok-rows.ensures.forms
    (subst (SystemIsHigh m) c.deref.ensures.value high))
    c.in_err-vectors.ensures.range

pub inverse_of-requires-clause-regular : goal.inverse_of-requires-clause-regular
inverse_of-requires-clause-regular g c =
    let m = g.F.Ring.meaning c.args.field.now in
    let laws = (g.met.F.Ring.laws c.args.field.now c.requires.ring).numbers in
    let n = c.args.n in
    let size = c.in_ok-vectors.vectors.ok.0 in
    let none = eqb-true (vec_len c.in_ok-vectors.vectors) 0 (sym c.is_empty.ensures ∙ c.if-is_empty.true) in
    let basis : IsKernelBasis m (rows_of c.in_ok-rows.rows.items) n (rows_of c.in_ok-vectors.vectors.items) =
    subst (λ z. IsKernelBasis m (rows_of c.in_ok-rows.rows.items) z (rows_of c.in_ok-vectors.vectors.items)) c.from.ensures
    (subst (λ (zs : List (Row g.row.F-Elem.Denot)). IsKernelBasis m (rows_of zs) c.from.result (rows_of c.in_ok-vectors.vectors.items)) c.deref.ensures.value c.in_ok-vectors.ensures.basis) in
    KernelVectors.regular_of m laws n (entry_of m n c.args.matrix.now) (rows_of c.in_ok-rows.rows.items) c.in_ok-rows.ensures.forms c.in_ok-vectors.vectors.items (omega arith) basis

pub vector_of-requires-clause-line : goal.vector_of-requires-clause-line
vector_of-requires-clause-line g c =
    let m = g.F.Ring.meaning c.args.field.now in
    let size = c.in_ok-vectors.vectors.ok.0 in
    let some = eqb-false (vec_len c.in_ok-vectors.vectors) 0 (sym c.is_empty.ensures ∙ c.if-is_empty.false) in
    RowSteps.line-at m c.in_ok-vectors.vectors.items 0 c.index.result.now (positive size some) c.index.ensures
    (KernelVectors.basis_rows m (rows_of c.deref.result.now) c.from.result c.in_ok-vectors.vectors.items c.in_ok-vectors.ensures.basis)

pub returns-clause-inversion : goal.returns-clause-inversion
returns-clause-inversion g c =
    let m = g.F.Ring.meaning c.args.field.now in
    let laws = (g.met.F.Ring.laws c.args.field.now c.requires.ring).numbers in
    let n = c.args.n in
    let size = c.in_ok-vectors.vectors.ok.0 in
    let some = eqb-false (vec_len c.in_ok-vectors.vectors) 0 (sym c.is_empty.ensures ∙ c.if-is_empty.false) in
    let basis : IsKernelBasis m (rows_of c.in_ok-rows.rows.items) n (rows_of c.in_ok-vectors.vectors.items) =
    subst (λ z. IsKernelBasis m (rows_of c.in_ok-rows.rows.items) z (rows_of c.in_ok-vectors.vectors.items)) c.from.ensures
    (subst (λ (zs : List (Row g.row.F-Elem.Denot)). IsKernelBasis m (rows_of zs) c.from.result (rows_of c.in_ok-vectors.vectors.items)) c.deref.ensures.value c.in_ok-vectors.ensures.basis) in
    KernelVectors.kernel_of m laws n (entry_of m n c.args.matrix.now) (rows_of c.in_ok-rows.rows.items) c.in_ok-rows.ensures.forms c.in_ok-vectors.vectors.items c.index.result.now (positive size some) c.index.ensures basis
    c.in_ok-vector.vector.items c.in_ok-vector.ensures.count c.in_ok-vector.ensures.elems c.in_ok-vector.ensures.values
