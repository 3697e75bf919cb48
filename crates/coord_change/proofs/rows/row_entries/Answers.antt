use Rattle.std.proofs.Common.{◌≡◌, suc, ◌+◌, ◌*◌, sym, ◌∙◌, ap, ap₂, subst, get_or, arith}
use Rattle.poly_law.specs.Sums.{sum_to}
use Rattle.lin_row.specs.Lines.{AllBelow}
use Rattle.coord_change.specs.Changes.{entry_of}
use Rattle.coord_change.proofs.Matrices
use Rattle.coord_change.proofs.rows.row_entries.Goals as goal

pub loop-j-preserved : goal.loop-j-preserved
loop-j-preserved g c =
    let m = g.R.Ring.meaning c.args.ring.now in
    let n = c.args.n in
    let j = c.loop-j.j in
    let e₁ = c.from.ensures in
    let e₂ = c.from-in-loop-j.ensures in
    let e₃ = c.from-in-loop-j-2.ensures in
    let e₄ : c.from-in-loop-j-3.result ≡ j = c.from-in-loop-j-3.ensures in
    let w = entry_of m n c.args.matrix.now c.args.i in
    let next : suc j ≡ j + 1 = omega arith in
    let place : c.from.result * c.from-in-loop-j.result + c.from-in-loop-j-2.result ≡ n * c.args.i + j = ap₂ (λ y z. y + z) (ap₂ (λ y z. y * z) e₁ e₂) e₃ in
    let here : w j ≡ m.value c.index-matrix-from.result = Matrices.entry_read m n c.args.matrix.now c.args.i j c.index-matrix-from.result
    (let p = Matrices.place_inside n c.args.i j c.requires.row c.loop-j-test.true in let e = c.requires.entries in omega arith) (c.index-matrix-from.is ∙ ap (λ z. get_or c.args.matrix.now z c.index-matrix-from.result) place) in
    record {
      line = c.in_ok-push_entry.ensures.line;
      below = subst (λ z. AllBelow (z + 1) c.push_entry.new.entries.items) e₄ c.in_ok-push_entry.ensures.below;
      form = λ x. c.in_ok-push_entry.ensures.value x
          ∙ ap₂ m.scalars.ops.add (c.loop-j.invariant.form x) (ap₂ m.scalars.ops.mul (sym here) (ap x e₄))
          ∙ ap (λ z. sum_to m.scalars.ops z (λ d. m.scalars.ops.mul (w d) (x d))) next;
    }
