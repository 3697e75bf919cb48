use Rattle.std.proofs.Common.{◌≡◌, ℕ, ◌+◌, ◌*◌, ◌<◌, ◌∷◌, [], inl, inr, List, get_or, take, set, map, vec_len, sym, ◌∙◌, ap, ap₂, subst, arith}
use Rattle.ring_law.proofs.Exits.{faulted}
use Rattle.mono_exp.proofs.Lists.{each-at}
use Rattle.jet_law.specs.Terms.{poly_of}
use Rattle.jet_poly.specs.Jets.{whole}
use Rattle.jet_subst.proofs.PowerLemmas.{any_default}
use Rattle.coord_change.specs.Moves.{at}
use Rattle.coord_change.proofs.Matrices
use Rattle.move_law.specs.Moves.{pair_exponents}
use Rattle.move_law.specs.Hessian.{others, entry, double, completing, moved_work}
use Rattle.lin_row.specs.Plain.{Among}
use Rattle.move_law.specs.Work as work
use Rattle.move_law.specs.Work.{IsWorkHigh}
use Rattle.split_lemma.specs.Splits.{AnyHigh}
use Rattle.hessian_rank.specs.Stages.{stage_of}
use Rattle.hessian_rank.proofs.NumberLists
use Rattle.hessian_rank.proofs.SumOfSquares.{not_where}
use Rattle.hessian_rank.proofs.AllSquares.{among-left, among-mapped}
use Rattle.hessian_rank.proofs.MatrixMoves.{IsRowTo, row_begins, row_set, completing_matrix_is}
use Rattle.hessian_rank.proofs.StageSteps.{others_inside, others_distinct, others_apart, take_end}
use Rattle.hessian_rank.proofs.matrix.completing_matrix.Goals as goal

pub entry-square-requires-clause-jet : goal.entry-square-requires-clause-jet
entry-square-requires-clause-jet g c = c.requires.stage.form

pub entry-square-requires-clause-at_most_8_variables : goal.entry-square-requires-clause-at_most_8_variables
entry-square-requires-clause-at_most_8_variables g c = let a = c.requires.stage.form_variables in let b = c.requires.stage.change.at_most_8_variables in omega arith

pub entry-square-requires-clause-first : goal.entry-square-requires-clause-first
entry-square-requires-clause-first g c =
    let a = c.requires.stage.form_variables in
    let h = NumberLists.each-has (λ i. i < c.args.stage.now.change.n) c.args.stage.now.opened.items c.args.i c.requires.sound.opened_inside c.requires.open in
    omega arith

pub entry-square-requires-clause-second : goal.entry-square-requires-clause-second
entry-square-requires-clause-second g c =
    let a = c.requires.stage.form_variables in
    let h = NumberLists.each-has (λ i. i < c.args.stage.now.change.n) c.args.stage.now.opened.items c.args.i c.requires.sound.opened_inside c.requires.open in
    omega arith

pub half_inverse-requires-clause-unit : goal.half_inverse-requires-clause-unit
half_inverse-requires-clause-unit g c z =
    let m = g.F.Ring.meaning c.args.field.now in
    let laws = (g.met.F.Ring.laws c.args.field.now c.requires.ring).numbers in
    let inverts = g.met.F.Field.inverts c.args.field.now c.requires.ring in
    let n = c.args.stage.now.change.n in
    let q = stage_of m n c.args.stage.now in
    let value = subst (λ z. m.value c.entry-square.result ≡ at z m.scalars (poly_of z m.value c.args.stage.now.form.terms) (pair_exponents z c.args.i c.args.i)) c.requires.stage.form_variables c.entry-square.ensures.value in
    not_where n m.scalars laws inverts (entry n m.scalars q c.args.i c.args.i) c.requires.square (sym value ∙ z)

pub unit_matrix-requires-clause-given : goal.unit_matrix-requires-clause-given
unit_matrix-requires-clause-given g c = c.requires.stage.change.given

pub unit_matrix-requires-clause-at_most_8_rows : goal.unit_matrix-requires-clause-at_most_8_rows
unit_matrix-requires-clause-at_most_8_rows g c = c.requires.stage.change.at_most_8_variables

pub entry-product-requires-clause-jet : goal.entry-product-requires-clause-jet
entry-product-requires-clause-jet g c = c.requires.stage.form

pub entry-product-requires-clause-at_most_8_variables : goal.entry-product-requires-clause-at_most_8_variables
entry-product-requires-clause-at_most_8_variables g c = let a = c.requires.stage.form_variables in let b = c.requires.stage.change.at_most_8_variables in omega arith

pub entry-product-requires-clause-first : goal.entry-product-requires-clause-first
entry-product-requires-clause-first g c =
    let a = c.requires.stage.form_variables in
    let h = NumberLists.each-has (λ i. i < c.args.stage.now.change.n) c.args.stage.now.opened.items c.args.i c.requires.sound.opened_inside c.requires.open in
    omega arith

pub entry-product-requires-clause-second : goal.entry-product-requires-clause-second
entry-product-requires-clause-second g c =
    let m = g.F.Ring.meaning c.args.field.now in
    let n = c.args.stage.now.change.n in
    let a = c.requires.stage.form_variables in
    let h = each-at (λ i. i < n) c.args.others.now c.loop-j.j-index 0 c.loop-j-test.true (others_inside n m.scalars (stage_of m n c.args.stage.now) c.requires.sound c.args.i c.args.others.now c.requires.others) in
    omega arith

pub returns-in_err-inverse-clause-range : goal.returns-in_err-inverse-clause-range
returns-in_err-inverse-clause-range g c =
    let m = g.F.Ring.meaning c.args.field.now in
    let s = m.scalars in
    let n = c.args.stage.now.change.n in
    let i = c.args.i in
    let q = stage_of m n c.args.stage.now in
    let value = subst (λ z. m.value c.entry-square.result ≡ at z s (poly_of z m.value c.args.stage.now.form.terms) (pair_exponents z i i)) c.requires.stage.form_variables c.entry-square.ensures.value in
    faulted _ c.from_residual.ensures.1
    (λ high. elim (subst (λ v. AnyHigh 0 s (work.product (whole s 2) v ∷ work.inverse (s.ops.mul (whole s 2) v) ∷ [])) value high) [
      | inl h ↦ inl h
      | inr h ↦ elim h [ inl k ↦ inr (inl k) | inr z ↦ absurd z ]
    ])
    c.in_err-inverse.ensures.range

pub loop-j-init : goal.loop-j-init
loop-j-init g c =
    let m = g.F.Ring.meaning c.args.field.now in
    let laws = (g.met.F.Ring.laws c.args.field.now c.requires.ring).numbers in
    let n = c.args.stage.now.change.n in
    row_begins m laws n (stage_of m n c.args.stage.now) c.args.i c.in_ok-matrix.matrix.items
    (record { elems = c.in_ok-matrix.ensures.elems; count = c.in_ok-matrix.ensures.count; same = c.in_ok-matrix.ensures.entries })

pub returns-in_err-quotient-clause-range : goal.returns-in_err-quotient-clause-range
returns-in_err-quotient-clause-range g c =
    let m = g.F.Ring.meaning c.args.field.now in
    let s = m.scalars in
    let n = c.args.stage.now.change.n in
    let i = c.args.i in
    let q = stage_of m n c.args.stage.now in
    let k = c.loop-j.j-index in
    let j = get_or c.args.others.now k 0 in
    let value = subst (λ z. m.value c.entry-product.result ≡ at z s (poly_of z m.value c.args.stage.now.form.terms) (pair_exponents z i j)) c.requires.stage.form_variables c.entry-product.ensures.value in
    let square = subst (λ z. m.value c.entry-square.result ≡ at z s (poly_of z m.value c.args.stage.now.form.terms) (pair_exponents z i i)) c.requires.stage.form_variables c.entry-square.ensures.value in
    let inverse = c.in_ok-inverse.ensures.value ∙ ap (λ v. s.inverse (s.ops.mul (whole s 2) v)) square in
    faulted _ c.from_residual-in_err-quotient.ensures.1
    (λ high. inr (inr (among-left (IsWorkHigh n s) (map (λ j. work.product (entry n s q i j) (s.inverse (double n s q i))) (others i q.opened)) (moved_work n s (completing n s i q) q)
    (subst (λ (js : List ℕ). Among (IsWorkHigh n s) (map (λ j. work.product (entry n s q i j) (s.inverse (double n s q i))) js)) c.requires.others
    (among-mapped (IsWorkHigh n s) (λ j. work.product (entry n s q i j) (s.inverse (double n s q i))) c.args.others.now k 0 c.loop-j-test.true
    (subst (λ v. IsWorkHigh n s (work.product (entry n s q i j) v)) inverse (subst (λ v. IsWorkHigh n s (work.product v (m.value c.in_ok-inverse.inverse))) value high)))))))
    c.in_err-quotient.ensures.cause

pub index_mut-requires : goal.index_mut-requires
index_mut-requires g c =
    let m = g.F.Ring.meaning c.args.field.now in
    let n = c.args.stage.now.change.n in
    let i = c.args.i in
    let q = stage_of m n c.args.stage.now in
    let j = get_or c.args.others.now c.loop-j.j-index 0 in
    let hi = NumberLists.each-has (λ i. i < n) q.opened i c.requires.sound.opened_inside c.requires.open in
    let hj = each-at (λ i. i < n) c.args.others.now c.loop-j.j-index 0 c.loop-j-test.true (others_inside n m.scalars q c.requires.sound i c.args.others.now c.requires.others) in
    let place : c.from.result * c.from-in-loop-j.result + c.from-in-loop-j-2.result ≡ n * i + j = ap₂ (λ y z. y + z) (ap₂ (λ y z. y * z) c.from.ensures c.from-in-loop-j.ensures) c.from-in-loop-j-2.ensures in
    let count = c.loop-j.invariant.count in
    let inside = Matrices.place_inside n i j hi hj in
    let size = c.loop-j.matrix.ok.0 in
    subst (λ p. p < vec_len c.loop-j.matrix) (sym place) (omega arith)

pub loop-j-preserved : goal.loop-j-preserved
loop-j-preserved g c =
    let m = g.F.Ring.meaning c.args.field.now in
    let s = m.scalars in
    let laws = (g.met.F.Ring.laws c.args.field.now c.requires.ring).numbers in
    let n = c.args.stage.now.change.n in
    let i = c.args.i in
    let q = stage_of m n c.args.stage.now in
    let k = c.loop-j.j-index in
    let xs = c.args.others.now in
    let j = get_or xs k 0 in
    let value = subst (λ z. m.value c.entry-product.result ≡ at z s (poly_of z m.value c.args.stage.now.form.terms) (pair_exponents z i j)) c.requires.stage.form_variables c.entry-product.ensures.value in
    let square = subst (λ z. m.value c.entry-square.result ≡ at z s (poly_of z m.value c.args.stage.now.form.terms) (pair_exponents z i i)) c.requires.stage.form_variables c.entry-square.ensures.value in
    let inverse = c.in_ok-inverse.ensures.value ∙ ap (λ v. s.inverse (s.ops.mul (whole s 2) v)) square in
    let coefficient = c.neg.ensures.value ∙ ap s.ops.neg (c.in_ok-quotient.ensures.value ∙ ap₂ s.ops.mul value inverse) in
    let place : c.from.result * c.from-in-loop-j.result + c.from-in-loop-j-2.result ≡ n * i + j = ap₂ (λ y z. y + z) (ap₂ (λ y z. y * z) c.from.ensures c.from-in-loop-j.ensures) c.from-in-loop-j-2.ensures in
    let hi = NumberLists.each-has (λ i. i < n) q.opened i c.requires.sound.opened_inside c.requires.open in
    subst (λ p. IsRowTo m n q i (take (k + 1) xs) (set c.loop-j.matrix.items p c.neg.result)) (sym place)
    (row_set m laws n q i xs k j c.neg.result c.loop-j.matrix.items (others_inside n s q c.requires.sound i xs c.requires.others) (others_distinct n s q c.requires.sound i xs c.requires.others) (others_apart n s q c.requires.sound i xs c.requires.others)
    hi c.loop-j-test.true (any_default xs k 0 j c.loop-j-test.true) c.neg.ensures.elem coefficient c.loop-j.invariant)

pub returns-clause-matrix : goal.returns-clause-matrix
returns-clause-matrix g c =
    let m = g.F.Ring.meaning c.args.field.now in
    let laws = (g.met.F.Ring.laws c.args.field.now c.requires.ring).numbers in
    let n = c.args.stage.now.change.n in
    let i = c.args.i in
    let q = stage_of m n c.args.stage.now in
    let hi = NumberLists.each-has (λ i. i < n) q.opened i c.requires.sound.opened_inside c.requires.open in
    let all = subst (λ (js : List ℕ). IsRowTo m n q i js c.loop-j.matrix.items) (take_end c.args.others.now c.loop-j.j-index c.loop-j-test.false ∙ c.requires.others) c.loop-j.invariant in
    completing_matrix_is m laws n q i c.requires.sound hi c.loop-j.matrix.items (record { elems = all.elems; count = all.count; same = all.same })
