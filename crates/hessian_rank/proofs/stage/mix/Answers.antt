use Rattle.std.proofs.Common.{◌≡◌, ℕ, ◌+◌, ◌*◌, ◌<◌, Some, None, List, vec_len, set, sym, ap, ap₂, subst, arith}
use Rattle.ring_law.proofs.Exits.{fault_handed_on}
use Rattle.coord_change.proofs.Matrices
use Rattle.move_law.specs.Hessian.{moved, mixing, close, moved_work, close_work}
use Rattle.move_law.specs.Work.{IsWorkHigh}
use Rattle.split_lemma.specs.Splits.{AnyHigh}
use Rattle.hessian_rank.specs.Sound.{Has}
use Rattle.hessian_rank.specs.Stages.{stage_of, IsStageFor, IsMatrixOf}
use Rattle.hessian_rank.proofs.AllSquares.{among-left, among-right}
use Rattle.hessian_rank.proofs.MatrixMoves.{mixed_matrix}
use Rattle.hessian_rank.proofs.StageSteps.{pair_found, inside_form, next_nothing, next_mixed, pair_facts, pair_inside, mixed_is_sound, mixed_has, own_stage, own_sound, own_entry, own_step, own_work}
use Rattle.hessian_rank.proofs.stage.mix.Goals as goal

pub first_pair-requires-clause-jet : goal.first_pair-requires-clause-jet
first_pair-requires-clause-jet g c = c.requires.stage.form

pub first_pair-requires-clause-at_most_8_variables : goal.first_pair-requires-clause-at_most_8_variables
first_pair-requires-clause-at_most_8_variables g c = let a = c.requires.stage.form_variables in let b = c.requires.stage.change.at_most_8_variables in omega arith

pub first_pair-requires-clause-inside : goal.first_pair-requires-clause-inside
first_pair-requires-clause-inside g c =
    inside_form (g.F.Ring.meaning c.args.field.now) c.args.stage.change.n c.args.stage c.requires.stage.form_variables c.deref.result.now c.deref.ensures.value c.requires.sound.opened_inside

pub unit_matrix-requires-clause-given : goal.unit_matrix-requires-clause-given
unit_matrix-requires-clause-given g c = c.requires.stage.change.given

pub unit_matrix-requires-clause-at_most_8_rows : goal.unit_matrix-requires-clause-at_most_8_rows
unit_matrix-requires-clause-at_most_8_rows g c = c.requires.stage.change.at_most_8_variables

pub returns-in-None-clause-next : goal.returns-in-None-clause-next
returns-in-None-clause-next g c =
    let m = g.F.Ring.meaning c.args.field.now in
    let s = m.scalars in
    let laws = (g.met.F.Ring.laws c.args.field.now c.requires.ring).numbers in
    let inverts = g.met.F.Field.inverts c.args.field.now c.requires.ring in
    let n = c.args.stage.change.n in
    let q = stage_of m n c.args.stage in
    record { stage = c.requires.stage; is = sym (next_nothing n s q c.requires.no_square (pair_found m n c.args.stage c.requires.stage.form_variables c.deref.result.now c.deref.ensures.value None c.in-None.ensures)) }

pub index_mut-requires : goal.index_mut-requires
index_mut-requires g c =
    let m = g.F.Ring.meaning c.args.field.now in
    let s = m.scalars in
    let laws = (g.met.F.Ring.laws c.args.field.now c.requires.ring).numbers in
    let inverts = g.met.F.Field.inverts c.args.field.now c.requires.ring in
    let n = c.args.stage.change.n in
    let q = stage_of m n c.args.stage in
    let p = c.in-Some.pair in
    let e = pair_found m n c.args.stage c.requires.stage.form_variables c.deref.result.now c.deref.ensures.value (Some p) c.in-Some.ensures in
    let inside = pair_inside n s q laws inverts c.requires.sound c.requires.no_square p e in
    let place : c.from.result * c.from-2.result + c.from-3.result ≡ n * p.1 + p.0 = ap₂ (λ y z. y + z) (ap₂ (λ y z. y * z) c.from.ensures c.from-2.ensures) c.from-3.ensures in
    let count = c.in_ok-matrix.ensures.count in
    let here = Matrices.place_inside n p.1 p.0 inside.1 inside.0 in
    let size = c.in_ok-matrix.matrix.ok.0 in
    subst (λ z. z < vec_len c.in_ok-matrix.matrix) (sym place) (omega arith)

pub moved-requires-clause-matrix : goal.moved-requires-clause-matrix
moved-requires-clause-matrix g c =
    let m = g.F.Ring.meaning c.args.field.now in
    let s = m.scalars in
    let laws = (g.met.F.Ring.laws c.args.field.now c.requires.ring).numbers in
    let inverts = g.met.F.Field.inverts c.args.field.now c.requires.ring in
    let n = c.args.stage.change.n in
    let q = stage_of m n c.args.stage in
    let p = c.in-Some.pair in
    let e = pair_found m n c.args.stage c.requires.stage.form_variables c.deref.result.now c.deref.ensures.value (Some p) c.in-Some.ensures in
    let facts = pair_facts n s q laws inverts c.requires.sound c.requires.no_square p e in
    let inside = pair_inside n s q laws inverts c.requires.sound c.requires.no_square p e in
    let place : c.from.result * c.from-2.result + c.from-3.result ≡ n * p.1 + p.0 = ap₂ (λ y z. y + z) (ap₂ (λ y z. y * z) c.from.ensures c.from-2.ensures) c.from-3.ensures in
    let matrix = subst (λ z. IsMatrixOf m n (mixing n s p) (set c.in_ok-matrix.matrix.items z c.one.result)) (sym place)
    (mixed_matrix m laws n p inside.0 inside.1 facts.2 c.one.result c.one.ensures.elem c.one.ensures.value c.in_ok-matrix.matrix.items
    (record { elems = c.in_ok-matrix.ensures.elems; count = c.in_ok-matrix.ensures.count; same = c.in_ok-matrix.ensures.entries })) in
    let here = subst (λ (es : List g.row.F-Elem.Denot). IsMatrixOf m n (mixing n s p) es) (sym c.deref-2.ensures.value) matrix in
    here.matrix

pub close-requires-clause-stage : goal.close-requires-clause-stage
close-requires-clause-stage g c =
    let m = g.F.Ring.meaning c.args.field.now in
    let s = m.scalars in
    let laws = (g.met.F.Ring.laws c.args.field.now c.requires.ring).numbers in
    let inverts = g.met.F.Field.inverts c.args.field.now c.requires.ring in
    let n = c.args.stage.change.n in
    let q = stage_of m n c.args.stage in
    let p = c.in-Some.pair in
    let e = pair_found m n c.args.stage c.requires.stage.form_variables c.deref.result.now c.deref.ensures.value (Some p) c.in-Some.ensures in
    let facts = pair_facts n s q laws inverts c.requires.sound c.requires.no_square p e in
    let inside = pair_inside n s q laws inverts c.requires.sound c.requires.no_square p e in
    let place : c.from.result * c.from-2.result + c.from-3.result ≡ n * p.1 + p.0 = ap₂ (λ y z. y + z) (ap₂ (λ y z. y * z) c.from.ensures c.from-2.ensures) c.from-3.ensures in
    let matrix = subst (λ z. IsMatrixOf m n (mixing n s p) (set c.in_ok-matrix.matrix.items z c.one.result)) (sym place)
    (mixed_matrix m laws n p inside.0 inside.1 facts.2 c.one.result c.one.ensures.elem c.one.ensures.value c.in_ok-matrix.matrix.items
    (record { elems = c.in_ok-matrix.ensures.elems; count = c.in_ok-matrix.ensures.count; same = c.in_ok-matrix.ensures.entries })) in
    let here = subst (λ (es : List g.row.F-Elem.Denot). IsMatrixOf m n (mixing n s p) es) (sym c.deref-2.ensures.value) matrix in
    let mixed = c.in_ok-mixed.ensures.moved (mixing n s p) here.linear in
    let q2 = moved n s (mixing n s p) q in
    own_stage m n q2 c.in_ok-mixed.mixed mixed

pub close-requires-clause-sound : goal.close-requires-clause-sound
close-requires-clause-sound g c =
    let m = g.F.Ring.meaning c.args.field.now in
    let s = m.scalars in
    let laws = (g.met.F.Ring.laws c.args.field.now c.requires.ring).numbers in
    let inverts = g.met.F.Field.inverts c.args.field.now c.requires.ring in
    let n = c.args.stage.change.n in
    let q = stage_of m n c.args.stage in
    let p = c.in-Some.pair in
    let e = pair_found m n c.args.stage c.requires.stage.form_variables c.deref.result.now c.deref.ensures.value (Some p) c.in-Some.ensures in
    let facts = pair_facts n s q laws inverts c.requires.sound c.requires.no_square p e in
    let inside = pair_inside n s q laws inverts c.requires.sound c.requires.no_square p e in
    let place : c.from.result * c.from-2.result + c.from-3.result ≡ n * p.1 + p.0 = ap₂ (λ y z. y + z) (ap₂ (λ y z. y * z) c.from.ensures c.from-2.ensures) c.from-3.ensures in
    let matrix = subst (λ z. IsMatrixOf m n (mixing n s p) (set c.in_ok-matrix.matrix.items z c.one.result)) (sym place)
    (mixed_matrix m laws n p inside.0 inside.1 facts.2 c.one.result c.one.ensures.elem c.one.ensures.value c.in_ok-matrix.matrix.items
    (record { elems = c.in_ok-matrix.ensures.elems; count = c.in_ok-matrix.ensures.count; same = c.in_ok-matrix.ensures.entries })) in
    let here = subst (λ (es : List g.row.F-Elem.Denot). IsMatrixOf m n (mixing n s p) es) (sym c.deref-2.ensures.value) matrix in
    let mixed = c.in_ok-mixed.ensures.moved (mixing n s p) here.linear in
    let q2 = moved n s (mixing n s p) q in
    own_sound m n q2 c.in_ok-mixed.mixed mixed (mixed_is_sound n s q laws inverts c.requires.sound c.requires.no_square p e)

pub close-requires-clause-open : goal.close-requires-clause-open
close-requires-clause-open g c =
    let m = g.F.Ring.meaning c.args.field.now in
    let s = m.scalars in
    let laws = (g.met.F.Ring.laws c.args.field.now c.requires.ring).numbers in
    let inverts = g.met.F.Field.inverts c.args.field.now c.requires.ring in
    let n = c.args.stage.change.n in
    let q = stage_of m n c.args.stage in
    let p = c.in-Some.pair in
    let e = pair_found m n c.args.stage c.requires.stage.form_variables c.deref.result.now c.deref.ensures.value (Some p) c.in-Some.ensures in
    let facts = pair_facts n s q laws inverts c.requires.sound c.requires.no_square p e in
    let inside = pair_inside n s q laws inverts c.requires.sound c.requires.no_square p e in
    let place : c.from.result * c.from-2.result + c.from-3.result ≡ n * p.1 + p.0 = ap₂ (λ y z. y + z) (ap₂ (λ y z. y * z) c.from.ensures c.from-2.ensures) c.from-3.ensures in
    let matrix = subst (λ z. IsMatrixOf m n (mixing n s p) (set c.in_ok-matrix.matrix.items z c.one.result)) (sym place)
    (mixed_matrix m laws n p inside.0 inside.1 facts.2 c.one.result c.one.ensures.elem c.one.ensures.value c.in_ok-matrix.matrix.items
    (record { elems = c.in_ok-matrix.ensures.elems; count = c.in_ok-matrix.ensures.count; same = c.in_ok-matrix.ensures.entries })) in
    let here = subst (λ (es : List g.row.F-Elem.Denot). IsMatrixOf m n (mixing n s p) es) (sym c.deref-2.ensures.value) matrix in
    let mixed = c.in_ok-mixed.ensures.moved (mixing n s p) here.linear in
    let q2 = moved n s (mixing n s p) q in
    subst (λ (xs : List ℕ). Has xs p.0) (sym (ap (λ z. z.opened) mixed.is)) facts.0

pub close-requires-clause-square : goal.close-requires-clause-square
close-requires-clause-square g c =
    let m = g.F.Ring.meaning c.args.field.now in
    let s = m.scalars in
    let laws = (g.met.F.Ring.laws c.args.field.now c.requires.ring).numbers in
    let inverts = g.met.F.Field.inverts c.args.field.now c.requires.ring in
    let n = c.args.stage.change.n in
    let q = stage_of m n c.args.stage in
    let p = c.in-Some.pair in
    let e = pair_found m n c.args.stage c.requires.stage.form_variables c.deref.result.now c.deref.ensures.value (Some p) c.in-Some.ensures in
    let facts = pair_facts n s q laws inverts c.requires.sound c.requires.no_square p e in
    let inside = pair_inside n s q laws inverts c.requires.sound c.requires.no_square p e in
    let place : c.from.result * c.from-2.result + c.from-3.result ≡ n * p.1 + p.0 = ap₂ (λ y z. y + z) (ap₂ (λ y z. y * z) c.from.ensures c.from-2.ensures) c.from-3.ensures in
    let matrix = subst (λ z. IsMatrixOf m n (mixing n s p) (set c.in_ok-matrix.matrix.items z c.one.result)) (sym place)
    (mixed_matrix m laws n p inside.0 inside.1 facts.2 c.one.result c.one.ensures.elem c.one.ensures.value c.in_ok-matrix.matrix.items
    (record { elems = c.in_ok-matrix.ensures.elems; count = c.in_ok-matrix.ensures.count; same = c.in_ok-matrix.ensures.entries })) in
    let here = subst (λ (es : List g.row.F-Elem.Denot). IsMatrixOf m n (mixing n s p) es) (sym c.deref-2.ensures.value) matrix in
    let mixed = c.in_ok-mixed.ensures.moved (mixing n s p) here.linear in
    let q2 = moved n s (mixing n s p) q in
    own_entry m n q2 c.in_ok-mixed.mixed mixed p.0 (mixed_has n s q laws inverts c.requires.sound c.requires.no_square p e)

pub returns-in_err-mixed-clause-range : goal.returns-in_err-mixed-clause-range
returns-in_err-mixed-clause-range g c =
    let m = g.F.Ring.meaning c.args.field.now in
    let s = m.scalars in
    let laws = (g.met.F.Ring.laws c.args.field.now c.requires.ring).numbers in
    let inverts = g.met.F.Field.inverts c.args.field.now c.requires.ring in
    let n = c.args.stage.change.n in
    let q = stage_of m n c.args.stage in
    let p = c.in-Some.pair in
    let e = pair_found m n c.args.stage c.requires.stage.form_variables c.deref.result.now c.deref.ensures.value (Some p) c.in-Some.ensures in
    let facts = pair_facts n s q laws inverts c.requires.sound c.requires.no_square p e in
    let inside = pair_inside n s q laws inverts c.requires.sound c.requires.no_square p e in
    let place : c.from.result * c.from-2.result + c.from-3.result ≡ n * p.1 + p.0 = ap₂ (λ y z. y + z) (ap₂ (λ y z. y * z) c.from.ensures c.from-2.ensures) c.from-3.ensures in
    let matrix = subst (λ z. IsMatrixOf m n (mixing n s p) (set c.in_ok-matrix.matrix.items z c.one.result)) (sym place)
    (mixed_matrix m laws n p inside.0 inside.1 facts.2 c.one.result c.one.ensures.elem c.one.ensures.value c.in_ok-matrix.matrix.items
    (record { elems = c.in_ok-matrix.ensures.elems; count = c.in_ok-matrix.ensures.count; same = c.in_ok-matrix.ensures.entries })) in
    let here = subst (λ (es : List g.row.F-Elem.Denot). IsMatrixOf m n (mixing n s p) es) (sym c.deref-2.ensures.value) matrix in
    fault_handed_on _ c.from_residual-in_err-mixed.ensures.1
    (λ high. subst (AnyHigh n s) (sym (next_mixed n s q c.requires.no_square p e).1) (among-left (IsWorkHigh n s) (moved_work n s (mixing n s p) q) (close_work n s p.0 (moved n s (mixing n s p) q)) high))
    (c.in_err-mixed.ensures.range (mixing n s p) here.linear)

pub returns-in_err-next-clause-range : goal.returns-in_err-next-clause-range
returns-in_err-next-clause-range g c =
    let m = g.F.Ring.meaning c.args.field.now in
    let s = m.scalars in
    let laws = (g.met.F.Ring.laws c.args.field.now c.requires.ring).numbers in
    let inverts = g.met.F.Field.inverts c.args.field.now c.requires.ring in
    let n = c.args.stage.change.n in
    let q = stage_of m n c.args.stage in
    let p = c.in-Some.pair in
    let e = pair_found m n c.args.stage c.requires.stage.form_variables c.deref.result.now c.deref.ensures.value (Some p) c.in-Some.ensures in
    let facts = pair_facts n s q laws inverts c.requires.sound c.requires.no_square p e in
    let inside = pair_inside n s q laws inverts c.requires.sound c.requires.no_square p e in
    let place : c.from.result * c.from-2.result + c.from-3.result ≡ n * p.1 + p.0 = ap₂ (λ y z. y + z) (ap₂ (λ y z. y * z) c.from.ensures c.from-2.ensures) c.from-3.ensures in
    let matrix = subst (λ z. IsMatrixOf m n (mixing n s p) (set c.in_ok-matrix.matrix.items z c.one.result)) (sym place)
    (mixed_matrix m laws n p inside.0 inside.1 facts.2 c.one.result c.one.ensures.elem c.one.ensures.value c.in_ok-matrix.matrix.items
    (record { elems = c.in_ok-matrix.ensures.elems; count = c.in_ok-matrix.ensures.count; same = c.in_ok-matrix.ensures.entries })) in
    let here = subst (λ (es : List g.row.F-Elem.Denot). IsMatrixOf m n (mixing n s p) es) (sym c.deref-2.ensures.value) matrix in
    let mixed = c.in_ok-mixed.ensures.moved (mixing n s p) here.linear in
    let q2 = moved n s (mixing n s p) q in
    fault_handed_on _ c.from_residual-in_err-next.ensures.1
    (λ high. subst (AnyHigh n s) (sym (next_mixed n s q c.requires.no_square p e).1)
    (among-right (IsWorkHigh n s) (moved_work n s (mixing n s p) q) (close_work n s p.0 q2) (own_work m n q2 c.in_ok-mixed.mixed mixed (λ n. close_work n s p.0) high)))
    c.in_err-next.ensures.range

pub returns-clause-next : goal.returns-clause-next
returns-clause-next g c =
    let m = g.F.Ring.meaning c.args.field.now in
    let s = m.scalars in
    let laws = (g.met.F.Ring.laws c.args.field.now c.requires.ring).numbers in
    let inverts = g.met.F.Field.inverts c.args.field.now c.requires.ring in
    let n = c.args.stage.change.n in
    let q = stage_of m n c.args.stage in
    let p = c.in-Some.pair in
    let e = pair_found m n c.args.stage c.requires.stage.form_variables c.deref.result.now c.deref.ensures.value (Some p) c.in-Some.ensures in
    let facts = pair_facts n s q laws inverts c.requires.sound c.requires.no_square p e in
    let inside = pair_inside n s q laws inverts c.requires.sound c.requires.no_square p e in
    let place : c.from.result * c.from-2.result + c.from-3.result ≡ n * p.1 + p.0 = ap₂ (λ y z. y + z) (ap₂ (λ y z. y * z) c.from.ensures c.from-2.ensures) c.from-3.ensures in
    let matrix = subst (λ z. IsMatrixOf m n (mixing n s p) (set c.in_ok-matrix.matrix.items z c.one.result)) (sym place)
    (mixed_matrix m laws n p inside.0 inside.1 facts.2 c.one.result c.one.ensures.elem c.one.ensures.value c.in_ok-matrix.matrix.items
    (record { elems = c.in_ok-matrix.ensures.elems; count = c.in_ok-matrix.ensures.count; same = c.in_ok-matrix.ensures.entries })) in
    let here = subst (λ (es : List g.row.F-Elem.Denot). IsMatrixOf m n (mixing n s p) es) (sym c.deref-2.ensures.value) matrix in
    let mixed = c.in_ok-mixed.ensures.moved (mixing n s p) here.linear in
    let q2 = moved n s (mixing n s p) q in
    subst (λ z. IsStageFor m n z c.in_ok-next.next) (sym (next_mixed n s q c.requires.no_square p e).0)
    (own_step m n q2 c.in_ok-mixed.mixed mixed (λ n. close n s p.0) c.in_ok-next.next c.in_ok-next.ensures.closed)
