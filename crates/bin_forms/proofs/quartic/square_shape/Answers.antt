use Rattle.std.proofs.Common.{◌≡◌, true, false, map, length, sym, ap, ap₂, subst, ◌∙◌, arith}
use Rattle.std.proofs.lemmas.List.{length-map}
use Rattle.lin_row.specs.Plain.{Among}
use Rattle.ring_law.proofs.Exits.{handed_on}
use Rattle.ring_formula.proofs.Steps.{letter_is}
use Rattle.move_law.specs.Moves.{whole, over, minus}
use Rattle.move_law.specs.Shapes.{two_doubles, over_work, over_multiple_work, nth}
use Rattle.move_law.specs.Work.{IsWorkHigh}
use Rattle.bin_forms.specs.declared.quartic.Quartic.TheVariants as quartics
use Rattle.bin_forms.specs.Lines.{less_work}
use Rattle.bin_forms.proofs.FieldFacts.{whole_is, whole_nonzero}
use Rattle.bin_forms.proofs.Zeros.{not_zero}
use Rattle.bin_forms.proofs.QuarticSteps.{answered, third_nonzero, half, ratio, corner_high, corner_shape, half_high, quotient_high, difference_high, last_high, pair_shape}
use Rattle.bin_forms.proofs.quartic.square_shape.Goals as goal

pub over_multiple-requires-clause-nonzero : goal.over_multiple-requires-clause-nonzero
over_multiple-requires-clause-nonzero g c =
    let m = g.F.Ring.meaning c.args.field.now in
    let s = m.scalars in
    let f = map m.value c.args.q.now in
    let five : length f ≡ 5 = length-map c.args.q.now m.value ∙ c.requires.coefficients in
    let laws = (g.met.F.Ring.laws c.args.field.now c.requires.field).numbers in
    let inverts = g.met.F.Field.inverts c.args.field.now c.requires.field in
    let x0 : m.value c.index-q-0.result ≡ nth s f 0 = letter_is s m.value c.args.q.now 0 c.index-q-0.result (omega arith) c.index-q-0.is in
    let x2 : m.value c.index-q-2.result ≡ nth s f 2 = letter_is s m.value c.args.q.now 2 c.index-q-2.result (omega arith) c.index-q-2.is in
    let corner : s.is_zero (nth s f 0) ≡ true = sym (sym c.if-is_zero.true ∙ c.is_zero.ensures ∙ ap s.is_zero x0) in
    λ z. third_nonzero s laws inverts f five c.requires.square corner (sym x2 ∙ z)

pub returns-in_err-q2-clause-range : goal.returns-in_err-q2-clause-range
returns-in_err-q2-clause-range g c =
    let m = g.F.Ring.meaning c.args.field.now in
    let s = m.scalars in
    let f = map m.value c.args.q.now in
    let five : length f ≡ 5 = length-map c.args.q.now m.value ∙ c.requires.coefficients in
    let x0 : m.value c.index-q-0.result ≡ nth s f 0 = letter_is s m.value c.args.q.now 0 c.index-q-0.result (omega arith) c.index-q-0.is in
    let x2 : m.value c.index-q-2.result ≡ nth s f 2 = letter_is s m.value c.args.q.now 2 c.index-q-2.result (omega arith) c.index-q-2.is in
    let x3 : m.value c.index-q-3.result ≡ nth s f 3 = letter_is s m.value c.args.q.now 3 c.index-q-3.result (omega arith) c.index-q-3.is in
    let corner : s.is_zero (nth s f 0) ≡ true = sym (sym c.if-is_zero.true ∙ c.is_zero.ensures ∙ ap s.is_zero x0) in
    handed_on _ c.from_residual.ensures.1 (λ high. corner_high s (IsWorkHigh 2 s) f five c.requires.square corner (subst (Among (IsWorkHigh 2 s)) (ap₂ (over_multiple_work s 2 2) x3 x2) high)) c.in_err-q2.ensures.range

pub returns-then-is_zero-clause-shape : goal.returns-then-is_zero-clause-shape
returns-then-is_zero-clause-shape g c =
    let m = g.F.Ring.meaning c.args.field.now in
    let s = m.scalars in
    let f = map m.value c.args.q.now in
    let five : length f ≡ 5 = length-map c.args.q.now m.value ∙ c.requires.coefficients in
    let laws = (g.met.F.Ring.laws c.args.field.now c.requires.field).numbers in
    let inverts = g.met.F.Field.inverts c.args.field.now c.requires.field in
    let x0 : m.value c.index-q-0.result ≡ nth s f 0 = letter_is s m.value c.args.q.now 0 c.index-q-0.result (omega arith) c.index-q-0.is in
    let x2 : m.value c.index-q-2.result ≡ nth s f 2 = letter_is s m.value c.args.q.now 2 c.index-q-2.result (omega arith) c.index-q-2.is in
    let x3 : m.value c.index-q-3.result ≡ nth s f 3 = letter_is s m.value c.args.q.now 3 c.index-q-3.result (omega arith) c.index-q-3.is in
    let corner : s.is_zero (nth s f 0) ≡ true = sym (sym c.if-is_zero.true ∙ c.is_zero.ensures ∙ ap s.is_zero x0) in
    let last_is : m.value c.in_ok-q2.q2 ≡ over s (nth s f 3) (s.ops.mul (whole s 2) (nth s f 2)) = c.in_ok-q2.ensures.value ∙ ap₂ (λ x y. over s x (s.ops.mul (whole s 2) y)) x3 x2 in
    answered m laws inverts c.args.q.now c.requires.coefficients (quartics.TwoDoubles c.zero.result c.one.result c.in_ok-q2.q2) (c.zero.ensures.elem, c.one.ensures.elem, c.in_ok-q2.ensures.elem)
    ((λ t. two_doubles (c.zero.ensures.value t) (c.one.ensures.value t) (last_is t)) ∙ corner_shape s f c.requires.square corner)

pub over_multiple-requires-2-clause-nonzero : goal.over_multiple-requires-2-clause-nonzero
over_multiple-requires-2-clause-nonzero g c =
    let m = g.F.Ring.meaning c.args.field.now in
    let s = m.scalars in
    let f = map m.value c.args.q.now in
    let five : length f ≡ 5 = length-map c.args.q.now m.value ∙ c.requires.coefficients in
    let laws = (g.met.F.Ring.laws c.args.field.now c.requires.field).numbers in
    let inverts = g.met.F.Field.inverts c.args.field.now c.requires.field in
    not_zero s laws (sym c.is_zero.ensures ∙ c.if-is_zero.false)

pub returns-in_err-half-clause-range : goal.returns-in_err-half-clause-range
returns-in_err-half-clause-range g c =
    let m = g.F.Ring.meaning c.args.field.now in
    let s = m.scalars in
    let f = map m.value c.args.q.now in
    let five : length f ≡ 5 = length-map c.args.q.now m.value ∙ c.requires.coefficients in
    let x0 : m.value c.index-q-0.result ≡ nth s f 0 = letter_is s m.value c.args.q.now 0 c.index-q-0.result (omega arith) c.index-q-0.is in
    let x1 : m.value c.index-q-1.result ≡ nth s f 1 = letter_is s m.value c.args.q.now 1 c.index-q-1.result (omega arith) c.index-q-1.is in
    let some : s.is_zero (nth s f 0) ≡ false = sym (sym c.if-is_zero.false ∙ c.is_zero.ensures ∙ ap s.is_zero x0) in
    handed_on _ c.from_residual-in_err-half.ensures.1 (λ high. half_high s (IsWorkHigh 2 s) f five c.requires.square some (subst (Among (IsWorkHigh 2 s)) (ap₂ (over_multiple_work s 2 2) x1 x0) high)) c.in_err-half.ensures.range

pub quotient-requires-clause-nonzero : goal.quotient-requires-clause-nonzero
quotient-requires-clause-nonzero g c =
    let m = g.F.Ring.meaning c.args.field.now in
    let s = m.scalars in
    let f = map m.value c.args.q.now in
    let five : length f ≡ 5 = length-map c.args.q.now m.value ∙ c.requires.coefficients in
    let laws = (g.met.F.Ring.laws c.args.field.now c.requires.field).numbers in
    let inverts = g.met.F.Field.inverts c.args.field.now c.requires.field in
    not_zero s laws (sym c.is_zero.ensures ∙ c.if-is_zero.false)

pub returns-in_err-ratio-clause-range : goal.returns-in_err-ratio-clause-range
returns-in_err-ratio-clause-range g c =
    let m = g.F.Ring.meaning c.args.field.now in
    let s = m.scalars in
    let f = map m.value c.args.q.now in
    let five : length f ≡ 5 = length-map c.args.q.now m.value ∙ c.requires.coefficients in
    let x0 : m.value c.index-q-0.result ≡ nth s f 0 = letter_is s m.value c.args.q.now 0 c.index-q-0.result (omega arith) c.index-q-0.is in
    let x2 : m.value c.index-q-2.result ≡ nth s f 2 = letter_is s m.value c.args.q.now 2 c.index-q-2.result (omega arith) c.index-q-2.is in
    let some : s.is_zero (nth s f 0) ≡ false = sym (sym c.if-is_zero.false ∙ c.is_zero.ensures ∙ ap s.is_zero x0) in
    handed_on _ c.from_residual-in_err-ratio.ensures.1 (λ high. quotient_high s (IsWorkHigh 2 s) f five c.requires.square some (subst (Among (IsWorkHigh 2 s)) (ap₂ (over_work s 2) x2 x0) high)) c.in_err-ratio.ensures.range

pub returns-in_err-difference-clause-range : goal.returns-in_err-difference-clause-range
returns-in_err-difference-clause-range g c =
    let m = g.F.Ring.meaning c.args.field.now in
    let s = m.scalars in
    let f = map m.value c.args.q.now in
    let five : length f ≡ 5 = length-map c.args.q.now m.value ∙ c.requires.coefficients in
    let x0 : m.value c.index-q-0.result ≡ nth s f 0 = letter_is s m.value c.args.q.now 0 c.index-q-0.result (omega arith) c.index-q-0.is in
    let x1 : m.value c.index-q-1.result ≡ nth s f 1 = letter_is s m.value c.args.q.now 1 c.index-q-1.result (omega arith) c.index-q-1.is in
    let x2 : m.value c.index-q-2.result ≡ nth s f 2 = letter_is s m.value c.args.q.now 2 c.index-q-2.result (omega arith) c.index-q-2.is in
    let some : s.is_zero (nth s f 0) ≡ false = sym (sym c.if-is_zero.false ∙ c.is_zero.ensures ∙ ap s.is_zero x0) in
    let half_is : m.value c.in_ok-half.half ≡ half s f = c.in_ok-half.ensures.value ∙ ap₂ (λ x y. over s x (s.ops.mul (whole s 2) y)) x1 x0 in
    let ratio_is : m.value c.in_ok-ratio.ratio ≡ ratio s f = c.in_ok-ratio.ensures.value ∙ ap₂ (over s) x2 x0 in
    handed_on _ c.from_residual-in_err-difference.ensures.1
    (λ high. difference_high s (IsWorkHigh 2 s) f five c.requires.square some (subst (Among (IsWorkHigh 2 s)) (ap₂ (λ x y. less_work s y x y) ratio_is half_is) high)) c.in_err-difference.ensures.range

pub quotient-requires-2-clause-nonzero : goal.quotient-requires-2-clause-nonzero
quotient-requires-2-clause-nonzero g c =
    let m = g.F.Ring.meaning c.args.field.now in
    let s = m.scalars in
    let f = map m.value c.args.q.now in
    let five : length f ≡ 5 = length-map c.args.q.now m.value ∙ c.requires.coefficients in
    let laws = (g.met.F.Ring.laws c.args.field.now c.requires.field).numbers in
    let inverts = g.met.F.Field.inverts c.args.field.now c.requires.field in
    λ z. whole_nonzero s laws 2 (omega arith) (sym (whole_is s laws 2) ∙ sym c.whole.ensures.value ∙ z)

pub returns-in_err-last-clause-range : goal.returns-in_err-last-clause-range
returns-in_err-last-clause-range g c =
    let m = g.F.Ring.meaning c.args.field.now in
    let s = m.scalars in
    let f = map m.value c.args.q.now in
    let five : length f ≡ 5 = length-map c.args.q.now m.value ∙ c.requires.coefficients in
    let x0 : m.value c.index-q-0.result ≡ nth s f 0 = letter_is s m.value c.args.q.now 0 c.index-q-0.result (omega arith) c.index-q-0.is in
    let x1 : m.value c.index-q-1.result ≡ nth s f 1 = letter_is s m.value c.args.q.now 1 c.index-q-1.result (omega arith) c.index-q-1.is in
    let x2 : m.value c.index-q-2.result ≡ nth s f 2 = letter_is s m.value c.args.q.now 2 c.index-q-2.result (omega arith) c.index-q-2.is in
    let some : s.is_zero (nth s f 0) ≡ false = sym (sym c.if-is_zero.false ∙ c.is_zero.ensures ∙ ap s.is_zero x0) in
    let half_is : m.value c.in_ok-half.half ≡ half s f = c.in_ok-half.ensures.value ∙ ap₂ (λ x y. over s x (s.ops.mul (whole s 2) y)) x1 x0 in
    let ratio_is : m.value c.in_ok-ratio.ratio ≡ ratio s f = c.in_ok-ratio.ensures.value ∙ ap₂ (over s) x2 x0 in
    let difference_is : m.value c.in_ok-difference.difference ≡ minus s (ratio s f) (s.ops.mul (half s f) (half s f)) =
    c.in_ok-difference.ensures.value ∙ ap₂ (λ x y. minus s x (s.ops.mul y y)) ratio_is half_is in
    handed_on _ c.from_residual-in_err-last.ensures.1
    (λ high. last_high s (IsWorkHigh 2 s) f five c.requires.square some (subst (Among (IsWorkHigh 2 s)) (ap₂ (over_work s 2) difference_is c.whole.ensures.value) high)) c.in_err-last.ensures.range

pub returns-clause-shape : goal.returns-clause-shape
returns-clause-shape g c =
    let m = g.F.Ring.meaning c.args.field.now in
    let s = m.scalars in
    let f = map m.value c.args.q.now in
    let five : length f ≡ 5 = length-map c.args.q.now m.value ∙ c.requires.coefficients in
    let laws = (g.met.F.Ring.laws c.args.field.now c.requires.field).numbers in
    let inverts = g.met.F.Field.inverts c.args.field.now c.requires.field in
    let x0 : m.value c.index-q-0.result ≡ nth s f 0 = letter_is s m.value c.args.q.now 0 c.index-q-0.result (omega arith) c.index-q-0.is in
    let x1 : m.value c.index-q-1.result ≡ nth s f 1 = letter_is s m.value c.args.q.now 1 c.index-q-1.result (omega arith) c.index-q-1.is in
    let x2 : m.value c.index-q-2.result ≡ nth s f 2 = letter_is s m.value c.args.q.now 2 c.index-q-2.result (omega arith) c.index-q-2.is in
    let some : s.is_zero (nth s f 0) ≡ false = sym (sym c.if-is_zero.false ∙ c.is_zero.ensures ∙ ap s.is_zero x0) in
    let half_is : m.value c.in_ok-half.half ≡ half s f = c.in_ok-half.ensures.value ∙ ap₂ (λ x y. over s x (s.ops.mul (whole s 2) y)) x1 x0 in
    let ratio_is : m.value c.in_ok-ratio.ratio ≡ ratio s f = c.in_ok-ratio.ensures.value ∙ ap₂ (over s) x2 x0 in
    let difference_is : m.value c.in_ok-difference.difference ≡ minus s (ratio s f) (s.ops.mul (half s f) (half s f)) =
    c.in_ok-difference.ensures.value ∙ ap₂ (λ x y. minus s x (s.ops.mul y y)) ratio_is half_is in
    let last_is = c.in_ok-last.ensures.value ∙ ap₂ (over s) difference_is c.whole.ensures.value in
    answered m laws inverts c.args.q.now c.requires.coefficients (quartics.TwoDoubles c.one-2.result c.in_ok-half.half c.in_ok-last.last) (c.one-2.ensures.elem, c.in_ok-half.ensures.elem, c.in_ok-last.ensures.elem)
    ((λ t. two_doubles (c.one-2.ensures.value t) (half_is t) (last_is t)) ∙ pair_shape s f c.requires.square some)
