use Rattle.std.proofs.Common.{◌≡◌, false, ◌∷◌, map, length, get_or, sym, ap, ap₂, subst, ◌∙◌, arith}
use Rattle.std.specs.List.{list_all}
use Rattle.std.proofs.lemmas.List.{length-map}
use Rattle.lin_row.specs.Plain.{Among}
use Rattle.ring_law.proofs.Exits.{handed_on}
use Rattle.move_law.specs.Moves.{whole, over}
use Rattle.move_law.specs.Shapes.{double_line, less_multiple, quartic_ratio, quartic_rest, over_multiple_work, power_line, nth}
use Rattle.move_law.specs.Work as work
use Rattle.move_law.specs.Work.{IsWorkHigh}
use Rattle.bin_forms.specs.declared.quartic.Quartic.TheVariants as quartics
use Rattle.bin_forms.proofs.CubicSteps.{entry_of, line_work_at}
use Rattle.bin_forms.proofs.QuarticSteps.{answered, first_nonzero, ratio_high, differences_high, differences_at, double_high, double_shape, rest_length}
use Rattle.bin_forms.proofs.quartic.squared_shape.Goals as goal

pub invariant_ratio-requires-clause-nonzero : goal.invariant_ratio-requires-clause-nonzero
invariant_ratio-requires-clause-nonzero g c =
    let m = g.F.Ring.meaning c.args.field.now in
    let laws = (g.met.F.Ring.laws c.args.field.now c.requires.field).numbers in
    let inverts = g.met.F.Field.inverts c.args.field.now c.requires.field in
    λ z. first_nonzero m.scalars laws inverts (map m.value c.args.q.now) c.requires.squared (sym c.requires.i_value ∙ z)

pub returns-in_err-w-clause-range : goal.returns-in_err-w-clause-range
returns-in_err-w-clause-range g c =
    let m = g.F.Ring.meaning c.args.field.now in
    let s = m.scalars in
    let f = map m.value c.args.q.now in
    let five : length f ≡ 5 = length-map c.args.q.now m.value ∙ c.requires.coefficients in
    let at_invariants = subst (Among (IsWorkHigh 2 s)) (ap₂ (λ x y. work.product (whole s 3) y ∷ over_multiple_work s 2 2 (s.ops.mul (whole s 3) y) x) c.requires.i_value c.requires.j_value) in
    handed_on _ c.from_residual.ensures.1 (λ high. ratio_high s (IsWorkHigh 2 s) f five c.requires.squared (at_invariants high)) c.in_err-w.ensures.range

pub returns-in_err-k-clause-range : goal.returns-in_err-k-clause-range
returns-in_err-k-clause-range g c =
    let m = g.F.Ring.meaning c.args.field.now in
    let s = m.scalars in
    let f = map m.value c.args.q.now in
    let five : length f ≡ 5 = length-map c.args.q.now m.value ∙ c.requires.coefficients in
    let w : m.value c.in_ok-w.w ≡ quartic_ratio s f = c.in_ok-w.ensures.value ∙ ap₂ (λ x y. over s (s.ops.mul (whole s 3) y) (s.ops.mul (whole s 2) x)) c.requires.i_value c.requires.j_value in
    handed_on _ c.from_residual-in_err-k.ensures.1 (λ high. differences_high s (IsWorkHigh 2 s) f five c.requires.squared (differences_at s (IsWorkHigh 2 s) f w c.requires.hessian high)) c.in_err-k.ensures.range

pub square_shape-requires-clause-square : goal.square_shape-requires-clause-square
square_shape-requires-clause-square g c =
    let m = g.F.Ring.meaning c.args.field.now in
    let s = m.scalars in
    let f = map m.value c.args.q.now in
    let w : m.value c.in_ok-w.w ≡ quartic_ratio s f = c.in_ok-w.ensures.value ∙ ap₂ (λ x y. over s (s.ops.mul (whole s 3) y) (s.ops.mul (whole s 2) x)) c.requires.i_value c.requires.j_value in
    let ks : map m.value c.in_ok-k.k ≡ quartic_rest s f = c.in_ok-k.ensures.value ∙ ap₂ (λ w h. less_multiple s w h f) w c.requires.hessian in
    record { squared = c.requires.squared; rest = sym (sym c.if-are_zero.true ∙ c.are_zero.ensures ∙ ap (list_all s.is_zero) ks) }

pub returns-in_err-line-clause-range : goal.returns-in_err-line-clause-range
returns-in_err-line-clause-range g c =
    let m = g.F.Ring.meaning c.args.field.now in
    let s = m.scalars in
    let f = map m.value c.args.q.now in
    let w : m.value c.in_ok-w.w ≡ quartic_ratio s f = c.in_ok-w.ensures.value ∙ ap₂ (λ x y. over s (s.ops.mul (whole s 3) y) (s.ops.mul (whole s 2) x)) c.requires.i_value c.requires.j_value in
    let ks : map m.value c.in_ok-k.k ≡ quartic_rest s f = c.in_ok-k.ensures.value ∙ ap₂ (λ w h. less_multiple s w h f) w c.requires.hessian in
    let five : length f ≡ 5 = length-map c.args.q.now m.value ∙ c.requires.coefficients in
    let some : list_all s.is_zero (quartic_rest s f) ≡ false = sym (sym c.if-are_zero.false ∙ c.are_zero.ensures ∙ ap (list_all s.is_zero) ks) in
    let count : length (quartic_rest s f) ≡ 5 = rest_length s f five in
    let first : m.value (get_or c.in_ok-k.k 0 c.index-k-0.result) ≡ nth s (quartic_rest s f) 0 = ap m.value (sym c.index-k-0.is) ∙ entry_of s m.value c.in_ok-k.k (quartic_rest s f) 0 c.index-k-0.result ks (omega (arith, count)) c.index-k-0.is in
    let second : m.value (get_or c.in_ok-k.k 1 c.index-k-1.result) ≡ nth s (quartic_rest s f) 1 = ap m.value (sym c.index-k-1.is) ∙ entry_of s m.value c.in_ok-k.k (quartic_rest s f) 1 c.index-k-1.result ks (omega (arith, count)) c.index-k-1.is in
    handed_on _ c.from_residual-in_err-line.ensures.1 (λ high. double_high s (IsWorkHigh 2 s) f five c.requires.squared some (line_work_at s (IsWorkHigh 2 s) 4 first second high)) c.in_err-line.ensures.range

pub returns-clause-shape : goal.returns-clause-shape
returns-clause-shape g c =
    let m = g.F.Ring.meaning c.args.field.now in
    let s = m.scalars in
    let f = map m.value c.args.q.now in
    let w : m.value c.in_ok-w.w ≡ quartic_ratio s f = c.in_ok-w.ensures.value ∙ ap₂ (λ x y. over s (s.ops.mul (whole s 3) y) (s.ops.mul (whole s 2) x)) c.requires.i_value c.requires.j_value in
    let ks : map m.value c.in_ok-k.k ≡ quartic_rest s f = c.in_ok-k.ensures.value ∙ ap₂ (λ w h. less_multiple s w h f) w c.requires.hessian in
    let five : length f ≡ 5 = length-map c.args.q.now m.value ∙ c.requires.coefficients in
    let some : list_all s.is_zero (quartic_rest s f) ≡ false = sym (sym c.if-are_zero.false ∙ c.are_zero.ensures ∙ ap (list_all s.is_zero) ks) in
    let count : length (quartic_rest s f) ≡ 5 = rest_length s f five in
    let first : m.value (get_or c.in_ok-k.k 0 c.index-k-0.result) ≡ nth s (quartic_rest s f) 0 = ap m.value (sym c.index-k-0.is) ∙ entry_of s m.value c.in_ok-k.k (quartic_rest s f) 0 c.index-k-0.result ks (omega (arith, count)) c.index-k-0.is in
    let second : m.value (get_or c.in_ok-k.k 1 c.index-k-1.result) ≡ nth s (quartic_rest s f) 1 = ap m.value (sym c.index-k-1.is) ∙ entry_of s m.value c.in_ok-k.k (quartic_rest s f) 1 c.index-k-1.result ks (omega (arith, count)) c.index-k-1.is in
    let laws = (g.met.F.Ring.laws c.args.field.now c.requires.field).numbers in
    let inverts = g.met.F.Field.inverts c.args.field.now c.requires.field in
    answered m laws inverts c.args.q.now c.requires.coefficients (quartics.Double c.in_ok-line.line) c.in_ok-line.ensures.elem
    (ap double_line (c.in_ok-line.ensures.line ∙ ap₂ (power_line s 4) first second) ∙ double_shape s f c.requires.squared some)
