use Rattle.std.proofs.Common.{◌≡◌, true, false, ◌&&◌, map, length, get_or, sym, ap, ap₂, ◌∙◌, arith}
use Rattle.std.specs.List.{list_all}
use Rattle.std.proofs.lemmas.List.{length-map}
use Rattle.ring_law.proofs.Exits.{handed_on}
use Rattle.ring_formula.proofs.Steps.{letter_is}
use Rattle.normal_forms.specs.Units.{quartic_i, quartic_j}
use Rattle.move_law.specs.Shapes.{fourth, triple, quartic_hessian, power_line, nth}
use Rattle.move_law.specs.Work.{IsWorkHigh}
use Rattle.bin_forms.specs.declared.quartic.Quartic.TheVariants as quartics
use Rattle.bin_forms.proofs.CubicSteps.{entry_of, line_work_at}
use Rattle.bin_forms.proofs.QuarticSteps.{answered, both_zero, hessian_high, fourth_high, fourth_shape, triple_high, triple_shape}
use Rattle.bin_forms.proofs.quartic.degenerate_shape.Goals as goal

pub returns-in_err-h-clause-range : goal.returns-in_err-h-clause-range
returns-in_err-h-clause-range g c =
    let m = g.F.Ring.meaning c.args.field.now in
    let s = m.scalars in
    let f = map m.value c.args.q.now in
    let five : length f ≡ 5 = length-map c.args.q.now m.value ∙ c.requires.coefficients in
    handed_on _ c.from_residual.ensures.1 (hessian_high s (IsWorkHigh 2 s) f five c.requires.degenerate) c.in_err-h.ensures.range

pub returns-in_err-line-clause-range : goal.returns-in_err-line-clause-range
returns-in_err-line-clause-range g c =
    let m = g.F.Ring.meaning c.args.field.now in
    let s = m.scalars in
    let f = map m.value c.args.q.now in
    let five : length f ≡ 5 = length-map c.args.q.now m.value ∙ c.requires.coefficients in
    let hs : map m.value c.in_ok-h.h ≡ quartic_hessian s f = c.in_ok-h.ensures.value in
    let none : list_all s.is_zero (quartic_hessian s f) ≡ true = sym (sym c.if-are_zero.true ∙ c.are_zero.ensures ∙ ap (list_all s.is_zero) hs) in
    let first : m.value c.index-q-0.result ≡ nth s f 0 = letter_is s m.value c.args.q.now 0 c.index-q-0.result (omega arith) c.index-q-0.is in
    let second : m.value c.index-q-1.result ≡ nth s f 1 = letter_is s m.value c.args.q.now 1 c.index-q-1.result (omega arith) c.index-q-1.is in
    handed_on _ c.from_residual-in_err-line.ensures.1 (λ high. fourth_high s (IsWorkHigh 2 s) f five c.requires.degenerate none (line_work_at s (IsWorkHigh 2 s) 4 first second high)) c.in_err-line.ensures.range

pub returns-then-are_zero-clause-shape : goal.returns-then-are_zero-clause-shape
returns-then-are_zero-clause-shape g c =
    let m = g.F.Ring.meaning c.args.field.now in
    let s = m.scalars in
    let f = map m.value c.args.q.now in
    let five : length f ≡ 5 = length-map c.args.q.now m.value ∙ c.requires.coefficients in
    let laws = (g.met.F.Ring.laws c.args.field.now c.requires.field).numbers in
    let inverts = g.met.F.Field.inverts c.args.field.now c.requires.field in
    let hs : map m.value c.in_ok-h.h ≡ quartic_hessian s f = c.in_ok-h.ensures.value in
    let none : list_all s.is_zero (quartic_hessian s f) ≡ true = sym (sym c.if-are_zero.true ∙ c.are_zero.ensures ∙ ap (list_all s.is_zero) hs) in
    let first : m.value c.index-q-0.result ≡ nth s f 0 = letter_is s m.value c.args.q.now 0 c.index-q-0.result (omega arith) c.index-q-0.is in
    let second : m.value c.index-q-1.result ≡ nth s f 1 = letter_is s m.value c.args.q.now 1 c.index-q-1.result (omega arith) c.index-q-1.is in
    answered m laws inverts c.args.q.now c.requires.coefficients (quartics.Fourth c.in_ok-line.line) c.in_ok-line.ensures.elem
    (ap fourth (c.in_ok-line.ensures.line ∙ ap₂ (power_line s 4) first second) ∙ fourth_shape s f c.requires.degenerate none)

pub returns-in_err-line-2-clause-range : goal.returns-in_err-line-2-clause-range
returns-in_err-line-2-clause-range g c =
    let m = g.F.Ring.meaning c.args.field.now in
    let s = m.scalars in
    let f = map m.value c.args.q.now in
    let five : length f ≡ 5 = length-map c.args.q.now m.value ∙ c.requires.coefficients in
    let hs : map m.value c.in_ok-h.h ≡ quartic_hessian s f = c.in_ok-h.ensures.value in
    let some : list_all s.is_zero (quartic_hessian s f) ≡ false = sym (sym c.if-are_zero.false ∙ c.are_zero.ensures ∙ ap (list_all s.is_zero) hs) in
    let invariants : (s.is_zero (m.value c.args.i) && s.is_zero (m.value c.args.j)) ≡ (s.is_zero (quartic_i s f) && s.is_zero (quartic_j s f)) = ap₂ (λ x y. s.is_zero x && s.is_zero y) c.requires.i_value c.requires.j_value in
    let vanish : (s.is_zero (quartic_i s f) && s.is_zero (quartic_j s f)) ≡ true = sym (sym c.if-are_zero-2.true ∙ c.are_zero-2.ensures ∙ both_zero s (m.value c.args.i) (m.value c.args.j) ∙ invariants) in
    let first : m.value (get_or c.in_ok-h.h 0 c.index-h-0.result) ≡ nth s (quartic_hessian s f) 0 = ap m.value (sym c.index-h-0.is) ∙ entry_of s m.value c.in_ok-h.h (quartic_hessian s f) 0 c.index-h-0.result hs (omega arith) c.index-h-0.is in
    let second : m.value (get_or c.in_ok-h.h 1 c.index-h-1.result) ≡ nth s (quartic_hessian s f) 1 = ap m.value (sym c.index-h-1.is) ∙ entry_of s m.value c.in_ok-h.h (quartic_hessian s f) 1 c.index-h-1.result hs (omega arith) c.index-h-1.is in
    handed_on _ c.from_residual-in_err-line-2.ensures.1 (λ high. triple_high s (IsWorkHigh 2 s) f five c.requires.degenerate some vanish (line_work_at s (IsWorkHigh 2 s) 4 first second high)) c.in_err-line-2.ensures.range

pub returns-then-are_zero-2-clause-shape : goal.returns-then-are_zero-2-clause-shape
returns-then-are_zero-2-clause-shape g c =
    let m = g.F.Ring.meaning c.args.field.now in
    let s = m.scalars in
    let f = map m.value c.args.q.now in
    let five : length f ≡ 5 = length-map c.args.q.now m.value ∙ c.requires.coefficients in
    let laws = (g.met.F.Ring.laws c.args.field.now c.requires.field).numbers in
    let inverts = g.met.F.Field.inverts c.args.field.now c.requires.field in
    let hs : map m.value c.in_ok-h.h ≡ quartic_hessian s f = c.in_ok-h.ensures.value in
    let some : list_all s.is_zero (quartic_hessian s f) ≡ false = sym (sym c.if-are_zero.false ∙ c.are_zero.ensures ∙ ap (list_all s.is_zero) hs) in
    let invariants : (s.is_zero (m.value c.args.i) && s.is_zero (m.value c.args.j)) ≡ (s.is_zero (quartic_i s f) && s.is_zero (quartic_j s f)) = ap₂ (λ x y. s.is_zero x && s.is_zero y) c.requires.i_value c.requires.j_value in
    let vanish : (s.is_zero (quartic_i s f) && s.is_zero (quartic_j s f)) ≡ true = sym (sym c.if-are_zero-2.true ∙ c.are_zero-2.ensures ∙ both_zero s (m.value c.args.i) (m.value c.args.j) ∙ invariants) in
    let first : m.value (get_or c.in_ok-h.h 0 c.index-h-0.result) ≡ nth s (quartic_hessian s f) 0 = ap m.value (sym c.index-h-0.is) ∙ entry_of s m.value c.in_ok-h.h (quartic_hessian s f) 0 c.index-h-0.result hs (omega arith) c.index-h-0.is in
    let second : m.value (get_or c.in_ok-h.h 1 c.index-h-1.result) ≡ nth s (quartic_hessian s f) 1 = ap m.value (sym c.index-h-1.is) ∙ entry_of s m.value c.in_ok-h.h (quartic_hessian s f) 1 c.index-h-1.result hs (omega arith) c.index-h-1.is in
    answered m laws inverts c.args.q.now c.requires.coefficients (quartics.Triple c.in_ok-line-2.line) c.in_ok-line-2.ensures.elem
    (ap triple (c.in_ok-line-2.ensures.line ∙ ap₂ (power_line s 4) first second) ∙ triple_shape s f c.requires.degenerate some vanish)

pub squared_shape-requires-clause-squared : goal.squared_shape-requires-clause-squared
squared_shape-requires-clause-squared g c =
    let m = g.F.Ring.meaning c.args.field.now in
    let s = m.scalars in
    let f = map m.value c.args.q.now in
    let five : length f ≡ 5 = length-map c.args.q.now m.value ∙ c.requires.coefficients in
    let hs : map m.value c.in_ok-h.h ≡ quartic_hessian s f = c.in_ok-h.ensures.value in
    let some : list_all s.is_zero (quartic_hessian s f) ≡ false = sym (sym c.if-are_zero.false ∙ c.are_zero.ensures ∙ ap (list_all s.is_zero) hs) in
    let invariants : (s.is_zero (m.value c.args.i) && s.is_zero (m.value c.args.j)) ≡ (s.is_zero (quartic_i s f) && s.is_zero (quartic_j s f)) = ap₂ (λ x y. s.is_zero x && s.is_zero y) c.requires.i_value c.requires.j_value in
    let vary : (s.is_zero (quartic_i s f) && s.is_zero (quartic_j s f)) ≡ false = sym (sym c.if-are_zero-2.false ∙ c.are_zero-2.ensures ∙ both_zero s (m.value c.args.i) (m.value c.args.j) ∙ invariants) in
    record { degenerate = c.requires.degenerate; hessian = some; invariants = vary }
