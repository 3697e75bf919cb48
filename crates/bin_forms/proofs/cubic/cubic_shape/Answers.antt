use Rattle.std.proofs.Common.{◌≡◌, ◌∙◌, true, false, map, get_or, sym, ap, ap₂, subst, arith}
use Rattle.std.specs.List.{list_all}
use Rattle.ring_law.proofs.Exits.{handed_on}
use Rattle.ring_formula.specs.Formulas.{formula_value}
use Rattle.ring_formula.proofs.Steps.{letter_is}
use Rattle.move_law.specs.declared.covariant.TheConstants.{CUBIC_TEST}
use Rattle.move_law.specs.Shapes.{cube, double, cubic_hessian, cubic_test, power_line, nth}
use Rattle.move_law.specs.Work as work
use Rattle.move_law.specs.Work.{IsWorkHigh}
use Rattle.bin_forms.specs.declared.cubic.Cubic.TheVariants as cubics
use Rattle.bin_forms.proofs.CubicSteps.{entry_of, answered, line_work_at, zero_shape, cube_shape, double_shape, distinct_shape, hessian_high, cube_high, test_high, double_high}
use Rattle.bin_forms.proofs.cubic.cubic_shape.Goals as goal

pub returns-then-are_zero-clause-shape : goal.returns-then-are_zero-clause-shape
returns-then-are_zero-clause-shape g c =
    let m = g.F.Ring.meaning c.args.field.now in
    let s = m.scalars in
    let f = map m.value c.args.c.now in
    let laws = (g.met.F.Ring.laws c.args.field.now c.requires.field).numbers in
    let inverts = g.met.F.Field.inverts c.args.field.now c.requires.field in
    answered m laws inverts c.args.c.now c.requires.coefficients cubics.Zero tt (zero_shape s f (sym c.if-are_zero.true ∙ c.are_zero.ensures))

pub returns-in_err-h-clause-range : goal.returns-in_err-h-clause-range
returns-in_err-h-clause-range g c =
    let m = g.F.Ring.meaning c.args.field.now in
    let s = m.scalars in
    let f = map m.value c.args.c.now in
    let some : false ≡ list_all s.is_zero f = sym c.if-are_zero.false ∙ c.are_zero.ensures in
    handed_on _ c.from_residual.ensures.1 (hessian_high s f (IsWorkHigh 2 s) some) c.in_err-h.ensures.range

pub returns-in_err-line-clause-range : goal.returns-in_err-line-clause-range
returns-in_err-line-clause-range g c =
    let m = g.F.Ring.meaning c.args.field.now in
    let s = m.scalars in
    let f = map m.value c.args.c.now in
    let some : false ≡ list_all s.is_zero f = sym c.if-are_zero.false ∙ c.are_zero.ensures in
    let hs : map m.value c.in_ok-h.h ≡ cubic_hessian s f = c.in_ok-h.ensures.value in
    let none : true ≡ list_all s.is_zero (cubic_hessian s f) = sym c.if-are_zero-2.true ∙ c.are_zero-2.ensures ∙ ap (list_all s.is_zero) hs in
    let first : m.value c.index-c-0.result ≡ nth s f 0 = letter_is s m.value c.args.c.now 0 c.index-c-0.result (omega arith) c.index-c-0.is in
    let second : m.value c.index-c-1.result ≡ nth s f 1 = letter_is s m.value c.args.c.now 1 c.index-c-1.result (omega arith) c.index-c-1.is in
    handed_on _ c.from_residual-in_err-line.ensures.1 (λ high. cube_high s f (IsWorkHigh 2 s) some none (line_work_at s (IsWorkHigh 2 s) 3 first second high)) c.in_err-line.ensures.range

pub returns-then-are_zero-2-clause-shape : goal.returns-then-are_zero-2-clause-shape
returns-then-are_zero-2-clause-shape g c =
    let m = g.F.Ring.meaning c.args.field.now in
    let s = m.scalars in
    let f = map m.value c.args.c.now in
    let laws = (g.met.F.Ring.laws c.args.field.now c.requires.field).numbers in
    let inverts = g.met.F.Field.inverts c.args.field.now c.requires.field in
    let some : false ≡ list_all s.is_zero f = sym c.if-are_zero.false ∙ c.are_zero.ensures in
    let hs : map m.value c.in_ok-h.h ≡ cubic_hessian s f = c.in_ok-h.ensures.value in
    let none : true ≡ list_all s.is_zero (cubic_hessian s f) = sym c.if-are_zero-2.true ∙ c.are_zero-2.ensures ∙ ap (list_all s.is_zero) hs in
    let first : m.value c.index-c-0.result ≡ nth s f 0 = letter_is s m.value c.args.c.now 0 c.index-c-0.result (omega arith) c.index-c-0.is in
    let second : m.value c.index-c-1.result ≡ nth s f 1 = letter_is s m.value c.args.c.now 1 c.index-c-1.result (omega arith) c.index-c-1.is in
    answered m laws inverts c.args.c.now c.requires.coefficients (cubics.Cube c.in_ok-line.line) c.in_ok-line.ensures.elem
    (ap cube (c.in_ok-line.ensures.line ∙ ap₂ (power_line s 3) first second) ∙ cube_shape s f some none)

pub returns-in_err-discriminant-clause-range : goal.returns-in_err-discriminant-clause-range
returns-in_err-discriminant-clause-range g c =
    let m = g.F.Ring.meaning c.args.field.now in
    let s = m.scalars in
    let f = map m.value c.args.c.now in
    let some : false ≡ list_all s.is_zero f = sym c.if-are_zero.false ∙ c.are_zero.ensures in
    let hs : map m.value c.in_ok-h.h ≡ cubic_hessian s f = c.in_ok-h.ensures.value in
    let other : false ≡ list_all s.is_zero (cubic_hessian s f) = sym c.if-are_zero-2.false ∙ c.are_zero-2.ensures ∙ ap (list_all s.is_zero) hs in
    handed_on _ c.from_residual-in_err-discriminant.ensures.1 (λ high. test_high s f (IsWorkHigh 2 s) some other (subst (λ z. IsWorkHigh 2 s (work.formula z CUBIC_TEST)) hs high)) c.in_err-discriminant.ensures.range

pub returns-then-not-is_zero-clause-shape : goal.returns-then-not-is_zero-clause-shape
returns-then-not-is_zero-clause-shape g c =
    let m = g.F.Ring.meaning c.args.field.now in
    let s = m.scalars in
    let f = map m.value c.args.c.now in
    let laws = (g.met.F.Ring.laws c.args.field.now c.requires.field).numbers in
    let inverts = g.met.F.Field.inverts c.args.field.now c.requires.field in
    let some : false ≡ list_all s.is_zero f = sym c.if-are_zero.false ∙ c.are_zero.ensures in
    let hs : map m.value c.in_ok-h.h ≡ cubic_hessian s f = c.in_ok-h.ensures.value in
    let other : false ≡ list_all s.is_zero (cubic_hessian s f) = sym c.if-are_zero-2.false ∙ c.are_zero-2.ensures ∙ ap (list_all s.is_zero) hs in
    let test : m.value c.in_ok-discriminant.discriminant ≡ cubic_test s f = c.in_ok-discriminant.ensures.value ∙ ap (λ z. formula_value s z CUBIC_TEST) hs in
    let nonzero : false ≡ s.is_zero (cubic_test s f) = sym c.if-not-is_zero.true ∙ c.is_zero.ensures ∙ ap s.is_zero test in
    answered m laws inverts c.args.c.now c.requires.coefficients cubics.Distinct tt (distinct_shape s f some other nonzero)

pub returns-in_err-line-2-clause-range : goal.returns-in_err-line-2-clause-range
returns-in_err-line-2-clause-range g c =
    let m = g.F.Ring.meaning c.args.field.now in
    let s = m.scalars in
    let f = map m.value c.args.c.now in
    let some : false ≡ list_all s.is_zero f = sym c.if-are_zero.false ∙ c.are_zero.ensures in
    let hs : map m.value c.in_ok-h.h ≡ cubic_hessian s f = c.in_ok-h.ensures.value in
    let other : false ≡ list_all s.is_zero (cubic_hessian s f) = sym c.if-are_zero-2.false ∙ c.are_zero-2.ensures ∙ ap (list_all s.is_zero) hs in
    let test : m.value c.in_ok-discriminant.discriminant ≡ cubic_test s f = c.in_ok-discriminant.ensures.value ∙ ap (λ z. formula_value s z CUBIC_TEST) hs in
    let zero : true ≡ s.is_zero (cubic_test s f) = sym c.if-not-is_zero.false ∙ c.is_zero.ensures ∙ ap s.is_zero test in
    let first : m.value (get_or c.in_ok-h.h 0 c.index-h-0.result) ≡ nth s (cubic_hessian s f) 0 = ap m.value (sym c.index-h-0.is) ∙ entry_of s m.value c.in_ok-h.h (cubic_hessian s f) 0 c.index-h-0.result hs (omega arith) c.index-h-0.is in
    let second : m.value (get_or c.in_ok-h.h 1 c.index-h-1.result) ≡ nth s (cubic_hessian s f) 1 = ap m.value (sym c.index-h-1.is) ∙ entry_of s m.value c.in_ok-h.h (cubic_hessian s f) 1 c.index-h-1.result hs (omega arith) c.index-h-1.is in
    handed_on _ c.from_residual-in_err-line-2.ensures.1 (λ high. double_high s f (IsWorkHigh 2 s) some other zero (line_work_at s (IsWorkHigh 2 s) 2 first second high)) c.in_err-line-2.ensures.range

pub returns-clause-shape : goal.returns-clause-shape
returns-clause-shape g c =
    let m = g.F.Ring.meaning c.args.field.now in
    let s = m.scalars in
    let f = map m.value c.args.c.now in
    let laws = (g.met.F.Ring.laws c.args.field.now c.requires.field).numbers in
    let inverts = g.met.F.Field.inverts c.args.field.now c.requires.field in
    let some : false ≡ list_all s.is_zero f = sym c.if-are_zero.false ∙ c.are_zero.ensures in
    let hs : map m.value c.in_ok-h.h ≡ cubic_hessian s f = c.in_ok-h.ensures.value in
    let other : false ≡ list_all s.is_zero (cubic_hessian s f) = sym c.if-are_zero-2.false ∙ c.are_zero-2.ensures ∙ ap (list_all s.is_zero) hs in
    let test : m.value c.in_ok-discriminant.discriminant ≡ cubic_test s f = c.in_ok-discriminant.ensures.value ∙ ap (λ z. formula_value s z CUBIC_TEST) hs in
    let zero : true ≡ s.is_zero (cubic_test s f) = sym c.if-not-is_zero.false ∙ c.is_zero.ensures ∙ ap s.is_zero test in
    let first : m.value (get_or c.in_ok-h.h 0 c.index-h-0.result) ≡ nth s (cubic_hessian s f) 0 = ap m.value (sym c.index-h-0.is) ∙ entry_of s m.value c.in_ok-h.h (cubic_hessian s f) 0 c.index-h-0.result hs (omega arith) c.index-h-0.is in
    let second : m.value (get_or c.in_ok-h.h 1 c.index-h-1.result) ≡ nth s (cubic_hessian s f) 1 = ap m.value (sym c.index-h-1.is) ∙ entry_of s m.value c.in_ok-h.h (cubic_hessian s f) 1 c.index-h-1.result hs (omega arith) c.index-h-1.is in
    answered m laws inverts c.args.c.now c.requires.coefficients (cubics.Double c.in_ok-line-2.line) c.in_ok-line-2.ensures.elem
    (ap double (c.in_ok-line-2.ensures.line ∙ ap₂ (power_line s 2) first second) ∙ double_shape s f some other zero)
