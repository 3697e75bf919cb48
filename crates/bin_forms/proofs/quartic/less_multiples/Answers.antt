use Rattle.std.proofs.Common.{◌≡◌, inl, inr, ◌∷◌, [], map, ap₂, subst, ◌∙◌, arith}
use Rattle.std.proofs.lemmas.List.{length-map}
use Rattle.lin_row.specs.Plain.{Among}
use Rattle.ring_law.proofs.Exits.{handed_on}
use Rattle.ring_formula.proofs.Steps.{letter_is}
use Rattle.move_law.specs.Moves.{minus}
use Rattle.move_law.specs.Shapes.{nth}
use Rattle.move_law.specs.Work.{IsWorkHigh}
use Rattle.bin_forms.specs.Lines.{less_work}
use Rattle.bin_forms.proofs.QuarticSteps.{differences_are}
use Rattle.bin_forms.proofs.quartic.less_multiples.Goals as goal

pub returns-in_err-k0-clause-range : goal.returns-in_err-k0-clause-range
returns-in_err-k0-clause-range g c =
    let m = g.R.Ring.meaning c.args.ring.now in
    let s = m.scalars in
    let w = m.value c.args.w in
    let x : m.value c.index-h-0.result ≡ nth s (map m.value c.args.h.now) 0 = letter_is s m.value c.args.h.now 0 c.index-h-0.result (omega arith) c.index-h-0.is in
    let y : m.value c.index-q-0.result ≡ nth s (map m.value c.args.q.now) 0 = letter_is s m.value c.args.q.now 0 c.index-q-0.result (omega arith) c.index-q-0.is in
    let at_entries = subst (Among (IsWorkHigh 2 s)) (ap₂ (less_work s w) x y) in
    handed_on _ c.from_residual.ensures.1 (λ high. inl (at_entries high)) c.in_err-k0.ensures.range

pub returns-in_err-k1-clause-range : goal.returns-in_err-k1-clause-range
returns-in_err-k1-clause-range g c =
    let m = g.R.Ring.meaning c.args.ring.now in
    let s = m.scalars in
    let w = m.value c.args.w in
    let x : m.value c.index-h-1.result ≡ nth s (map m.value c.args.h.now) 1 = letter_is s m.value c.args.h.now 1 c.index-h-1.result (omega arith) c.index-h-1.is in
    let y : m.value c.index-q-1.result ≡ nth s (map m.value c.args.q.now) 1 = letter_is s m.value c.args.q.now 1 c.index-q-1.result (omega arith) c.index-q-1.is in
    let at_entries = subst (Among (IsWorkHigh 2 s)) (ap₂ (less_work s w) x y) in
    handed_on _ c.from_residual-in_err-k1.ensures.1 (λ high. inr (inl (at_entries high))) c.in_err-k1.ensures.range

pub returns-in_err-k2-clause-range : goal.returns-in_err-k2-clause-range
returns-in_err-k2-clause-range g c =
    let m = g.R.Ring.meaning c.args.ring.now in
    let s = m.scalars in
    let w = m.value c.args.w in
    let x : m.value c.index-h-2.result ≡ nth s (map m.value c.args.h.now) 2 = letter_is s m.value c.args.h.now 2 c.index-h-2.result (omega arith) c.index-h-2.is in
    let y : m.value c.index-q-2.result ≡ nth s (map m.value c.args.q.now) 2 = letter_is s m.value c.args.q.now 2 c.index-q-2.result (omega arith) c.index-q-2.is in
    let at_entries = subst (Among (IsWorkHigh 2 s)) (ap₂ (less_work s w) x y) in
    handed_on _ c.from_residual-in_err-k2.ensures.1 (λ high. inr (inr (inl (at_entries high)))) c.in_err-k2.ensures.range

pub returns-in_err-k3-clause-range : goal.returns-in_err-k3-clause-range
returns-in_err-k3-clause-range g c =
    let m = g.R.Ring.meaning c.args.ring.now in
    let s = m.scalars in
    let w = m.value c.args.w in
    let x : m.value c.index-h-3.result ≡ nth s (map m.value c.args.h.now) 3 = letter_is s m.value c.args.h.now 3 c.index-h-3.result (omega arith) c.index-h-3.is in
    let y : m.value c.index-q-3.result ≡ nth s (map m.value c.args.q.now) 3 = letter_is s m.value c.args.q.now 3 c.index-q-3.result (omega arith) c.index-q-3.is in
    let at_entries = subst (Among (IsWorkHigh 2 s)) (ap₂ (less_work s w) x y) in
    handed_on _ c.from_residual-in_err-k3.ensures.1 (λ high. inr (inr (inr (inl (at_entries high))))) c.in_err-k3.ensures.range

pub returns-in_err-k4-clause-range : goal.returns-in_err-k4-clause-range
returns-in_err-k4-clause-range g c =
    let m = g.R.Ring.meaning c.args.ring.now in
    let s = m.scalars in
    let w = m.value c.args.w in
    let x : m.value c.index-h-4.result ≡ nth s (map m.value c.args.h.now) 4 = letter_is s m.value c.args.h.now 4 c.index-h-4.result (omega arith) c.index-h-4.is in
    let y : m.value c.index-q-4.result ≡ nth s (map m.value c.args.q.now) 4 = letter_is s m.value c.args.q.now 4 c.index-q-4.result (omega arith) c.index-q-4.is in
    let at_entries = subst (Among (IsWorkHigh 2 s)) (ap₂ (less_work s w) x y) in
    handed_on _ c.from_residual-in_err-k4.ensures.1 (λ high. inr (inr (inr (inr (inl (at_entries high)))))) c.in_err-k4.ensures.range

pub returns-clause-value : goal.returns-clause-value
returns-clause-value g c =
    let m = g.R.Ring.meaning c.args.ring.now in
    let s = m.scalars in
    let w = m.value c.args.w in
    let hs = map m.value c.args.h.now in
    let qs = map m.value c.args.q.now in
    let k0 : m.value c.in_ok-k0.k0 ≡ minus s (nth s hs 0) (s.ops.mul w (nth s qs 0)) =
    c.in_ok-k0.ensures.value ∙ ap₂ (λ x y. minus s x (s.ops.mul w y)) (letter_is s m.value c.args.h.now 0 c.index-h-0.result (omega arith) c.index-h-0.is) (letter_is s m.value c.args.q.now 0 c.index-q-0.result (omega arith) c.index-q-0.is) in
    let k1 : m.value c.in_ok-k1.k1 ≡ minus s (nth s hs 1) (s.ops.mul w (nth s qs 1)) =
    c.in_ok-k1.ensures.value ∙ ap₂ (λ x y. minus s x (s.ops.mul w y)) (letter_is s m.value c.args.h.now 1 c.index-h-1.result (omega arith) c.index-h-1.is) (letter_is s m.value c.args.q.now 1 c.index-q-1.result (omega arith) c.index-q-1.is) in
    let k2 : m.value c.in_ok-k2.k2 ≡ minus s (nth s hs 2) (s.ops.mul w (nth s qs 2)) =
    c.in_ok-k2.ensures.value ∙ ap₂ (λ x y. minus s x (s.ops.mul w y)) (letter_is s m.value c.args.h.now 2 c.index-h-2.result (omega arith) c.index-h-2.is) (letter_is s m.value c.args.q.now 2 c.index-q-2.result (omega arith) c.index-q-2.is) in
    let k3 : m.value c.in_ok-k3.k3 ≡ minus s (nth s hs 3) (s.ops.mul w (nth s qs 3)) =
    c.in_ok-k3.ensures.value ∙ ap₂ (λ x y. minus s x (s.ops.mul w y)) (letter_is s m.value c.args.h.now 3 c.index-h-3.result (omega arith) c.index-h-3.is) (letter_is s m.value c.args.q.now 3 c.index-q-3.result (omega arith) c.index-q-3.is) in
    let k4 : m.value c.in_ok-k4.k4 ≡ minus s (nth s hs 4) (s.ops.mul w (nth s qs 4)) =
    c.in_ok-k4.ensures.value ∙ ap₂ (λ x y. minus s x (s.ops.mul w y)) (letter_is s m.value c.args.h.now 4 c.index-h-4.result (omega arith) c.index-h-4.is) (letter_is s m.value c.args.q.now 4 c.index-q-4.result (omega arith) c.index-q-4.is) in
    (λ t. k0 t ∷ k1 t ∷ k2 t ∷ k3 t ∷ k4 t ∷ [])
    ∙ differences_are s w hs qs (length-map c.args.h.now m.value ∙ c.requires.h_coefficients) (length-map c.args.q.now m.value ∙ c.requires.q_coefficients)
