use Rattle.std.proofs.Common.{◌≡◌, inl, inr, ◌∷◌, [], map, ap, subst, ◌∙◌}
use Rattle.ring_law.proofs.Exits.{handed_on}
use Rattle.jet_law.specs.Heights.{IsHigh}
use Rattle.jet_law.proofs.High.{high_left}
use Rattle.ring_formula.specs.Formulas.{formula_value, formula_heights}
use Rattle.normal_forms.specs.declared.invariant.TheConstants.{QUARTIC_DISCRIMINANT}
use Rattle.normal_forms.specs.Units.{quartic_i, quartic_j, quartic_letters, invariants_heights}
use Rattle.move_law.specs.declared.covariant.TheConstants.{QUARTIC_H0, QUARTIC_H1, QUARTIC_H2, QUARTIC_H3, QUARTIC_H4}
use Rattle.bin_forms.proofs.quartic.quartic_hessian.Goals as goal

pub returns-in_err-letters-clause-range : goal.returns-in_err-letters-clause-range
returns-in_err-letters-clause-range g c =
    let m = g.R.Ring.meaning c.args.ring.now in
    let s = m.scalars in
    let f = map m.value c.args.q.now in
    handed_on _ c.from_residual.ensures.1 (λ high. inl (high_left (invariants_heights s f) (formula_heights s (quartic_i s f ∷ quartic_j s f ∷ []) QUARTIC_DISCRIMINANT) high)) c.in_err-letters.ensures.range

pub returns-in_err-h0-clause-range : goal.returns-in_err-h0-clause-range
returns-in_err-h0-clause-range g c =
    let m = g.R.Ring.meaning c.args.ring.now in
    let s = m.scalars in
    let f = map m.value c.args.q.now in
    let at_letters : IsHigh (formula_heights s (map m.value c.in_ok-letters.letters) QUARTIC_H0) → IsHigh (formula_heights s (quartic_letters s f) QUARTIC_H0) = subst (λ z. IsHigh (formula_heights s z QUARTIC_H0)) c.in_ok-letters.ensures.value in
    handed_on _ c.from_residual-in_err-h0.ensures.1 (λ high. inr (inl (at_letters high))) c.in_err-h0.ensures.range

pub returns-in_err-h1-clause-range : goal.returns-in_err-h1-clause-range
returns-in_err-h1-clause-range g c =
    let m = g.R.Ring.meaning c.args.ring.now in
    let s = m.scalars in
    let f = map m.value c.args.q.now in
    let at_letters : IsHigh (formula_heights s (map m.value c.in_ok-letters.letters) QUARTIC_H1) → IsHigh (formula_heights s (quartic_letters s f) QUARTIC_H1) = subst (λ z. IsHigh (formula_heights s z QUARTIC_H1)) c.in_ok-letters.ensures.value in
    handed_on _ c.from_residual-in_err-h1.ensures.1 (λ high. inr (inr (inl (at_letters high)))) c.in_err-h1.ensures.range

pub returns-in_err-h2-clause-range : goal.returns-in_err-h2-clause-range
returns-in_err-h2-clause-range g c =
    let m = g.R.Ring.meaning c.args.ring.now in
    let s = m.scalars in
    let f = map m.value c.args.q.now in
    let at_letters : IsHigh (formula_heights s (map m.value c.in_ok-letters.letters) QUARTIC_H2) → IsHigh (formula_heights s (quartic_letters s f) QUARTIC_H2) = subst (λ z. IsHigh (formula_heights s z QUARTIC_H2)) c.in_ok-letters.ensures.value in
    handed_on _ c.from_residual-in_err-h2.ensures.1 (λ high. inr (inr (inr (inl (at_letters high))))) c.in_err-h2.ensures.range

pub returns-in_err-h3-clause-range : goal.returns-in_err-h3-clause-range
returns-in_err-h3-clause-range g c =
    let m = g.R.Ring.meaning c.args.ring.now in
    let s = m.scalars in
    let f = map m.value c.args.q.now in
    let at_letters : IsHigh (formula_heights s (map m.value c.in_ok-letters.letters) QUARTIC_H3) → IsHigh (formula_heights s (quartic_letters s f) QUARTIC_H3) = subst (λ z. IsHigh (formula_heights s z QUARTIC_H3)) c.in_ok-letters.ensures.value in
    handed_on _ c.from_residual-in_err-h3.ensures.1 (λ high. inr (inr (inr (inr (inl (at_letters high)))))) c.in_err-h3.ensures.range

pub returns-in_err-h4-clause-range : goal.returns-in_err-h4-clause-range
returns-in_err-h4-clause-range g c =
    let m = g.R.Ring.meaning c.args.ring.now in
    let s = m.scalars in
    let f = map m.value c.args.q.now in
    let at_letters : IsHigh (formula_heights s (map m.value c.in_ok-letters.letters) QUARTIC_H4) → IsHigh (formula_heights s (quartic_letters s f) QUARTIC_H4) = subst (λ z. IsHigh (formula_heights s z QUARTIC_H4)) c.in_ok-letters.ensures.value in
    handed_on _ c.from_residual-in_err-h4.ensures.1 (λ high. inr (inr (inr (inr (inr (inl (at_letters high))))))) c.in_err-h4.ensures.range

pub returns-clause-value : goal.returns-clause-value
returns-clause-value g c =
    let m = g.R.Ring.meaning c.args.ring.now in
    let s = m.scalars in
    let f = map m.value c.args.q.now in
    let letters : map m.value c.in_ok-letters.letters ≡ quartic_letters s f = c.in_ok-letters.ensures.value in
    let h0 : m.value c.in_ok-h0.h0 ≡ formula_value s (quartic_letters s f) QUARTIC_H0 = c.in_ok-h0.ensures.value ∙ ap (λ z. formula_value s z QUARTIC_H0) letters in
    let h1 : m.value c.in_ok-h1.h1 ≡ formula_value s (quartic_letters s f) QUARTIC_H1 = c.in_ok-h1.ensures.value ∙ ap (λ z. formula_value s z QUARTIC_H1) letters in
    let h2 : m.value c.in_ok-h2.h2 ≡ formula_value s (quartic_letters s f) QUARTIC_H2 = c.in_ok-h2.ensures.value ∙ ap (λ z. formula_value s z QUARTIC_H2) letters in
    let h3 : m.value c.in_ok-h3.h3 ≡ formula_value s (quartic_letters s f) QUARTIC_H3 = c.in_ok-h3.ensures.value ∙ ap (λ z. formula_value s z QUARTIC_H3) letters in
    let h4 : m.value c.in_ok-h4.h4 ≡ formula_value s (quartic_letters s f) QUARTIC_H4 = c.in_ok-h4.ensures.value ∙ ap (λ z. formula_value s z QUARTIC_H4) letters in
    λ t. h0 t ∷ h1 t ∷ h2 t ∷ h3 t ∷ h4 t ∷ []
