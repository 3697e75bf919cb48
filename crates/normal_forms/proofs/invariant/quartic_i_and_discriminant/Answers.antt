use Rattle.std.proofs.Common.{◌≡◌, ◌∷◌, [], map, ap, subst, ◌∙◌}
use Rattle.ring_law.proofs.Exits.{handed_on}
use Rattle.jet_law.specs.Heights.{IsHigh}
use Rattle.jet_law.proofs.High.{high_left, high_right}
use Rattle.ring_formula.specs.Formulas.{formula_value, formula_heights}
use Rattle.normal_forms.specs.declared.invariant.TheConstants.{QUARTIC_DISCRIMINANT}
use Rattle.normal_forms.specs.Units.{quartic_i, quartic_j, invariants_heights}
use Rattle.normal_forms.proofs.Invariants
use Rattle.normal_forms.proofs.invariant.quartic_i_and_discriminant.Goals as goal

pub returns-in_err-i-clause-range : goal.returns-in_err-i-clause-range
returns-in_err-i-clause-range g c =
    let m = g.R.Ring.meaning c.args.ring.now in
    let qs = map m.value c.args.q.now in
    handed_on _ c.from_residual.ensures.1
    (high_left (invariants_heights m.scalars qs) (formula_heights m.scalars (quartic_i m.scalars qs ∷ quartic_j m.scalars qs ∷ []) QUARTIC_DISCRIMINANT))
    c.in_err-i.ensures.range

pub returns-in_err-discriminant-clause-range : goal.returns-in_err-discriminant-clause-range
returns-in_err-discriminant-clause-range g c =
    let m = g.R.Ring.meaning c.args.ring.now in
    let s = m.scalars in
    let qs = map m.value c.args.q.now in
    let letters : (m.value c.in_ok-i.i ∷ m.value c.in_ok-i.j ∷ []) ≡ (quartic_i s qs ∷ quartic_j s qs ∷ []) = λ k. c.in_ok-i.ensures.i_value k ∷ c.in_ok-i.ensures.j_value k ∷ [] in
    handed_on _ c.from_residual-in_err-discriminant.ensures.1
    (λ high. high_right (invariants_heights s qs) (formula_heights s (quartic_i s qs ∷ quartic_j s qs ∷ []) QUARTIC_DISCRIMINANT) (subst (λ z. IsHigh (formula_heights s z QUARTIC_DISCRIMINANT)) letters high))
    c.in_err-discriminant.ensures.range

pub returns-clause-discriminant_value : goal.returns-clause-discriminant_value
returns-clause-discriminant_value g c =
    let m = g.R.Ring.meaning c.args.ring.now in
    let s = m.scalars in
    let qs = map m.value c.args.q.now in
    let letters : (m.value c.in_ok-i.i ∷ m.value c.in_ok-i.j ∷ []) ≡ (quartic_i s qs ∷ quartic_j s qs ∷ []) = λ k. c.in_ok-i.ensures.i_value k ∷ c.in_ok-i.ensures.j_value k ∷ [] in
    c.in_ok-discriminant.ensures.value ∙ ap (λ z. formula_value s z QUARTIC_DISCRIMINANT) letters ∙ Invariants.discriminant_value s (g.met.R.Ring.laws c.args.ring.now c.requires.ring).numbers (quartic_i s qs) (quartic_j s qs)
