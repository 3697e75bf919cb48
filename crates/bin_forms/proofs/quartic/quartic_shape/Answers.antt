use Rattle.std.proofs.Common.{◌≡◌, false, ◌∷◌, [], map, length, sym, ap, subst, ◌∙◌}
use Rattle.std.specs.List.{list_all}
use Rattle.std.proofs.lemmas.List.{length-map}
use Rattle.ring_law.proofs.Exits.{handed_on}
use Rattle.jet_law.specs.Heights.{IsHigh}
use Rattle.jet_law.proofs.High.{high_left, high_right}
use Rattle.ring_formula.specs.Formulas.{formula_value, formula_heights}
use Rattle.normal_forms.specs.declared.invariant.TheConstants.{QUARTIC_DISCRIMINANT}
use Rattle.normal_forms.specs.Units.{quartic_i, quartic_j, quartic_discriminant, invariants_heights}
use Rattle.normal_forms.proofs.Invariants.{discriminant_value}
use Rattle.move_law.specs.Work.{IsWorkHigh}
use Rattle.bin_forms.specs.declared.quartic.Quartic.TheVariants as quartics
use Rattle.bin_forms.proofs.QuarticSteps.{answered, units_high, zero_shape, distinct_shape}
use Rattle.bin_forms.proofs.quartic.quartic_shape.Goals as goal

pub returns-then-are_zero-clause-shape : goal.returns-then-are_zero-clause-shape
returns-then-are_zero-clause-shape g c =
    let m = g.F.Ring.meaning c.args.field.now in
    let s = m.scalars in
    let f = map m.value c.args.q.now in
    let five : length f ≡ 5 = length-map c.args.q.now m.value ∙ c.requires.coefficients in
    let laws = (g.met.F.Ring.laws c.args.field.now c.requires.field).numbers in
    let inverts = g.met.F.Field.inverts c.args.field.now c.requires.field in
    answered m laws inverts c.args.q.now c.requires.coefficients quartics.Zero tt (zero_shape s f (sym (sym c.if-are_zero.true ∙ c.are_zero.ensures)))

pub returns-in_err-i-clause-range : goal.returns-in_err-i-clause-range
returns-in_err-i-clause-range g c =
    let m = g.F.Ring.meaning c.args.field.now in
    let s = m.scalars in
    let f = map m.value c.args.q.now in
    let five : length f ≡ 5 = length-map c.args.q.now m.value ∙ c.requires.coefficients in
    let some : list_all s.is_zero f ≡ false = sym (sym c.if-are_zero.false ∙ c.are_zero.ensures) in
    handed_on _ c.from_residual.ensures.1
    (λ high. units_high s (IsWorkHigh 2 s) f five some (high_left (invariants_heights s f) (formula_heights s (quartic_i s f ∷ quartic_j s f ∷ []) QUARTIC_DISCRIMINANT) high)) c.in_err-i.ensures.range

pub returns-in_err-discriminant-clause-range : goal.returns-in_err-discriminant-clause-range
returns-in_err-discriminant-clause-range g c =
    let m = g.F.Ring.meaning c.args.field.now in
    let s = m.scalars in
    let f = map m.value c.args.q.now in
    let five : length f ≡ 5 = length-map c.args.q.now m.value ∙ c.requires.coefficients in
    let some : list_all s.is_zero f ≡ false = sym (sym c.if-are_zero.false ∙ c.are_zero.ensures) in
    let letters : (m.value c.in_ok-i.i ∷ m.value c.in_ok-i.j ∷ []) ≡ (quartic_i s f ∷ quartic_j s f ∷ []) = λ t. c.in_ok-i.ensures.i_value t ∷ c.in_ok-i.ensures.j_value t ∷ [] in
    handed_on _ c.from_residual-in_err-discriminant.ensures.1
    (λ high. units_high s (IsWorkHigh 2 s) f five some (high_right (invariants_heights s f) (formula_heights s (quartic_i s f ∷ quartic_j s f ∷ []) QUARTIC_DISCRIMINANT) (subst (λ z. IsHigh (formula_heights s z QUARTIC_DISCRIMINANT)) letters high)))
    c.in_err-discriminant.ensures.range

pub returns-then-not-is_zero-clause-shape : goal.returns-then-not-is_zero-clause-shape
returns-then-not-is_zero-clause-shape g c =
    let m = g.F.Ring.meaning c.args.field.now in
    let s = m.scalars in
    let f = map m.value c.args.q.now in
    let five : length f ≡ 5 = length-map c.args.q.now m.value ∙ c.requires.coefficients in
    let laws = (g.met.F.Ring.laws c.args.field.now c.requires.field).numbers in
    let inverts = g.met.F.Field.inverts c.args.field.now c.requires.field in
    let some : list_all s.is_zero f ≡ false = sym (sym c.if-are_zero.false ∙ c.are_zero.ensures) in
    let letters : (m.value c.in_ok-i.i ∷ m.value c.in_ok-i.j ∷ []) ≡ (quartic_i s f ∷ quartic_j s f ∷ []) = λ t. c.in_ok-i.ensures.i_value t ∷ c.in_ok-i.ensures.j_value t ∷ [] in
    let value : m.value c.in_ok-discriminant.discriminant ≡ quartic_discriminant s f =
    c.in_ok-discriminant.ensures.value ∙ ap (λ z. formula_value s z QUARTIC_DISCRIMINANT) letters ∙ discriminant_value s laws (quartic_i s f) (quartic_j s f) in
    let nonzero : s.is_zero (quartic_discriminant s f) ≡ false = sym (sym c.if-not-is_zero.true ∙ c.is_zero.ensures ∙ ap s.is_zero value) in
    answered m laws inverts c.args.q.now c.requires.coefficients quartics.Distinct tt (distinct_shape s f some nonzero)

pub degenerate_shape-requires-clause-degenerate : goal.degenerate_shape-requires-clause-degenerate
degenerate_shape-requires-clause-degenerate g c =
    let m = g.F.Ring.meaning c.args.field.now in
    let s = m.scalars in
    let f = map m.value c.args.q.now in
    let five : length f ≡ 5 = length-map c.args.q.now m.value ∙ c.requires.coefficients in
    let laws = (g.met.F.Ring.laws c.args.field.now c.requires.field).numbers in
    let inverts = g.met.F.Field.inverts c.args.field.now c.requires.field in
    let some : list_all s.is_zero f ≡ false = sym (sym c.if-are_zero.false ∙ c.are_zero.ensures) in
    let letters : (m.value c.in_ok-i.i ∷ m.value c.in_ok-i.j ∷ []) ≡ (quartic_i s f ∷ quartic_j s f ∷ []) = λ t. c.in_ok-i.ensures.i_value t ∷ c.in_ok-i.ensures.j_value t ∷ [] in
    let value : m.value c.in_ok-discriminant.discriminant ≡ quartic_discriminant s f =
    c.in_ok-discriminant.ensures.value ∙ ap (λ z. formula_value s z QUARTIC_DISCRIMINANT) letters ∙ discriminant_value s laws (quartic_i s f) (quartic_j s f) in
    record { nonzero = some; discriminant = sym (sym c.if-not-is_zero.false ∙ c.is_zero.ensures ∙ ap s.is_zero value) }
