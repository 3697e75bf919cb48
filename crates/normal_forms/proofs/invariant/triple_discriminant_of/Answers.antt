use Rattle.std.proofs.Common.{map, ap, ◌∙◌}
use Rattle.std.proofs.lemmas.List.{length-map}
use Rattle.jet_poly.proofs.Steps.{if_ok}
use Rattle.ring_formula.specs.Formulas.{formula_value}
use Rattle.normal_forms.specs.declared.invariant.TheConstants.{TRIPLE_DISCRIMINANT}
use Rattle.normal_forms.specs.Units.{at}
use Rattle.normal_forms.proofs.Invariants
use Rattle.normal_forms.proofs.invariant.triple_discriminant_of.Goals as goal

pub returns-clause-value : goal.returns-clause-value
returns-clause-value g c =
    let m = g.R.Ring.meaning c.args.ring.now in
    let s = m.scalars in
    let cs = map m.value c.args.c.now in
    let letters = Invariants.three_are s cs (length-map c.args.c.now m.value ∙ c.requires.coefficients) in
    if_ok c.evaluate.result (λ y h. h ∙ ap (λ z. formula_value s z TRIPLE_DISCRIMINANT) letters ∙ Invariants.triple_value s (g.met.R.Ring.laws c.args.ring.now c.requires.ring).numbers (at s cs 0) (at s cs 1) (at s cs 2)) c.evaluate.ensures.value
