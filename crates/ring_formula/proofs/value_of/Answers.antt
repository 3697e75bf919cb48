use Rattle.std.proofs.Common.{◌≡◌, ◌<◌, length, map, ap, sym, subst, ◌∙◌, arith}
use Rattle.std.proofs.lemmas.List.{length-map}
use Rattle.ring_law.proofs.Exits.{handed_on}
use Rattle.ring_formula.specs.Formulas.{first_factors}
use Rattle.ring_formula.proofs.Steps
use Rattle.ring_formula.proofs.value_of.Goals as goal

pub returns-in_err-y-clause-range : goal.returns-in_err-y-clause-range
returns-in_err-y-clause-range g c =
    let m = g.R.Ring.meaning c.args.ring.now in
    handed_on _ c.from_residual.ensures.1
    (λ high. Steps.factor_high m.scalars (map m.value c.args.letters.now) c.args.e c.loop-i.i (m.value c.loop-i.y) (m.value c.index-letters-i.result)
    (subst (λ k. c.loop-i.i < k) (sym (length-map c.args.letters.now m.value)) c.loop-i-test.true)
    c.loop-i.invariant.value (Steps.letter_is m.scalars m.value c.args.letters.now c.loop-i.i c.index-letters-i.result c.loop-i-test.true c.index-letters-i.is) high)
    c.in_err-y.ensures.range

pub loop-i-preserved : goal.loop-i-preserved
loop-i-preserved g c =
    let m = g.R.Ring.meaning c.args.ring.now in
    record {
      elem = c.in_ok-y.ensures.elem;
      value = Steps.factor_more m.scalars (map m.value c.args.letters.now) c.args.e c.loop-i.i (m.value c.in_ok-y.y) (m.value c.index-letters-i.result)
          (Steps.letter_is m.scalars m.value c.args.letters.now c.loop-i.i c.index-letters-i.result c.loop-i-test.true c.index-letters-i.is)
          (Steps.power_from m.scalars (m.value c.index-letters-i.result) _ c.loop-i.invariant.value c.in_ok-y.ensures.value);
    }

pub returns-clause-value : goal.returns-clause-value
returns-clause-value g c =
    let m = g.R.Ring.meaning c.args.ring.now in
    let full : c.loop-i.i ≡ length (map m.value c.args.letters.now) = sym (length-map c.args.letters.now m.value ∙ (omega arith)) in
    c.loop-i.invariant.value ∙ ap (first_factors m.scalars (map m.value c.args.letters.now) c.args.e) full
