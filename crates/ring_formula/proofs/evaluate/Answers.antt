use Rattle.std.proofs.Common.{map, ap, ◌∙◌, take_all, arith}
use Rattle.ring_law.proofs.Exits.{handed_on}
use Rattle.ring_theory.specs.Scalars.{sum_of}
use Rattle.ring_formula.specs.Formulas.{summand_value, formula_value}
use Rattle.ring_formula.proofs.Steps
use Rattle.ring_formula.proofs.evaluate.Goals as goal

pub returns-in_err-value-clause-range : goal.returns-in_err-value-clause-range
returns-in_err-value-clause-range g c =
    let m = g.R.Ring.meaning c.args.ring.now in
    handed_on _ c.from_residual.ensures.1
    (λ high. Steps.one_high m.scalars (g.met.R.Ring.laws c.args.ring.now c.requires.ring).numbers.ring (map m.value c.args.letters.now) c.args.formula.now c.loop-e.e-index _ c.loop-e-test.true high)
    c.in_err-value.ensures.range

pub returns-in_err-sum-clause-range : goal.returns-in_err-sum-clause-range
returns-in_err-sum-clause-range g c =
    let m = g.R.Ring.meaning c.args.ring.now in
    handed_on _ c.from_residual-in_err-sum.ensures.1
    (λ high. Steps.sum_high m.scalars (g.met.R.Ring.laws c.args.ring.now c.requires.ring).numbers.ring (map m.value c.args.letters.now) c.args.formula.now c.loop-e.e-index _ c.loop-e-test.true
    (m.value c.loop-e.sum) (m.value c.in_ok-value.value) c.loop-e.invariant.value c.in_ok-value.ensures.value high)
    c.in_err-sum.ensures.cause

pub loop-e-preserved : goal.loop-e-preserved
loop-e-preserved g c =
    let m = g.R.Ring.meaning c.args.ring.now in
    record {
      within = omega arith;
      elem = c.in_ok-sum.ensures.elem;
      value = Steps.sum_more m.scalars (g.met.R.Ring.laws c.args.ring.now c.requires.ring).numbers.ring (map m.value c.args.letters.now) c.args.formula.now c.loop-e.e-index _ c.loop-e-test.true
          (m.value c.loop-e.sum) (m.value c.in_ok-sum.sum) (m.value c.in_ok-value.value) c.loop-e.invariant.value c.in_ok-value.ensures.value c.in_ok-sum.ensures.value;
    }

pub returns-clause-value : goal.returns-clause-value
unfolding formula_value
returns-clause-value g c =
    let m = g.R.Ring.meaning c.args.ring.now in
    c.loop-e.invariant.value
    ∙ ap (λ z. sum_of m.scalars.ops (map (summand_value m.scalars (map m.value c.args.letters.now)) z)) (take_all c.loop-e.e-index c.args.formula.now (omega arith))
