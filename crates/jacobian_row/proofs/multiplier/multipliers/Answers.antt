use Rattle.std.proofs.Common.{◌∙◌, ◌∷◌, [], sym, ap, subst, length, length-append, arith}
use Rattle.jacobian_row.specs.Multipliers.{IsMultiplier}
use Rattle.jacobian_row.proofs.ListSteps.{each_index_push, each_index_none}
use Rattle.jacobian_row.proofs.MultiplierLemmas.{terms_rise, jet_of}
use Rattle.jacobian_row.proofs.multiplier.multipliers.Goals as goal

pub from_rising-requires : goal.from_rising-requires
from_rising-requires g c =
    let are = c.requires.multiples in
    record { rising = rw c.in_ok-terms.ensures.terms (terms_rise c.args.n are.0 are.1 c.requires.at_most_8_variables c.args.multiples.now are.2 c.loop-variable.variable c.args.coefficients.now c.requires.rising c.requires.within) }

pub loop-variable-init : goal.loop-variable-init
loop-variable-init g c = record {
  count = ap length c.new-all.ensures.items;
  each = each_index_none (IsMultiplier c.args.n c.args.k c.args.multiples.now c.args.coefficients.now) c.new-all.result.items c.new-all.ensures.items;
}

pub loop-variable-preserved : goal.loop-variable-preserved
loop-variable-preserved g c =
    let n = c.args.n in
    let k = c.args.k in
    let ms = c.args.multiples.now in
    let cs = c.args.coefficients.now in
    let all = c.loop-variable.all.items in
    let f = c.from_rising.result in
    let is : IsMultiplier n k ms cs c.loop-variable.variable f = c.from_rising.ensures ∙ ap (jet_of n k) c.in_ok-terms.ensures.terms in
    rw c.in_ok-push.ensures.items
    (record {
      count = (let e = length-append all (f ∷ []) in let h = c.loop-variable.invariant.count in omega arith);
      each = each_index_push (IsMultiplier n k ms cs) all f c.loop-variable.invariant.each (subst (λ i. IsMultiplier n k ms cs i f) (sym c.loop-variable.invariant.count) is);
    })

pub returns-clause-multipliers : goal.returns-clause-multipliers
returns-clause-multipliers g c = rw c.from_vec.ensures (record { count = c.loop-variable.invariant.count ∙ (omega arith); each = c.loop-variable.invariant.each })
