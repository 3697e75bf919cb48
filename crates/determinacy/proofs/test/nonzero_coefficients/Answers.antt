use Rattle.std.proofs.Common.{◌≡◌, ◌≢◌, ◌∙◌, ◌<◌, [], ◌∷◌, true, false, length, refl, sym, ap, subst, take_all, arith}
use Rattle.lin_row.specs.Lines.{AllBelow}
use Rattle.lin_row.specs.System.{dot_at}
use Rattle.lin_row.proofs.LineLaws
use Rattle.lin_row.proofs.SystemLaws
use Rattle.lin_row.proofs.BuildLaws
use Rattle.determinacy.proofs.AnswerLemmas.{weighted, weighted-rows, zero_step, nonzero_step, each_at}
use Rattle.determinacy.proofs.test.nonzero_coefficients.Goals as goal

pub loop-j-init : goal.loop-j-init
loop-j-init g c = rw c.new-all.ensures.items (record { rising = tt; below = tt; units = tt; sum = λ v. refl })

pub loop-j-preserved-then-eq : goal.loop-j-preserved-then-eq
loop-j-preserved-then-eq g c =
    let m = g.R.Ring.meaning c.args.ring.now in
    let laws = (g.met.R.Ring.laws c.args.ring.now c.requires.ring).numbers.ring in
    let xs = c.args.coefficients.now in
    let j = c.loop-j.j in
    let x = c.index-coefficients-j.result in
    let within : j < length xs = c.loop-j-test.true in
    let none : m.value x ≡ m.scalars.ops.zero = c.eq.ensures.0 c.if-eq.true ∙ c.zero.ensures.value in
    let v = c.loop-j.invariant in
    record {
      rising = v.rising;
      below = SystemLaws.below_bigger c.loop-j.all.items j _ (omega arith) v.below;
      units = v.units;
      sum = λ w. zero_step m laws xs j x within c.index-coefficients-j.is c.loop-j.all.items none w (v.sum w);
    }

pub loop-j-preserved : goal.loop-j-preserved
loop-j-preserved g c =
    let m = g.R.Ring.meaning c.args.ring.now in
    let laws = (g.met.R.Ring.laws c.args.ring.now c.requires.ring).numbers.ring in
    let xs = c.args.coefficients.now in
    let j = c.loop-j.j in
    let x = c.index-coefficients-j.result in
    let within : j < length xs = c.loop-j-test.true in
    let elem = each_at m.is_elem xs j x within c.index-coefficients-j.is c.requires.elems in
    let some : m.value x ≢ m.scalars.ops.zero = (λ e. let bad : ⊥ = (let z : true ≡ false = sym (c.eq.ensures.1 (e ∙ sym c.zero.ensures.value)) ∙ c.if-eq.false in cc z) in absurd bad) in
    let v = c.loop-j.invariant in
    let all = c.loop-j.all.items in
    rw c.in_ok-push.ensures.items
    (record {
      rising = BuildLaws.rising_push all j (j, x) (omega arith) v.below v.rising;
      below = BuildLaws.below_push all _ (j, x) (SystemLaws.below_bigger all j _ (omega arith) v.below) (omega arith);
      units = LineLaws.units_append m laws all ((j, x) ∷ []) v.units ((elem, some), tt);
      sum = λ w. nonzero_step m laws xs j x within c.index-coefficients-j.is all w (v.sum w);
    })

pub returns-clause-nonzero : goal.returns-clause-nonzero
returns-clause-nonzero g c =
    let m = g.R.Ring.meaning c.args.ring.now in
    let laws = (g.met.R.Ring.laws c.args.ring.now c.requires.ring).numbers.ring in
    let xs = c.args.coefficients.now in
    let v = c.loop-j.invariant in
    record {
      line = record { rising = v.rising; units = v.units };
      within = subst (λ b. AllBelow b c.loop-j.all.items) (omega arith) v.below;
      same = λ rows w. v.sum (λ j. dot_at m rows j w) ∙ ap (λ ys. weighted m ys 0 (λ j. dot_at m rows j w)) (take_all c.loop-j.j xs (omega arith)) ∙ weighted-rows m laws xs rows w;
    }
