use Rattle.std.proofs.Common.{◌≡◌, ℕ, suc, ◌+◌, ◌-◌, ◌++◌, ◌∷◌, [], List, length, length-append, refl, sym, ap, subst, ◌∙◌, arith}
use Rattle.std.specs.List.{flat_map}
use Rattle.cert_text.specs.Text.{functional_text}
use Rattle.report_reader.specs.Functional.{Term, number_of}
use Rattle.report_reader.proofs.FunctionalLines.{AreDone, done_all, done_push, value_residual, values_stop, number_fits}
use Rattle.report_reader.proofs.functional.read_values.Goals as goal
use Rattle.report_reader.proofs.RowLines.{pushed_text}

pub loop-i-init : goal.loop-i-init
loop-i-init c =
    let empty = c.new-values.ensures in
    let start : AreDone c.args.a c.args.corank 0 c.args.count [] 0 = (refl, omega (arith, c.requires.room)) in
    record {
      long = ap length empty;
      done = subst (λ (vs : List Term). AreDone c.args.a c.args.corank 0 c.args.count vs 0) (sym empty) start;
      text = ap (λ (vs : List Term). flat_map functional_text vs ++ c.args.bytes.now) empty;
    }

pub returns-in-None-clause-halt : goal.returns-in-None-clause-halt
returns-in-None-clause-halt c =
    let i = c.loop-i.invariant in
    values_stop c.args.a c.args.corank 0 c.args.count (c.args.count - c.loop-i.i) c.loop-i.values c.loop-i.low c.args.bytes.now c.loop-i.rest.now c.requires.corank i.done (let a = i.long in omega (arith, a, c.loop-i-test.true)) (omega (arith, c.loop-i-test.true)) i.text (c.in-None.ensures.none refl)

pub number-low-requires-clause-residual : goal.number-low-requires-clause-residual
number-low-requires-clause-residual c = value_residual c.args.a c.args.corank c.in-Some.value c.in-Some.ensures.some.0.value

pub overflow_add-low : goal.overflow_add-low
overflow_add-low c =
    let small = number_fits c.args.corank c.in-Some.value.0 c.requires.corank (value_residual c.args.a c.args.corank c.in-Some.value c.in-Some.ensures.some.0.value) in
    let is = c.number-low.ensures.number in
    omega (arith, small, is)

pub loop-i-preserved : goal.loop-i-preserved
loop-i-preserved c =
    let i = c.loop-i.invariant in
    let read = c.in-Some.ensures.some in
    let longer = c.in-Ok.ensures.ok in
    let long_so_far = i.long in
    let more = done_push c.args.a c.args.corank 0 c.args.count (c.args.count - c.loop-i.i) c.loop-i.values c.loop-i.low c.in-Some.value i.done (omega (arith, long_so_far, c.loop-i-test.true)) (omega (arith, c.loop-i-test.true)) read.0 in
    let at = c.number-low.ensures.number in
    let low : suc (number_of c.args.corank c.in-Some.value.0) ≡ c.number-low.result + 1 = omega (arith, at) in
    record {
      long = (let a = ap length longer in let b = length-append c.loop-i.values (c.in-Some.value ∷ []) in omega (arith, a, b, long_so_far));
      done = subst (λ (vs : List Term). AreDone c.args.a c.args.corank 0 c.args.count vs (c.number-low.result + 1)) (sym longer) (subst (λ (k : ℕ). AreDone c.args.a c.args.corank 0 c.args.count (c.loop-i.values ++ c.in-Some.value ∷ []) k) low more);
      text = ap (λ (vs : List Term). flat_map functional_text vs ++ c.in-Some.after.now) longer ∙ pushed_text functional_text c.loop-i.values c.in-Some.value c.loop-i.rest.now c.in-Some.after.now c.args.bytes.now i.text read.1;
    }

pub returns-clause-ok : goal.returns-clause-ok
returns-clause-ok c =
    let i = c.loop-i.invariant in
    (done_all c.args.a c.args.corank 0 c.args.count c.loop-i.values c.loop-i.low i.done (let a = i.long in let d = c.loop-i.auto.i-end in omega (arith, a, d, c.loop-i-test.false)), i.text)
