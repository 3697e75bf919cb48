use Rattle.std.proofs.Common.{◌≡◌, ◌∷◌, [], List, length, length-append, sym, ap, subst, ◌∙◌, arith}
use Rattle.ring_law.specs.declared.fraction.Frac.{Frac}
use Rattle.ext_algebra.specs.declared.algebra.Ext.{Ext}
use Rattle.jet_poly.specs.JetTerms.{JetTerms}
use Rattle.cert_text.specs.Text.{multipliers_text}
use Rattle.cert_text.specs.WellFormed.{AreJetsOf}
use Rattle.row_reader.specs.Words.{after_space}
use Rattle.row_reader.proofs.WordTexts.{nothing_left}
use Rattle.row_reader.proofs.RowTexts.{AreMultipliersTo, multipliers_start, multipliers_more, multiplier_missing, multiplier_refused, multipliers_over, multipliers_found}
use Rattle.row_reader.proofs.row.read_multipliers.Goals as goal

pub loop-i-init : goal.loop-i-init
loop-i-init c =
    let empty = c.new-jets.ensures.items in
    record {
      long = ap length empty;
      so_far = subst (λ (fs : List (JetTerms (Ext Frac))). AreMultipliersTo c.args.a c.args.corank c.args.order (after_space c.args.rest) fs (after_space c.args.rest)) (sym empty) (multipliers_start c.args.a c.args.corank c.args.order (after_space c.args.rest));
    }

pub returns-in_default-clause-none : goal.returns-in_default-clause-none
returns-in_default-clause-none c _ fs valid e =
    multiplier_missing c.args.a c.args.corank c.args.order c.loop-i.i (after_space c.args.rest) (after_space c.loop-i.left) c.loop-i.jets.items (omega (arith, c.ranges.order)) c.loop-i.invariant.so_far c.loop-i.invariant.long c.loop-i-test.true
    (c.take_multiplier.ensures.none c.in_default.is) fs valid e

pub returns-in_default-2-clause-none : goal.returns-in_default-2-clause-none
returns-in_default-2-clause-none c _ fs valid e =
    let word = c.in-Some.ensures.some in
    multiplier_refused c.args.a c.args.corank c.args.order c.loop-i.i (after_space c.args.rest) (after_space c.loop-i.left) c.loop-i.jets.items c.in-Some.word.now c.in-Some.behind (omega (arith, c.ranges.order)) c.loop-i.invariant.so_far c.loop-i.invariant.long c.loop-i-test.true
    word.0 word.1 (c.in_ok-jet.ensures.none c.in_default-2.is) fs valid e

pub loop-i-preserved : goal.loop-i-preserved
loop-i-preserved c =
    let word = c.in-Some.ensures.some in
    let jet = rw c.in-Some-2.is at c.in_ok-jet.ensures.some in
    let longer = c.in_ok-push.ensures.items in
    let more = multipliers_more c.args.a c.args.corank c.args.order c.loop-i.i (after_space c.args.rest) (after_space c.loop-i.left) c.loop-i.jets.items c.in-Some-2.jet c.in-Some.word.now c.in-Some.behind (omega (arith, c.ranges.order)) c.loop-i.invariant.so_far c.loop-i.invariant.long c.loop-i-test.true word.0 word.1 jet.0 jet.1 in
    record {
      long = (let a = ap length longer in let b = length-append c.loop-i.jets.items (c.in-Some-2.jet ∷ []) in let d = c.loop-i.invariant.long in omega (arith, a, b, d));
      so_far = subst (λ (fs : List (JetTerms (Ext Frac))). AreMultipliersTo c.args.a c.args.corank c.args.order (after_space c.args.rest) fs (after_space c.in-Some.behind)) (sym longer) more;
    }

pub returns-then-is_some-clause-none : goal.returns-then-is_some-clause-none
returns-then-is_some-clause-none c _ fs valid e =
    multipliers_over c.args.a c.args.corank c.args.order (after_space c.args.rest) c.loop-i.jets.items c.loop-i.left c.loop-i.invariant.so_far (let a = c.loop-i.invariant.long in let b = c.loop-i-test.false in let d = c.loop-i.auto.i-end in omega (arith, a, b, d))
    (sym c.is_some.ensures ∙ c.if-is_some.true) fs valid e

pub returns-clause-some : goal.returns-clause-some
returns-clause-some c =
    let found = multipliers_found c.args.a c.args.corank c.args.order (after_space c.args.rest) (after_space c.loop-i.left) c.loop-i.jets.items c.loop-i.invariant.so_far (let a = c.loop-i.invariant.long in let b = c.loop-i-test.false in let d = c.loop-i.auto.i-end in omega (arith, a, b, d))
    (nothing_left c.loop-i.left (sym c.is_some.ensures ∙ c.if-is_some.false)) in
    subst (λ (fs : List (JetTerms (Ext Frac))). AreJetsOf c.args.a c.args.corank c.args.order fs × (after_space c.args.rest ≡ multipliers_text fs)) (sym c.from_vec.ensures) found
