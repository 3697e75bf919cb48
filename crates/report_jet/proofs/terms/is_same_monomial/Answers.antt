use Rattle.std.proofs.Common.{◌<◌, refl, true≢false, sym, ap, ◌∙◌, arith}
use Rattle.poly_law.specs.Exps.{same}
use Rattle.poly_law.specs.ExpList.{exps}
use Rattle.poly_law.proofs.ExpLists.{exps_are}
use Rattle.poly_law.proofs.ExpLaws
use Rattle.jet_law.specs.Terms.{exp_of}
use Rattle.report_jet.proofs.SameTerms.{exp_of-same, exp_of-places}
use Rattle.report_jet.proofs.terms.is_same_monomial.Goals as goal

pub returns-then-a-i-clause-equal : goal.returns-then-a-i-clause-equal
returns-then-a-i-clause-equal c =
    (λ e. absurd (true≢false (sym e)), λ q. absurd (c.if-a-i.true (exp_of-places c.args.n c.args.a c.args.b q c.loop-i.i (let e = c.from-i-end.ensures in let t = c.loop-i-test.true in omega arith))))

pub returns-then-a-i-clause-same : goal.returns-then-a-i-clause-same
returns-then-a-i-clause-same c =
    let within : c.loop-i.i < c.args.n = (let e = c.from-i-end.ensures in let t = c.loop-i-test.true in omega arith) in
    sym (ExpLaws.same-no (exps c.args.n) (exps_are c.args.n) (exp_of c.args.n c.args.a) (exp_of c.args.n c.args.b) (λ q. c.if-a-i.true (exp_of-places c.args.n c.args.a c.args.b q c.loop-i.i within)))

pub returns-clause-equal : goal.returns-clause-equal
returns-clause-equal c = (λ _. exp_of-same c.args.n c.args.a c.args.b (λ i h. c.loop-i.invariant i (let e = c.from-i-end.ensures in let t = c.loop-i-test.false in omega arith)), λ _. refl)

pub returns-clause-same : goal.returns-clause-same
returns-clause-same c =
    let n = c.args.n in
    let a = exp_of n c.args.a in
    let equal = exp_of-same n c.args.a c.args.b (λ i h. c.loop-i.invariant i (let e = c.from-i-end.ensures in let t = c.loop-i-test.false in omega arith)) in
    sym (ap (same (exps n) a) (sym equal) ∙ ExpLaws.same_refl (exps n) (exps_are n) a)
