use Rattle.std.proofs.Common.{◌≤◌, sym, ap, subst, ◌∙◌}
use Rattle.ring_law.proofs.Exits.{fault_handed_on}
use Rattle.ring_law.specs.declared.fraction.Frac.{Frac}
use Rattle.ext_algebra.specs.declared.algebra.Ext.{Ext}
use Rattle.ext_algebra.specs.Algebra.{scalars, value_in, algebra_meaning}
use Rattle.poly_law.specs.Polynomials.{StartsAtIn}
use Rattle.jet_law.specs.Terms.{poly_of}
use Rattle.jet_poly.specs.JetTerms.{JetTerms}
use Rattle.jet_poly.specs.Jets.{IsJet}
use Rattle.determinacy.specs.Tests.{IsAnswer, IsTestHigh}
use Rattle.determinator.specs.Jets.{IsListed, residual_jet}
use Rattle.determinator.proofs.TestLemmas
use Rattle.determinator.proofs.testing.test.Goals as goal

pub mather-requires-clause-jet : goal.mather-requires-clause-jet
mather-requires-clause-jet c =
    let h = c.requires.placed in
    let part = c.in_ok-g.ensures.part ∙ ap (residual_jet c.args.corank) c.carried.ensures in
    let listed = subst IsListed c.carried.ensures c.in_ok-g.ensures.listed in
    subst (IsJet (algebra_meaning c.args.algebra)) (sym part) (TestLemmas.residual_is_jet h.n c.args.corank h.last h.germ c.args.algebra h.o h.moves c.args.chain.now h.is listed)

pub mather-requires-clause-at_most_8_variables : goal.mather-requires-clause-at_most_8_variables
mather-requires-clause-at_most_8_variables c =
    let h = c.requires.placed in
    let part = c.in_ok-g.ensures.part ∙ ap (residual_jet c.args.corank) c.carried.ensures in
    let listed = subst IsListed c.carried.ensures c.in_ok-g.ensures.listed in
    subst (λ (q : JetTerms (Ext Frac)). q.n ≤ 8) (sym part) (TestLemmas.few h.n c.args.corank h.last h.germ c.args.algebra h.o h.moves c.args.chain.now h.is listed)

pub mather-requires-clause-order_at_least_2 : goal.mather-requires-clause-order_at_least_2
mather-requires-clause-order_at_least_2 c =
    let h = c.requires.placed in
    let part = c.in_ok-g.ensures.part ∙ ap (residual_jet c.args.corank) c.carried.ensures in
    let listed = subst IsListed c.carried.ensures c.in_ok-g.ensures.listed in
    subst (λ k. 2 ≤ k) (sym (c.order.ensures ∙ ap (λ (q : JetTerms (Ext Frac)). q.order) part)) (TestLemmas.at_least_2 h.n c.args.corank h.last h.germ c.args.algebra h.o h.moves c.args.chain.now h.is listed)

pub mather-requires-clause-order_at_most_16 : goal.mather-requires-clause-order_at_most_16
mather-requires-clause-order_at_most_16 c =
    let h = c.requires.placed in
    let part = c.in_ok-g.ensures.part ∙ ap (residual_jet c.args.corank) c.carried.ensures in
    let listed = subst IsListed c.carried.ensures c.in_ok-g.ensures.listed in
    subst (λ k. k ≤ 16) (sym (c.order.ensures ∙ ap (λ (q : JetTerms (Ext Frac)). q.order) part)) (TestLemmas.at_most_16 h.n c.args.corank h.last h.germ c.args.algebra h.o h.moves c.args.chain.now h.is listed)

pub mather-requires-clause-low : goal.mather-requires-clause-low
mather-requires-clause-low c =
    let h = c.requires.placed in
    let part = c.in_ok-g.ensures.part ∙ ap (residual_jet c.args.corank) c.carried.ensures in
    let listed = subst IsListed c.carried.ensures c.in_ok-g.ensures.listed in
    subst (λ (q : JetTerms (Ext Frac)). StartsAtIn q.n (scalars c.args.algebra).ops 2 (poly_of q.n (value_in c.args.algebra) q.terms)) (sym part)
    (TestLemmas.residual_low h.n c.args.corank h.last h.germ c.args.algebra h.o h.moves c.args.chain.now h.is listed)

pub returns-in_err-answer-clause-range : goal.returns-in_err-answer-clause-range
returns-in_err-answer-clause-range c =
    let a = c.args.algebra in
    let g = c.in_ok-g.g in
    let part = c.in_ok-g.ensures.part ∙ ap (residual_jet c.args.corank) c.carried.ensures in
    let listed = subst IsListed c.carried.ensures c.in_ok-g.ensures.listed in
    fault_handed_on _ c.from_residual-in_err-answer.ensures.1
    (λ high n last o germ moves place. TestLemmas.test_high n c.args.corank last germ a o moves c.args.chain.now place listed
    (subst (λ (q : JetTerms (Ext Frac)). IsTestHigh q.n (scalars a) q.order (poly_of q.n (value_in a) q.terms)) part
    (subst (λ k. IsTestHigh g.n (scalars a) k (poly_of g.n (value_in a) g.terms)) c.order.ensures high)))
    c.in_err-answer.ensures.range

pub returns-clause-tested : goal.returns-clause-tested
returns-clause-tested c =
    let a = c.args.algebra in
    let g = c.in_ok-g.g in
    let part = c.in_ok-g.ensures.part ∙ ap (residual_jet c.args.corank) c.carried.ensures in
    record {
      listed = subst IsListed c.carried.ensures c.in_ok-g.ensures.listed;
      answers = subst (λ (q : JetTerms (Ext Frac)). IsAnswer (algebra_meaning a) q q.order c.in_ok-answer.answer) part
          (subst (λ k. IsAnswer (algebra_meaning a) g k c.in_ok-answer.answer) c.order.ensures c.in_ok-answer.ensures.answer);
    }
