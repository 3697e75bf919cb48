use Rattle.std.proofs.Common.{◌+◌, ◌≤◌, length, take, take_all, ap, sym, subst, ◌∙◌, refl, arith}
use Rattle.ring_theory.specs.Rational.{rational_ops}
use Rattle.line_jet_law.specs.LineJets.{IsRationalJet, rational_polynomial}
use Rattle.line_jet_law.proofs.TermByTerm.{AreTermsBy, more_terms, rising_terms, changed_is_jet, changed-value, negated_zero}
use Rattle.line_jet.proofs.simple.opposite.Goals as goal

pub loop-t-preserved : goal.loop-t-preserved
loop-t-preserved c =
    let same = c.terms-t-items.ensures.terms in
    let before = subst (λ l. AreTermsBy rational_ops.neg (take c.loop-t.t-index l) c.loop-t.terms.items) (sym same) c.loop-t.invariant in
    let more =
    more_terms rational_ops.neg c.terms-t-items.result.now c.loop-t.terms.items c.loop-t.t-index _ _ (omega arith)
    (record { monomial = refl; coefficient = record { valid = c.neg.ensures.elem; value_is = c.neg.ensures.value } }) before in
    subst (λ l. AreTermsBy rational_ops.neg (take (c.loop-t.t-index + 1) l) c.push.new.self.items) same (rw c.in_ok-push.ensures.items more)

pub from_rising-requires : goal.from_rising-requires
from_rising-requires c =
    let long : length c.args.f.now.terms ≤ c.loop-t.t-index = subst (λ l. length l ≤ c.loop-t.t-index) c.terms-t-items.ensures.terms c.loop-t-test.false in
    let all : AreTermsBy rational_ops.neg c.args.f.now.terms c.loop-t.terms.items = subst (λ l. AreTermsBy rational_ops.neg l c.loop-t.terms.items) (take_all c.loop-t.t-index c.args.f.now.terms long) c.loop-t.invariant in
    record { rising = rising_terms rational_ops.neg c.args.f.now.terms c.loop-t.terms.items all c.requires.rising }

pub returns-clause-elem : goal.returns-clause-elem
returns-clause-elem c =
    let long : length c.args.f.now.terms ≤ c.loop-t.t-index = subst (λ l. length l ≤ c.loop-t.t-index) c.terms-t-items.ensures.terms c.loop-t-test.false in
    let all : AreTermsBy rational_ops.neg c.args.f.now.terms c.loop-t.terms.items = subst (λ l. AreTermsBy rational_ops.neg l c.loop-t.terms.items) (take_all c.loop-t.t-index c.args.f.now.terms long) c.loop-t.invariant in
    subst (IsRationalJet c.args.n c.args.k) (sym c.from_rising.ensures) (changed_is_jet rational_ops.neg c.args.n c.args.k c.args.f.now c.loop-t.terms.items negated_zero c.requires all)

pub returns-clause-value : goal.returns-clause-value
returns-clause-value c =
    let long : length c.args.f.now.terms ≤ c.loop-t.t-index = subst (λ l. length l ≤ c.loop-t.t-index) c.terms-t-items.ensures.terms c.loop-t-test.false in
    let all : AreTermsBy rational_ops.neg c.args.f.now.terms c.loop-t.terms.items = subst (λ l. AreTermsBy rational_ops.neg l c.loop-t.terms.items) (take_all c.loop-t.t-index c.args.f.now.terms long) c.loop-t.invariant in
    ap (rational_polynomial c.args.n) c.from_rising.ensures ∙ changed-value rational_ops.neg c.args.n c.args.k c.args.f.now c.loop-t.terms.items negated_zero c.requires all
