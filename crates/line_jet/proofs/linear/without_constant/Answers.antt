use Rattle.std.proofs.Common.{◌≡◌, ◌+◌, ◌≤◌, length, take, take_all, ap, sym, subst, ◌∙◌, arith}
use Rattle.line_jet_law.specs.LineJets.{IsRationalJet, rational_polynomial, positive_terms}
use Rattle.line_jet_law.proofs.OneTerm.{with_terms}
use Rattle.line_jet.proofs.Kept.{next_kept}
use Rattle.line_jet_law.proofs.LinearTerms.{rising_kept, kept_is_jet, kept-value}
use Rattle.jet_poly.specs.JetTerms.{IsRising}
use Rattle.line_jet.proofs.linear.without_constant.Goals as goal

pub loop-t-preserved : goal.loop-t-preserved
loop-t-preserved c =
    let same = c.terms-t-items.ensures.terms in
    let before = c.loop-t.invariant ∙ ap (λ l. positive_terms (take c.loop-t.t-index l)) (sym same) in
    next_kept c.terms-t-items.result.now c.loop-t.t-index _ c.loop-t.terms.items _ (omega arith) before c.in_ok-push_positive.ensures
    ∙ ap (λ l. positive_terms (take (c.loop-t.t-index + 1) l)) same

pub from_rising-requires : goal.from_rising-requires
from_rising-requires c =
    let long : length c.args.f.now.terms ≤ c.loop-t.t-index = subst (λ l. length l ≤ c.loop-t.t-index) c.terms-t-items.ensures.terms c.loop-t-test.false in
    let all : c.loop-t.terms.items ≡ positive_terms c.args.f.now.terms = c.loop-t.invariant ∙ ap positive_terms (take_all c.loop-t.t-index c.args.f.now.terms long) in
    record { rising = subst IsRising (sym all) (rising_kept c.args.f.now.terms c.requires.rising) }

pub returns-clause-elem : goal.returns-clause-elem
returns-clause-elem c =
    let long : length c.args.f.now.terms ≤ c.loop-t.t-index = subst (λ l. length l ≤ c.loop-t.t-index) c.terms-t-items.ensures.terms c.loop-t-test.false in
    let all : c.loop-t.terms.items ≡ positive_terms c.args.f.now.terms = c.loop-t.invariant ∙ ap positive_terms (take_all c.loop-t.t-index c.args.f.now.terms long) in
    subst (IsRationalJet c.args.n c.args.k) (sym (c.from_rising.ensures ∙ ap (with_terms c.args.n c.args.k) all)) (kept_is_jet c.args.n c.args.k c.args.f.now c.requires)

pub returns-clause-value : goal.returns-clause-value
returns-clause-value c =
    let long : length c.args.f.now.terms ≤ c.loop-t.t-index = subst (λ l. length l ≤ c.loop-t.t-index) c.terms-t-items.ensures.terms c.loop-t-test.false in
    let all : c.loop-t.terms.items ≡ positive_terms c.args.f.now.terms = c.loop-t.invariant ∙ ap positive_terms (take_all c.loop-t.t-index c.args.f.now.terms long) in
    ap (rational_polynomial c.args.n) (c.from_rising.ensures ∙ ap (with_terms c.args.n c.args.k) all) ∙ kept-value c.args.n c.args.k c.args.f.now c.requires
