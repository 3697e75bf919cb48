use Rattle.std.proofs.Common.{◌+◌, ◌≤◌, length, take, take_all, ap, sym, subst, ◌∙◌, refl, arith}
use Rattle.ring_theory.specs.Rational.{rational_ops, rational_inv}
use Rattle.ring_theory.specs.Height.{rational_scalars}
use Rattle.ring_theory.proofs.RationalLaws.{rational_laws, rational-mul_inv}
use Rattle.ring_law.specs.Fraction.{frac_value}
use Rattle.ring_law.proofs.Exits.{faulted}
use Rattle.poly_law.specs.ExpList.{exps}
use Rattle.jet_law.specs.Terms.{poly_of}
use Rattle.jet_law.specs.Heights.{IsHigh, scale_heights}
use Rattle.line_jet_law.proofs.Multiples.{scale_high}
use Rattle.line_jet_law.specs.LineJets.{IsRationalJet, rational_polynomial}
use Rattle.line_jet_law.proofs.TermByTerm.{AreTermsBy, more_terms, rising_terms, changed_is_jet, changed-value, multiple_zero}
use Rattle.line_jet.proofs.simple.multiple.Goals as goal

pub loop-t-preserved : goal.loop-t-preserved
loop-t-preserved c =
    let same = c.terms-t-items.ensures.terms in
    let before = subst (λ l. AreTermsBy (rational_ops.mul (frac_value c.args.q)) (take c.loop-t.t-index l) c.loop-t.terms.items) (sym same) c.loop-t.invariant in
    let more =
    more_terms (rational_ops.mul (frac_value c.args.q)) c.terms-t-items.result.now c.loop-t.terms.items c.loop-t.t-index _ _ (omega arith)
    (record { monomial = refl; coefficient = record { valid = c.in_ok-c.ensures.elem; value_is = c.in_ok-c.ensures.value } }) before in
    subst (λ l. AreTermsBy (rational_ops.mul (frac_value c.args.q)) (take (c.loop-t.t-index + 1) l) c.push.new.self.items) same (rw c.in_ok-push.ensures.items more)

pub from_rising-requires : goal.from_rising-requires
from_rising-requires c =
    let long : length c.args.f.now.terms ≤ c.loop-t.t-index = subst (λ l. length l ≤ c.loop-t.t-index) c.terms-t-items.ensures.terms c.loop-t-test.false in
    let all : AreTermsBy (rational_ops.mul (frac_value c.args.q)) c.args.f.now.terms c.loop-t.terms.items = subst (λ l. AreTermsBy (rational_ops.mul (frac_value c.args.q)) l c.loop-t.terms.items) (take_all c.loop-t.t-index c.args.f.now.terms long) c.loop-t.invariant in
    record { rising = rising_terms (rational_ops.mul (frac_value c.args.q)) c.args.f.now.terms c.loop-t.terms.items all c.requires.jet.rising }

pub returns-clause-elem : goal.returns-clause-elem
returns-clause-elem c =
    let long : length c.args.f.now.terms ≤ c.loop-t.t-index = subst (λ l. length l ≤ c.loop-t.t-index) c.terms-t-items.ensures.terms c.loop-t-test.false in
    let all : AreTermsBy (rational_ops.mul (frac_value c.args.q)) c.args.f.now.terms c.loop-t.terms.items = subst (λ l. AreTermsBy (rational_ops.mul (frac_value c.args.q)) l c.loop-t.terms.items) (take_all c.loop-t.t-index c.args.f.now.terms long) c.loop-t.invariant in
    subst (IsRationalJet c.args.n c.args.k) (sym c.from_rising.ensures) (changed_is_jet (rational_ops.mul (frac_value c.args.q)) c.args.n c.args.k c.args.f.now c.loop-t.terms.items (λ x. multiple_zero (frac_value c.args.q) (rational_inv (frac_value c.args.q)) x (rational_laws.mul_comm (rational_inv (frac_value c.args.q)) (frac_value c.args.q) ∙ rational-mul_inv (frac_value c.args.q) c.requires.nonzero)) c.requires.jet all)

pub returns-clause-value : goal.returns-clause-value
returns-clause-value c =
    let long : length c.args.f.now.terms ≤ c.loop-t.t-index = subst (λ l. length l ≤ c.loop-t.t-index) c.terms-t-items.ensures.terms c.loop-t-test.false in
    let all : AreTermsBy (rational_ops.mul (frac_value c.args.q)) c.args.f.now.terms c.loop-t.terms.items = subst (λ l. AreTermsBy (rational_ops.mul (frac_value c.args.q)) l c.loop-t.terms.items) (take_all c.loop-t.t-index c.args.f.now.terms long) c.loop-t.invariant in
    ap (rational_polynomial c.args.n) c.from_rising.ensures ∙ changed-value (rational_ops.mul (frac_value c.args.q)) c.args.n c.args.k c.args.f.now c.loop-t.terms.items (λ x. multiple_zero (frac_value c.args.q) (rational_inv (frac_value c.args.q)) x (rational_laws.mul_comm (rational_inv (frac_value c.args.q)) (frac_value c.args.q) ∙ rational-mul_inv (frac_value c.args.q) c.requires.nonzero)) c.requires.jet all

pub returns-in_err-c-clause-cause : goal.returns-in_err-c-clause-cause
returns-in_err-c-clause-cause c =
    let same = c.terms-t-items.ensures.terms in
    faulted c.from_residual.result c.from_residual.ensures.1
    (λ h. subst (λ l. IsHigh (scale_heights (exps c.args.n) rational_scalars (frac_value c.args.q) (poly_of c.args.n frac_value l))) same
    (scale_high c.args.n c.terms-t-items.result.now c.args.q c.loop-t.t-index _ (omega arith) h)) c.in_err-c.ensures.cause
