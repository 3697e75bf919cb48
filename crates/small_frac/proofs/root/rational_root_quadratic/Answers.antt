use Rattle.std.proofs.Common.{◌≡◌, pos, ◌≤ℤ◌, sym, ◌∙◌, ap, ap₂, subst}
use Rattle.ring_theory.specs.Rational.{Rational}
use Rattle.ring_law.specs.Fraction.{frac_value}
use Rattle.ring_law.specs.declared.fraction.Frac.{Frac}
use Rattle.ring_law.proofs.Exits.{handed_on}
use Rattle.ring_law.proofs.FractionLaws.{value_num}
use Rattle.ext_theory.specs.Extension.{Quadratic}
use Rattle.small_frac.specs.Exact.{IsSquareRoot}
use Rattle.small_frac.specs.Roots.{quadratic_of, QuadraticRefuses, AreRoots, IsDiscriminantRoot, discriminant, half_sum, low_high, high_high, in_discriminant, in_low, in_high}
use Rattle.small_frac.proofs.QuadraticRoots.{are_roots, no_roots}
use Rattle.small_frac.proofs.Refusals.{said_on}
use Rattle.small_frac.proofs.root.rational_root_quadratic.Goals as goal

root_of : (m1 m0 root square : Frac) → IsSquareRoot root square → frac_value square ≡ discriminant (quadratic_of m1 m0) → IsDiscriminantRoot (quadratic_of m1 m0) (frac_value root)
root_of m1 m0 root square h e = record { not_negative = subst (λ z. pos 0 ≤ℤ z) (sym (value_num root h.valid)) h.not_negative; square = h.square ∙ e }

same_roots : (m : Quadratic Rational) (x y low high : Rational) → x ≡ low → y ≡ high → AreRoots m low high → AreRoots m x y
same_roots m x y low high ex ey h = subst (λ u. AreRoots m u y) (sym ex) (subst (λ v. AreRoots m low v) (sym ey) h)

pub returns-in_default-clause-roots : goal.returns-in_default-clause-roots
returns-in_default-clause-roots c = no_roots (quadratic_of c.args.m1 c.args.m0) (λ r e. c.in_default.ensures r (e ∙ sym c.in_ok-square.ensures.value))

pub returns-in_err-low-clause-cause : goal.returns-in_err-low-clause-cause
returns-in_err-low-clause-cause c =
    let r = root_of c.args.m1 c.args.m0 _ _ c.in-Some.ensures c.in_ok-square.ensures.value in
    handed_on _ c.from_residual-in_err-low.ensures.1 (λ high. low_high _ r (rw (c.neg-sum.ensures.value, c.neg-opposite.ensures.value) at high)) c.in_err-low.ensures.cause

pub returns-in_err-high-clause-cause : goal.returns-in_err-high-clause-cause
returns-in_err-high-clause-cause c =
    let r = root_of c.args.m1 c.args.m0 _ _ c.in-Some.ensures c.in_ok-square.ensures.value in
    handed_on _ c.from_residual-in_err-high.ensures.1 (λ high. high_high _ r (rw c.neg-sum.ensures.value at high)) c.in_err-high.ensures.cause

pub returns-in_err-square-clause-refused : goal.returns-in_err-square-clause-refused
returns-in_err-square-clause-refused c = said_on (QuadraticRefuses (quadratic_of c.args.m1 c.args.m0)) _ c.from_residual.ensures.1 (in_discriminant c.in_err-square.ensures.refused)

pub returns-in_err-low-clause-refused : goal.returns-in_err-low-clause-refused
returns-in_err-low-clause-refused c =
    let r = root_of c.args.m1 c.args.m0 _ _ c.in-Some.ensures c.in_ok-square.ensures.value in
    said_on (QuadraticRefuses (quadratic_of c.args.m1 c.args.m0)) _ c.from_residual-in_err-low.ensures.1 (in_low _ r (rw (c.neg-sum.ensures.value, c.neg-opposite.ensures.value) at c.in_err-low.ensures.refused))

pub returns-in_err-high-clause-refused : goal.returns-in_err-high-clause-refused
returns-in_err-high-clause-refused c =
    let r = root_of c.args.m1 c.args.m0 _ _ c.in-Some.ensures c.in_ok-square.ensures.value in
    said_on (QuadraticRefuses (quadratic_of c.args.m1 c.args.m0)) _ c.from_residual-in_err-high.ensures.1 (in_high _ r (rw c.neg-sum.ensures.value at c.in_err-high.ensures.refused))

pub returns-clause-roots : goal.returns-clause-roots
returns-clause-roots c =
    let m = quadratic_of c.args.m1 c.args.m0 in
    let r = root_of c.args.m1 c.args.m0 _ _ c.in-Some.ensures c.in_ok-square.ensures.value in
    let low = c.in_ok-low.ensures.value ∙ ap₂ half_sum c.neg-sum.ensures.value c.neg-opposite.ensures.value in
    let high = c.in_ok-high.ensures.value ∙ ap (λ x. half_sum x (frac_value c.in-Some.root)) c.neg-sum.ensures.value in
    record {
      low_valid = c.in_ok-low.ensures.elem;
      high_valid = c.in_ok-high.ensures.elem;
      roots = same_roots m _ _ _ _ low high (are_roots m _ r);
    }
