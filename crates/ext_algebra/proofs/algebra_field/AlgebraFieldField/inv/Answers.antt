use Rattle.std.proofs.Common.{◌≡◌, ◌≢◌, ◌≤◌, ◌^◌, sym, subst, ◌∙◌, IfOk, MatchOption}
use Rattle.std.specs.Prelude.{IfSome}
use Rattle.ring_theory.specs.Height.{rational_scalars}
use Rattle.ring_theory.specs.Rational.{rational_ops}
use Rattle.ring_law.specs.Fraction.{frac_value}
use Rattle.ring_law.specs.Refusals.{OnRange}
use Rattle.ring_law.proofs.Exits.{handed_on}
use Rattle.ext_algebra.specs.declared.algebra.Algebra.{Algebra}
use Rattle.ext_algebra.specs.Algebra.{scalars, value_in, IsIrreducible}
use Rattle.ext_algebra.proofs.AlgebraCases.{pair_of_element, pair_inverse, triple_of_element, triple_inverse, six_inverse}
use Rattle.ext_algebra.proofs.algebra_field.AlgebraFieldField.inv.Goals as goal

pub returns-in_err-inverse-in-Rational-clause-cause : goal.returns-in_err-inverse-in-Rational-clause-cause
unfolding scalars value_in
returns-in_err-inverse-in-Rational-clause-cause c =
    handed_on _ c.from_residual.ensures.1 (λ h. subst (λ (al : Algebra). 2 ^ 120 ≤ (scalars al).inverse_height (value_in al c.args.a)) (sym c.in-Rational.is) h) c.in_err-inverse-in-Rational.ensures.cause

pub returns-in-Some-clause-zero : goal.returns-in-Some-clause-zero
unfolding scalars value_in
returns-in-Some-clause-zero c =
    subst (λ (al : Algebra). value_in al c.args.a ≢ (scalars al).ops.zero) (sym c.in-Rational.is)
    (subst (λ o. MatchOption o (frac_value c.args.a.c0 ≡ rational_ops.zero) (λ x. frac_value c.args.a.c0 ≢ rational_ops.zero)) c.in-Some.is c.in_ok-inverse-in-Rational.ensures.zero)

pub returns-in-Some-clause-value : goal.returns-in-Some-clause-value
unfolding scalars value_in
returns-in-Some-clause-value c =
    c.inject.ensures.value
    ∙ subst (λ (al : Algebra). (scalars al).rational (frac_value c.in-Some.inverse) ≡ (scalars al).inverse (value_in al c.args.a)) (sym c.in-Rational.is)
    (subst (λ o. IfSome o (λ x. frac_value x ≡ rational_scalars.inverse (frac_value c.args.a.c0))) c.in-Some.is c.in_ok-inverse-in-Rational.ensures.value)

pub returns-in-None-clause-zero : goal.returns-in-None-clause-zero
unfolding scalars value_in
returns-in-None-clause-zero c =
    subst (λ (al : Algebra). value_in al c.args.a ≡ (scalars al).ops.zero) (sym c.in-Rational.is)
    (subst (λ o. MatchOption o (frac_value c.args.a.c0 ≡ rational_ops.zero) (λ x. frac_value c.args.a.c0 ≢ rational_ops.zero)) c.in-None.is c.in_ok-inverse-in-Rational.ensures.zero)

pub inv-requires-in-Quadratic-clause-elem : goal.inv-requires-in-Quadratic-clause-elem
inv-requires-in-Quadratic-clause-elem c = pair_of_element c.args.self.now.algebra c.in-Quadratic.m1 c.in-Quadratic.m0 c.in-Quadratic.is c.args.a c.requires.elem

pub inv-requires-in-Cubic-clause-elem : goal.inv-requires-in-Cubic-clause-elem
inv-requires-in-Cubic-clause-elem c = triple_of_element c.args.self.now.algebra c.in-Cubic.m2 c.in-Cubic.m1 c.in-Cubic.m0 c.in-Cubic.is c.args.a c.requires.elem

pub tower_inv-requires-clause-no_root : goal.tower_inv-requires-clause-no_root
tower_inv-requires-clause-no_root c = (subst IsIrreducible c.in-Tower.is c.requires.ring.irreducible).0

pub tower_inv-requires-clause-no_square : goal.tower_inv-requires-clause-no_square
tower_inv-requires-clause-no_square c = (subst IsIrreducible c.in-Tower.is c.requires.ring.irreducible).1

pub returns-in-Quadratic-clause-zero : goal.returns-in-Quadratic-clause-zero
unfolding scalars value_in
returns-in-Quadratic-clause-zero c =
    subst (λ (al : Algebra). IfOk c.inv-in-Quadratic.result (λ o. MatchOption o (value_in al c.args.a ≡ (scalars al).ops.zero) (λ x. value_in al c.args.a ≢ (scalars al).ops.zero))) (sym c.in-Quadratic.is) c.inv-in-Quadratic.ensures.zero

pub returns-in-Quadratic-clause-elem : goal.returns-in-Quadratic-clause-elem
returns-in-Quadratic-clause-elem c = pair_inverse c.args.self.now.algebra c.in-Quadratic.m1 c.in-Quadratic.m0 c.in-Quadratic.is _ c.inv-in-Quadratic.ensures.elem

pub returns-in-Quadratic-clause-value : goal.returns-in-Quadratic-clause-value
unfolding scalars value_in
returns-in-Quadratic-clause-value c =
    subst (λ (al : Algebra). IfOk c.inv-in-Quadratic.result (λ o. IfSome o (λ x. value_in al x ≡ (scalars al).inverse (value_in al c.args.a)))) (sym c.in-Quadratic.is) c.inv-in-Quadratic.ensures.value

pub returns-in-Quadratic-clause-cause : goal.returns-in-Quadratic-clause-cause
unfolding scalars value_in
returns-in-Quadratic-clause-cause c =
    subst (λ (al : Algebra). OnRange c.inv-in-Quadratic.result (2 ^ 120 ≤ (scalars al).inverse_height (value_in al c.args.a))) (sym c.in-Quadratic.is) c.inv-in-Quadratic.ensures.cause

pub returns-in-Cubic-clause-zero : goal.returns-in-Cubic-clause-zero
unfolding scalars value_in
returns-in-Cubic-clause-zero c =
    subst (λ (al : Algebra). IfOk c.inv-in-Cubic.result (λ o. MatchOption o (value_in al c.args.a ≡ (scalars al).ops.zero) (λ x. value_in al c.args.a ≢ (scalars al).ops.zero))) (sym c.in-Cubic.is) c.inv-in-Cubic.ensures.zero

pub returns-in-Cubic-clause-elem : goal.returns-in-Cubic-clause-elem
returns-in-Cubic-clause-elem c = triple_inverse c.args.self.now.algebra c.in-Cubic.m2 c.in-Cubic.m1 c.in-Cubic.m0 c.in-Cubic.is _ c.inv-in-Cubic.ensures.elem

pub returns-in-Cubic-clause-value : goal.returns-in-Cubic-clause-value
unfolding scalars value_in
returns-in-Cubic-clause-value c =
    subst (λ (al : Algebra). IfOk c.inv-in-Cubic.result (λ o. IfSome o (λ x. value_in al x ≡ (scalars al).inverse (value_in al c.args.a)))) (sym c.in-Cubic.is) c.inv-in-Cubic.ensures.value

pub returns-in-Cubic-clause-cause : goal.returns-in-Cubic-clause-cause
unfolding scalars value_in
returns-in-Cubic-clause-cause c =
    subst (λ (al : Algebra). OnRange c.inv-in-Cubic.result (2 ^ 120 ≤ (scalars al).inverse_height (value_in al c.args.a))) (sym c.in-Cubic.is) c.inv-in-Cubic.ensures.cause

pub returns-in-Tower-clause-zero : goal.returns-in-Tower-clause-zero
unfolding scalars value_in
returns-in-Tower-clause-zero c =
    subst (λ (al : Algebra). IfOk c.tower_inv.result (λ o. MatchOption o (value_in al c.args.a ≡ (scalars al).ops.zero) (λ x. value_in al c.args.a ≢ (scalars al).ops.zero))) (sym c.in-Tower.is) c.tower_inv.ensures.zero

pub returns-in-Tower-clause-elem : goal.returns-in-Tower-clause-elem
returns-in-Tower-clause-elem c = six_inverse c.args.self.now.algebra c.in-Tower.m2 c.in-Tower.m1 c.in-Tower.m0 c.in-Tower.d c.in-Tower.is _ c.tower_inv.ensures.elem

pub returns-in-Tower-clause-value : goal.returns-in-Tower-clause-value
unfolding scalars value_in
returns-in-Tower-clause-value c =
    subst (λ (al : Algebra). IfOk c.tower_inv.result (λ o. IfSome o (λ x. value_in al x ≡ (scalars al).inverse (value_in al c.args.a)))) (sym c.in-Tower.is) c.tower_inv.ensures.value

pub returns-in-Tower-clause-cause : goal.returns-in-Tower-clause-cause
unfolding scalars value_in
returns-in-Tower-clause-cause c =
    subst (λ (al : Algebra). OnRange c.tower_inv.result (2 ^ 120 ≤ (scalars al).inverse_height (value_in al c.args.a))) (sym c.in-Tower.is) c.tower_inv.ensures.cause
