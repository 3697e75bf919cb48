use Rattle.std.proofs.Common.{◌≡◌, List, map, sym, ap, subst, ◌∙◌}
use Rattle.ring_theory.specs.Height.{rational_scalars}
use Rattle.ring_theory.specs.Rational.{Rational}
use Rattle.ring_law.specs.Fraction.{frac_value}
use Rattle.ring_law.proofs.Exits.{handed_on}
use Rattle.ext_algebra.specs.declared.algebra.Algebra.TheVariants as algebra
use Rattle.ext_algebra.specs.Algebra.{value_in}
use Rattle.jet_law.specs.Heights.{IsHigh}
use Rattle.normal_forms.specs.declared.kind.Kind.{Kind}
use Rattle.normal_forms.specs.declared.kind.Kind.TheVariants as kinds
use Rattle.normal_forms.specs.declared.modulus_line.ModulusLine.TheVariants as moduli
use Rattle.normal_forms.specs.Families.{kind_of}
use Rattle.normal_forms.specs.Units.{quartic_discriminant, triple_discriminant, modulus_heights, AreRational, IsNondegenerate, IsModulus}
use Rattle.normal_forms.proofs.JLines.{quartic_line, triple_line, quartic_family, triple_family, five_values, three_values, quartic_is, triple_is}
use Rattle.normal_forms.proofs.j_invariant.modulus.Goals as goal

pub j_of_quartic-requires-clause-nonzero : goal.j_of_quartic-requires-clause-nonzero
j_of_quartic-requires-clause-nonzero c e =
    let kind : kind_of c.args.family ≡ kinds.QuarticForm = sym c.family_kind.ensures ∙ c.in-QuarticForm.is in
    let nonzero = subst (λ (k : Kind). IsNondegenerate k (map (value_in algebra.Rational) c.args.coefs.now)) kind c.requires.nondegenerate in
    nonzero (ap (quartic_discriminant rational_scalars) (sym (five_values c.args.coefs.now _ (c.requires.coefficients ∙ quartic_family c.args.family kind))) ∙ e)

pub returns-in_err-j_of_quartic-in-QuarticForm-clause-range : goal.returns-in_err-j_of_quartic-in-QuarticForm-clause-range
returns-in_err-j_of_quartic-in-QuarticForm-clause-range c =
    let kind : kind_of c.args.family ≡ kinds.QuarticForm = sym c.family_kind.ensures ∙ c.in-QuarticForm.is in
    handed_on _ c.from_residual.ensures.1
    (λ high. subst (λ (k : Kind). IsHigh (modulus_heights k (map (value_in algebra.Rational) c.args.coefs.now))) (sym kind)
    (subst (λ (qs : List Rational). IsHigh (modulus_heights kinds.QuarticForm qs)) (five_values c.args.coefs.now _ (c.requires.coefficients ∙ quartic_family c.args.family kind)) high))
    c.in_err-j_of_quartic-in-QuarticForm.ensures.range

pub j_of_triple-requires-clause-nonzero : goal.j_of_triple-requires-clause-nonzero
j_of_triple-requires-clause-nonzero c e =
    let kind : kind_of c.args.family ≡ kinds.Triple = sym c.family_kind.ensures ∙ c.in-Triple.is in
    let nonzero = subst (λ (k : Kind). IsNondegenerate k (map (value_in algebra.Rational) c.args.coefs.now)) kind c.requires.nondegenerate in
    nonzero (ap (triple_discriminant rational_scalars) (sym (three_values c.args.coefs.now _ (c.requires.coefficients ∙ triple_family c.args.family kind))) ∙ e)

pub returns-in_err-j-in-Triple-clause-range : goal.returns-in_err-j-in-Triple-clause-range
returns-in_err-j-in-Triple-clause-range c =
    let kind : kind_of c.args.family ≡ kinds.Triple = sym c.family_kind.ensures ∙ c.in-Triple.is in
    handed_on _ c.from_residual-in_err-j-in-Triple.ensures.1
    (λ high. subst (λ (k : Kind). IsHigh (modulus_heights k (map (value_in algebra.Rational) c.args.coefs.now))) (sym kind)
    (subst (λ (qs : List Rational). IsHigh (modulus_heights kinds.Triple qs)) (three_values c.args.coefs.now _ (c.requires.coefficients ∙ triple_family c.args.family kind)) high))
    c.in_err-j-in-Triple.ensures.range

pub returns-in_ok-j_of_quartic-in-QuarticForm-clause-modulus : goal.returns-in_ok-j_of_quartic-in-QuarticForm-clause-modulus
returns-in_ok-j_of_quartic-in-QuarticForm-clause-modulus c a =
    let kind : kind_of c.args.family ≡ kinds.QuarticForm = sym c.family_kind.ensures ∙ c.in-QuarticForm.is in
    let j = c.in_ok-j_of_quartic-in-QuarticForm.field-0 in
    subst (λ (k : Kind). IsModulus a k (map (value_in a) c.args.coefs.now) (moduli.J j)) (sym kind)
    (quartic_line a c.args.coefs.now (subst (λ (k : Kind). AreRational k c.args.coefs.now) kind c.requires.rational) j
    (quartic_is (frac_value j) (five_values c.args.coefs.now _ (c.requires.coefficients ∙ quartic_family c.args.family kind)) c.in_ok-j_of_quartic-in-QuarticForm.ensures.value)
    (subst (λ (k : Kind). IsNondegenerate k (map (value_in algebra.Rational) c.args.coefs.now)) kind c.requires.nondegenerate))

pub returns-in_ok-j-in-Triple-clause-modulus : goal.returns-in_ok-j-in-Triple-clause-modulus
returns-in_ok-j-in-Triple-clause-modulus c a =
    let kind : kind_of c.args.family ≡ kinds.Triple = sym c.family_kind.ensures ∙ c.in-Triple.is in
    let j = c.in_ok-j-in-Triple.j in
    subst (λ (k : Kind). IsModulus a k (map (value_in a) c.args.coefs.now) (moduli.J j)) (sym kind)
    (triple_line a c.args.coefs.now (subst (λ (k : Kind). AreRational k c.args.coefs.now) kind c.requires.rational) j
    (triple_is (frac_value j) (three_values c.args.coefs.now _ (c.requires.coefficients ∙ triple_family c.args.family kind)) c.in_ok-j-in-Triple.ensures.value)
    (subst (λ (k : Kind). IsNondegenerate k (map (value_in algebra.Rational) c.args.coefs.now)) kind c.requires.nondegenerate))
