-- The modulus line of a form that is read, over the rational numbers or over an extension.
use Rattle.std.proofs.Common.{◌≡◌, ◌≢◌, true, not, List, [], ◌∷◌, map, length, refl, sym, ap, subst, ◌∙◌, arith, true≢false}
use Rattle.std.specs.List.{All, list_all}
use Rattle.std.proofs.lemmas.List.Folds.{list_all-append}
use Rattle.line_syntax.proofs.Bools.{and_left, and_right}
use Rattle.ring_theory.specs.Rational.{Rational}
use Rattle.ring_theory.specs.Height.{rational_scalars, most}
use Rattle.ring_theory.proofs.RationalLaws.{rational_scalar_laws}
use Rattle.ring_law.specs.declared.fraction.Frac.{Frac}
use Rattle.ext_algebra.specs.declared.algebra.Algebra.{Algebra}
use Rattle.ext_algebra.specs.declared.algebra.Algebra.TheVariants as algebras
use Rattle.ext_algebra.specs.declared.algebra.Ext.{Ext}
use Rattle.ext_algebra.specs.Algebra.{Value, IsElement, scalars, value_in, algebra_meaning}
use Rattle.ext_algebra.proofs.ElementTests.{is_element-IsElement, is_frac-IsFrac}
use Rattle.jet_law.specs.Heights.{IsHigh}
use Rattle.normal_forms.specs.declared.family.Family.{Family}
use Rattle.normal_forms.specs.declared.kind.Kind.{Kind}
use Rattle.normal_forms.specs.declared.kind.Kind.TheVariants as kinds
use Rattle.normal_forms.specs.declared.modulus_line.ModulusLine.{ModulusLine}
use Rattle.normal_forms.specs.declared.modulus_line.ModulusLine.TheVariants as moduli
use Rattle.normal_forms.specs.Families.{corank_of, kind_of}
use Rattle.normal_forms.specs.Units.{unit_values, quartic_discriminant, triple_discriminant, modulus_heights, AreRational, IsNondegenerate, IsModulus, IsValidModulus}
use Rattle.normal_forms.specs.Coefficients.{coefficients_in_sum, coefficients_of_squares}
use Rattle.cert_text.specs.declared.report.Carried.{Carried}
use Rattle.cert_text.specs.declared.report.Named as named_type
use Rattle.cert_text.specs.WellFormed.{is_valid_modulus, IsWellFormedCarried}
use Rattle.report_law.specs.Polynomials.{terms_in, residual_part, coefficient_at}
use Rattle.report_law.specs.Items.{coefficients_of}
use Rattle.certificate.specs.Readings.{is_read_as}
use Rattle.certificate.specs.Moduli.{HasNoInvariant, IsRationalForm, IsLineHigh, IsModulusHigh, IsLineOf}
use Rattle.certificate.proofs.Readings.{read_is_form, read_units, units_same, coefficients_of_form}

-- the coefficients are rational where the form has a j invariant
rational_without : (k : Kind) → HasNoInvariant k → (coefs : List (Ext Frac)) → AreRational k coefs
rational_without kinds.Simple h coefs = tt
rational_without kinds.Hyperbolic h coefs = tt
rational_without kinds.CubicForm h coefs = tt
rational_without kinds.Exceptional h coefs = tt
rational_without kinds.QuarticForm h coefs = absurd h
rational_without kinds.Triple h coefs = absurd h

rational_with : (k : Kind) (coefs : List (Ext Frac)) → All (IsElement algebras.Rational) coefs → AreRational k coefs
rational_with kinds.Simple coefs all = tt
rational_with kinds.Hyperbolic coefs all = tt
rational_with kinds.CubicForm coefs all = tt
rational_with kinds.Exceptional coefs all = tt
rational_with kinds.QuarticForm coefs all = all
rational_with kinds.Triple coefs all = all

pub rational_for : (a : Algebra) (k : Kind) → IsRationalForm a k → (coefs : List (Ext Frac)) → All (IsElement a) coefs → AreRational k coefs
rational_for algebras.Rational k h coefs all = rational_with k coefs all
rational_for (algebras.Quadratic m1 m0) k h coefs all = rational_without k h coefs
rational_for (algebras.Cubic m2 m1 m0) k h coefs all = rational_without k h coefs
rational_for (algebras.Tower m2 m1 m0 d) k h coefs all = rational_without k h coefs

-- a number that passes the test for not being 0
unit_is : (q : Rational) → not (rational_scalars.is_zero q) ≡ true → q ≢ rational_scalars.ops.zero
unit_is q u e = true≢false (sym u ∙ ap not ((rational_scalar_laws.zero_test q).1 e))

nondegenerate_without : (k : Kind) → HasNoInvariant k → (values : List Rational) → IsNondegenerate k values
nondegenerate_without kinds.Simple h values = tt
nondegenerate_without kinds.Hyperbolic h values = tt
nondegenerate_without kinds.CubicForm h values = tt
nondegenerate_without kinds.Exceptional h values = tt
nondegenerate_without kinds.QuarticForm h values = absurd h
nondegenerate_without kinds.Triple h values = absurd h

nondegenerate_with : (k : Kind) (values : List Rational) → list_all (λ u. not (rational_scalars.is_zero u)) (unit_values rational_scalars k values) ≡ true → IsNondegenerate k values
nondegenerate_with kinds.Simple values u = tt
nondegenerate_with kinds.Hyperbolic values u = tt
nondegenerate_with kinds.CubicForm values u = tt
nondegenerate_with kinds.Exceptional values u = tt
nondegenerate_with kinds.QuarticForm values u = unit_is (quartic_discriminant rational_scalars values) (and_left (not (rational_scalars.is_zero (quartic_discriminant rational_scalars values))) true u)
nondegenerate_with kinds.Triple values u =
    let rest = and_right (not (rational_scalars.is_zero (Rattle.normal_forms.specs.Units.at rational_scalars values 0))) (list_all (λ u. not (rational_scalars.is_zero u)) (triple_discriminant rational_scalars values ∷ [])) u in
    unit_is (triple_discriminant rational_scalars values) (and_left (not (rational_scalars.is_zero (triple_discriminant rational_scalars values))) true rest)

-- the discriminant is not 0 where the units are not
pub nondegenerate_for : (a : Algebra) (k : Kind) → IsRationalForm a k → (coefs : List (Ext Frac))
    → list_all (λ u. not ((scalars a).is_zero u)) (unit_values (scalars a) k (map (value_in a) coefs)) ≡ true → IsNondegenerate k (map (value_in algebras.Rational) coefs)
unfolding scalars
nondegenerate_for algebras.Rational k h coefs u = nondegenerate_with k (map (value_in algebras.Rational) coefs) u
nondegenerate_for (algebras.Quadratic m1 m0) k h coefs u = nondegenerate_without k h (map (value_in algebras.Rational) coefs)
nondegenerate_for (algebras.Cubic m2 m1 m0) k h coefs u = nondegenerate_without k h (map (value_in algebras.Rational) coefs)
nondegenerate_for (algebras.Tower m2 m1 m0 d) k h coefs u = nondegenerate_without k h (map (value_in algebras.Rational) coefs)

-- without a j invariant no number is formed
none_high : (k : Kind) → HasNoInvariant k → (values : List Rational) → IsHigh (modulus_heights k values) → ⊥
unfolding most
none_high kinds.Simple h values high = absurd (omega arith)
none_high kinds.Hyperbolic h values high = absurd (omega arith)
none_high kinds.CubicForm h values high = absurd (omega arith)
none_high kinds.Exceptional h values high = absurd (omega arith)
none_high kinds.QuarticForm h values high = absurd h
none_high kinds.Triple h values high = absurd h

pub line_high : (a : Algebra) (k : Kind) → IsRationalForm a k → (coefs : List (Ext Frac)) → IsHigh (modulus_heights k (map (value_in algebras.Rational) coefs)) → IsLineHigh a k (map (value_in a) coefs)
line_high algebras.Rational k h coefs high = high
line_high (algebras.Quadratic m1 m0) k h coefs high = none_high k h (map (value_in algebras.Rational) coefs) high
line_high (algebras.Cubic m2 m1 m0) k h coefs high = none_high k h (map (value_in algebras.Rational) coefs) high
line_high (algebras.Tower m2 m1 m0 d) k h coefs high = none_high k h (map (value_in algebras.Rational) coefs) high

-- a valid line passes the test of a report
valid_line : (a : Algebra) (line : ModulusLine) → IsValidModulus a line → is_valid_modulus a line ≡ true
valid_line a moduli.None h = refl
valid_line a moduli.Form h = refl
valid_line a (moduli.Value e) h = (is_element-IsElement a e).1 h
valid_line a (moduli.J q) h = (is_frac-IsFrac q).1 h

module _ (family : Family) (c : Carried) (w : IsWellFormedCarried c) (read : is_read_as family c ≡ true) (coefs : List (Ext Frac))
    (are : map (value_in c.algebra) coefs ≡ coefficients_in_sum (algebra_meaning c.algebra) family (corank_of family) c.jet.terms) where
  -- the unit values of the coefficients are not 0
  pub units_are : list_all (λ u. not ((scalars c.algebra).is_zero u)) (unit_values (scalars c.algebra) (kind_of family) (map (value_in c.algebra) coefs)) ≡ true
  units_are =
      let form = read_is_form family c w read in
      let units = sym (ap (list_all (λ u. not ((scalars c.algebra).is_zero u))) (units_same family c w form.corank)) ∙ read_units family c w read in
      let same = are ∙ ap (λ k. coefficients_in_sum (algebra_meaning c.algebra) family k c.jet.terms) (sym form.corank) in
      ap (λ xs. list_all (λ u. not ((scalars c.algebra).is_zero u)) (unit_values (scalars c.algebra) (kind_of family) xs)) same
      ∙ and_left (list_all (λ u. not ((scalars c.algebra).is_zero u)) (unit_values (scalars c.algebra) (kind_of family) (coefficients_in_sum (algebra_meaning c.algebra) family c.corank c.jet.terms)))
      (list_all (λ u. not ((scalars c.algebra).is_zero u)) (coefficients_of_squares (algebra_meaning c.algebra) (length c.names) c.corank c.jet.terms))
      (sym (list_all-append (λ u. not ((scalars c.algebra).is_zero u)) (unit_values (scalars c.algebra) (kind_of family) (coefficients_in_sum (algebra_meaning c.algebra) family c.corank c.jet.terms)) (coefficients_of_squares (algebra_meaning c.algebra) (length c.names) c.corank c.jet.terms)) ∙ units)

  -- a number of the modulus line that is high
  pub modulus_high : IsLineHigh c.algebra (kind_of family) (map (value_in c.algebra) coefs) → IsModulusHigh family c
  modulus_high h = subst (IsLineHigh c.algebra (kind_of family))
      (are ∙ sym (coefficients_of_form family c w (let e = (read_is_form family c w read).corank in let f = w.corank in omega arith))) h

  -- the coefficients of the report
  reported : (r : named_type.Named) → map (value_in c.algebra) coefs ≡ coefficients_of c family
  unfolding terms_in residual_part coefficient_at
  reported r = are ∙ ap (λ k. coefficients_in_sum (algebra_meaning c.algebra) family k c.jet.terms) (sym (read_is_form family c w read).corank)

  -- a line that is true of the coefficients is true of the report
  pub line_of : (line : ModulusLine) → IsValidModulus c.algebra line → IsModulus c.algebra (kind_of family) (map (value_in c.algebra) coefs) line → IsLineOf family c line
  line_of line valid is = record { line_is = λ r. subst (λ xs. IsModulus c.algebra (kind_of family) xs line) (reported r) is; valid = valid_line c.algebra line valid }
