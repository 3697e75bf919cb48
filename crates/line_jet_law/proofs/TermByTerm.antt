-- A jet whose coefficients are changed term by term.
use Rattle.std.proofs.Common.{◌≡◌, ◌≢◌, ℕ, ◌+◌, ◌<◌, ◌≤◌, true, List, [], ◌∷◌, ◌++◌, map, sum, length, take, get_or, refl, sym, ap, ap₂, subst, ◌∙◌}
use Rattle.std.specs.List.{All, AllZip}
use Rattle.std.proofs.lemmas.List.{take_more}
use Rattle.std.proofs.lemmas.List.Elements.{All-nil, All-cons, All-head, All-tail, AllZip-push}
use Rattle.ring_theory.specs.Rational.{Rational, rational_ops}
use Rattle.ring_theory.proofs.RationalLaws.{rational_laws}
use Rattle.ring_law.specs.declared.fraction.Frac.{Frac}
use Rattle.ring_law.specs.Fraction.{IsFrac, frac_value}
use Rattle.poly_law.specs.ExpList.{exps}
use Rattle.poly_law.specs.Poly.{coefficient}
use Rattle.poly_law.specs.Polynomials.{Polynomial}
use Rattle.poly_law.proofs.Sums
use Rattle.mono_exp.specs.declared.exponent.Exp.{Exp}
use Rattle.mono_exp.specs.Exponents.{IsIn, is_before}
use Rattle.jet_law.specs.Terms.{exp_of, poly_of}
use Rattle.jet_poly.specs.JetTerms.{JetTerms, IsRising, AllAfter}
use Rattle.germ_law.specs.Reading.{jet_of}
use Rattle.line_jet_law.specs.LineJets.{IsRationalJet, IsTermBy, rational_polynomial}
use Rattle.line_jet_law.proofs.Bridge.{as_jet}
use Rattle.line_jet_law.proofs.OneTerm.{with_terms}

module _ (change : Rational → Rational) where
  -- each coefficient of g is the change of that of f
  abbrev pub AreTermsBy : List (Exp × Frac) → List (Exp × Frac) → Type 0
  AreTermsBy f g = AllZip (IsTermBy change) f g

  -- one term more
  pub more_terms : (f g : List (Exp × Frac)) (i : ℕ) (d u : Exp × Frac) → i < length f → IsTermBy change (get_or f i d) u → AreTermsBy (take i f) g → AreTermsBy (take (i + 1) f) (g ++ u ∷ [])
  more_terms f g i d u h o r =
      subst (λ z. AreTermsBy z (g ++ u ∷ [])) (sym (take_more f i d h)) (AllZip-push (IsTermBy change) (take i f) g (get_or f i d) u r o)

  after_terms : (a b : Exp) (f g : List (Exp × Frac)) → b ≡ a → AreTermsBy f g → AllAfter a f → AllAfter b g
  after_terms a b [] [] e o h = tt
  after_terms a b [] (u ∷ g) e o h = absurd o
  after_terms a b (t ∷ f) [] e o h = absurd o
  after_terms a b (t ∷ f) (u ∷ g) e o h =
      (subst (λ m. is_before m.e u.0.e ≡ true) (sym e) (subst (λ m. is_before a.e m.e ≡ true) (sym o.0.monomial) h.0), after_terms a b f g e o.1 h.1)

  -- the terms stay in order
  pub rising_terms : (f g : List (Exp × Frac)) → AreTermsBy f g → IsRising f → IsRising g
  rising_terms [] [] o h = tt
  rising_terms [] (u ∷ g) o h = absurd o
  rising_terms (t ∷ f) [] o h = absurd o
  rising_terms (t ∷ f) (u ∷ g) o h = (after_terms t.0 u.0 f g o.0.monomial o.1 h.0, rising_terms f g o.1 h.1)

  -- what holds of the monomials of f holds of those of g
  monomials_alike : (P : Exp → Type 0) (f g : List (Exp × Frac)) → AreTermsBy f g → All (λ t. P t.0) f → All (λ t. P t.0) g
  monomials_alike P [] [] o h = All-nil _
  monomials_alike P [] (u ∷ g) o h = absurd o
  monomials_alike P (t ∷ f) [] o h = absurd o
  monomials_alike P (t ∷ f) (u ∷ g) o h =
      All-cons (λ t. P t.0) u g (subst P (sym o.0.monomial) (All-head (λ t. P t.0) t f h)) (monomials_alike P f g o.1 (All-tail (λ t. P t.0) t f h))

  -- the new coefficients are valid
  valid_terms : (f g : List (Exp × Frac)) → AreTermsBy f g → All (λ t. IsFrac t.1) g
  valid_terms [] [] o = All-nil _
  valid_terms [] (u ∷ g) o = absurd o
  valid_terms (t ∷ f) [] o = absurd o
  valid_terms (t ∷ f) (u ∷ g) o = All-cons (λ t. IsFrac t.1) u g o.0.coefficient.valid (valid_terms f g o.1)

  -- and not zero, where the change is zero at zero alone
  unit_terms : (f g : List (Exp × Frac)) → AreTermsBy f g → ((q : Rational) → change q ≡ rational_ops.zero → q ≡ rational_ops.zero) → All (λ t. frac_value t.1 ≢ rational_ops.zero) f → All (λ t. frac_value t.1 ≢ rational_ops.zero) g
  unit_terms [] [] o z h = All-nil _
  unit_terms [] (u ∷ g) o z h = absurd o
  unit_terms (t ∷ f) [] o z h = absurd o
  unit_terms (t ∷ f) (u ∷ g) o z h =
      All-cons (λ t. frac_value t.1 ≢ rational_ops.zero) u g
      (λ e. All-head (λ t. frac_value t.1 ≢ rational_ops.zero) t f h (z (frac_value t.1) (sym o.0.coefficient.value_is ∙ e)))
      (unit_terms f g o.1 z (All-tail (λ t. frac_value t.1 ≢ rational_ops.zero) t f h))

  -- the polynomial with the changed coefficients
  abbrev pub changed : (n : ℕ) → Polynomial n Rational → Polynomial n Rational
  changed n f = map (λ t. (t.0, change t.1)) f

  -- it is the polynomial of the new terms
  polynomial_changed : (n : ℕ) (f g : List (Exp × Frac)) → AreTermsBy f g → poly_of n frac_value g ≡ changed n (poly_of n frac_value f)
  polynomial_changed n [] [] o = refl
  polynomial_changed n [] (u ∷ g) o = absurd o
  polynomial_changed n (t ∷ f) [] o = absurd o
  polynomial_changed n (t ∷ f) (u ∷ g) o =
      ap₂ (λ x y. x ∷ y) (λ i. (exp_of n (o.0.monomial i), o.0.coefficient.value_is i)) (polynomial_changed n f g o.1)

  -- the new terms are those of a jet
  pub changed_is_jet : (n k : ℕ) (f : JetTerms Frac) (g : List (Exp × Frac)) → ((q : Rational) → change q ≡ rational_ops.zero → q ≡ rational_ops.zero) → IsRationalJet n k f → AreTermsBy f.terms g
      → IsRationalJet n k (with_terms n k g)
  changed_is_jet n k f g z j o = record {
    is_jet = record {
      variables = monomials_alike (λ m. IsIn n m.e) f.terms g o (subst (λ m. All (λ t. IsIn m t.0.e) f.terms) j.n_is j.is_jet.variables);
      degrees = monomials_alike (λ m. sum m.e ≤ k) f.terms g o (subst (λ m. All (λ t. sum t.0.e ≤ m) f.terms) j.order_is j.is_jet.degrees);
      elems = valid_terms f.terms g o;
      units = unit_terms f.terms g o z j.is_jet.units;
    };
    rising = rising_terms f.terms g o j.rising;
    n_is = refl;
    order_is = refl;
  }

  -- of the changed polynomial
  pub changed-value : (n k : ℕ) (f : JetTerms Frac) (g : List (Exp × Frac)) → ((q : Rational) → change q ≡ rational_ops.zero → q ≡ rational_ops.zero) → IsRationalJet n k f → AreTermsBy f.terms g
      → rational_polynomial n (with_terms n k g) ≡ jet_of n k (changed n (rational_polynomial n f))
  changed-value n k f g z j o =
      as_jet n k (with_terms n k g) (changed n (rational_polynomial n f)) (changed_is_jet n k f g z j o) (λ m d. ap (λ y. coefficient (exps n) rational_ops y m) (polynomial_changed n f.terms g o))

-- the opposite of a number is 0 only where the number is
pub negated_zero : (q : Rational) → rational_ops.neg q ≡ rational_ops.zero → q ≡ rational_ops.zero
negated_zero q e = sym (rational_laws.add_zero q) ∙ ap (rational_ops.add q) (sym e) ∙ rational_laws.add_neg q

-- a product with a is 0 only where the other factor is, if a has an inverse b
pub multiple_zero : (a b q : Rational) → rational_ops.mul b a ≡ rational_ops.one → rational_ops.mul a q ≡ rational_ops.zero → q ≡ rational_ops.zero
multiple_zero a b q i e =
    sym (rational_laws.mul_one q) ∙ ap (rational_ops.mul q) (sym i) ∙ rational_laws.mul_comm q (rational_ops.mul b a) ∙ rational_laws.mul_assoc b a q ∙ ap (rational_ops.mul b) e
    ∙ Sums.mul_zero rational_ops rational_laws b
