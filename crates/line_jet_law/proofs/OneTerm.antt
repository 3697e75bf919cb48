-- Jets of at most one term.
use Rattle.std.proofs.Common.{◌≡◌, ◌≢◌, ℕ, zero, suc, ◌<◌, ◌≤◌, Bool, true, false, cond, eqb, eqb-true, eq-eqb, List, [], ◌∷◌, get_or, set, sum, pos, refl, sym, ap, ◌∙◌}
use Rattle.std.proofs.lemmas.List.{get_or-set_same, get_or-set_other}
use Rattle.std.proofs.lemmas.List.Elements.{All-nil, All-cons}
use Rattle.ring_theory.specs.Rational.{Rational, rational_ops}
use Rattle.ring_theory.proofs.RationalLaws.{rational_laws}
use Rattle.ring_law.specs.declared.fraction.Frac.{Frac}
use Rattle.ring_law.specs.Fraction.{IsFrac, frac_value}
use Rattle.ring_law.proofs.FractionLaws.{zero_value, nonzero_value}
use Rattle.poly_law.specs.Exps.{same, variable, none}
use Rattle.poly_law.specs.ExpList.{ExpList, exps}
use Rattle.poly_law.proofs.ExpLists.{exps_are}
use Rattle.poly_law.proofs.ExpLaws
use Rattle.mono_exp.specs.declared.exponent.Exp.{Exp}
use Rattle.mono_exp.specs.Exponents.{IsIn}
use Rattle.jet_law.specs.Terms.{exp_of}
use Rattle.jet_law.proofs.TermLemmas.{at-exp_of}
use Rattle.jet_poly.specs.JetTerms.{JetTerms}
use Rattle.germ_law.specs.Reading.{jet_of}
use Rattle.line_jet_law.specs.LineJets.{IsRationalJet, rational_polynomial}
use Rattle.line_jet_law.proofs.Bridge.{as_jet}

-- the jet with these terms
abbrev pub with_terms : ℕ → ℕ → List (Exp × Frac) → JetTerms Frac
with_terms n k terms = record { n = n; order = k; terms = terms }

-- no term
pub none_is_jet : (n k : ℕ) → IsRationalJet n k (with_terms n k [])
none_is_jet n k = record {
  is_jet = record { variables = All-nil _; degrees = All-nil _; elems = All-nil _; units = All-nil _ };
  rising = tt;
  n_is = refl;
  order_is = refl;
}

-- one term whose coefficient is not 0
pub one_is_jet : (n k : ℕ) (m : Exp) (c : Frac) → IsFrac c → IsIn n m.e → sum m.e ≤ k → c.num ≢ pos 0 → IsRationalJet n k (with_terms n k ((m, c) ∷ []))
one_is_jet n k m c v i d h = record {
  is_jet = record {
    variables = All-cons (λ t. IsIn n t.0.e) (m, c) [] i (All-nil _);
    degrees = All-cons (λ t. sum t.0.e ≤ k) (m, c) [] d (All-nil _);
    elems = All-cons (λ t. IsFrac t.1) (m, c) [] v (All-nil _);
    units = All-cons (λ t. frac_value t.1 ≢ rational_ops.zero) (m, c) [] (nonzero_value c v h) (All-nil _);
  };
  rising = (tt, tt);
  n_is = refl;
  order_is = refl;
}

zero_or : (b : Bool) (q : Rational) → q ≡ rational_ops.zero → cond b q rational_ops.zero ≡ rational_ops.zero
zero_or true q e = e
zero_or false q e = refl

-- a term with the coefficient 0 is none
pub none-value : (n k : ℕ) (e : ExpList n) (c : Frac) → IsFrac c → c.num ≡ pos 0 → rational_polynomial n (with_terms n k []) ≡ jet_of n k ((e, frac_value c) ∷ [])
none-value n k e c v h =
    as_jet n k (with_terms n k []) ((e, frac_value c) ∷ []) (none_is_jet n k)
    (λ m d. sym (rational_laws.add_zero rational_ops.zero) ∙ ap (λ z. rational_ops.add z rational_ops.zero) (sym (zero_or (same (exps n) e m) (frac_value c) (zero_value c v h))))

-- one term
pub one-value : (n k : ℕ) (m : Exp) (c : Frac) → IsFrac c → IsIn n m.e → sum m.e ≤ k → c.num ≢ pos 0 → rational_polynomial n (with_terms n k ((m, c) ∷ [])) ≡ jet_of n k ((exp_of n m, frac_value c) ∷ [])
one-value n k m c v i d h = as_jet n k (with_terms n k ((m, c) ∷ [])) ((exp_of n m, frac_value c) ∷ []) (one_is_jet n k m c v i d h) (λ m d. refl)

-- eight zeros
abbrev pub zeros : List ℕ
zeros = 0 ∷ 0 ∷ 0 ∷ 0 ∷ 0 ∷ 0 ∷ 0 ∷ 0 ∷ []

abbrev nothing : List ℕ
nothing = []

none_there : (j : ℕ) → get_or nothing j 0 ≡ 0
none_there j = refl

zero_at : (xs : List ℕ) → ((i : ℕ) → get_or xs i 0 ≡ 0) → (j : ℕ) → get_or (0 ∷ xs) j 0 ≡ 0
zero_at xs h zero = refl
zero_at xs h (suc j) = h j

pub get_or-zeros : (j : ℕ) → get_or zeros j 0 ≡ 0
get_or-zeros =
    zero_at (0 ∷ 0 ∷ 0 ∷ 0 ∷ 0 ∷ 0 ∷ 0 ∷ []) (zero_at (0 ∷ 0 ∷ 0 ∷ 0 ∷ 0 ∷ 0 ∷ []) (zero_at (0 ∷ 0 ∷ 0 ∷ 0 ∷ 0 ∷ []) (zero_at (0 ∷ 0 ∷ 0 ∷ 0 ∷ []) (zero_at (0 ∷ 0 ∷ 0 ∷ []) (zero_at (0 ∷ 0 ∷ []) (zero_at (0 ∷ []) (zero_at nothing none_there)))))))

-- the exponents of a variable
pub get_or-unit : (i j : ℕ) → i < 8 → get_or (set zeros i 1) j 0 ≡ cond (eqb j i) 1 0
get_or-unit i j h = step (eqb j i) refl
  where
    bad : true ≡ false → ⊥
    bad e = cc e

    step : (b : Bool) → eqb j i ≡ b → get_or (set zeros i 1) j 0 ≡ cond b 1 0
    step true e = ap (λ k. get_or (set zeros i 1) k 0) (eqb-true j i e) ∙ get_or-set_same zeros i 1 0 h
    step false e = get_or-set_other zeros i j 1 0 (λ q. bad (sym (eq-eqb j i q) ∙ e)) ∙ get_or-zeros j

pub unit_is : (n i : ℕ) (a : Exp) → i < 8 → a.e ≡ set zeros i 1 → exp_of n a ≡ variable (exps n) i
unit_is n i a h q =
    (exps_are n).same_at (exp_of n a) (variable (exps n) i)
    (λ j g. at-exp_of n a j g ∙ ap (λ z. get_or z j 0) q ∙ get_or-unit i j h ∙ sym (ExpLaws.at-variable (exps n) (exps_are n) i j g))

-- the exponents of a constant
pub zeros_in : (n : ℕ) → IsIn n zeros
zeros_in n j g = get_or-zeros j

pub zeros_are : (n : ℕ) (a : Exp) → a.e ≡ zeros → exp_of n a ≡ none (exps n)
zeros_are n a q =
    (exps_are n).same_at (exp_of n a) (none (exps n))
    (λ j g. at-exp_of n a j g ∙ ap (λ z. get_or z j 0) q ∙ get_or-zeros j ∙ sym (ExpLaws.at-none (exps n) (exps_are n) j g))
