-- Linear coefficients of a jet, and its terms without the constant one.
use Rattle.std.proofs.Common.{◌≡◌, ◌≢◌, ℕ, zero, suc, ◌+◌, ◌<◌, ◌≤◌, Bool, true, false, cond, ◌&&◌, ◌||◌, eqb, eqb-true, eq-eqb, List, [], ◌∷◌, ◌++◌, filter, get_or, take, sum, length, refl, sym, ap, ap₂, subst, ◌∙◌, true≢false, arith}
use Rattle.std.specs.Prelude.{nat_lt, ◌==◌}
use Rattle.std.specs.List.{All, list_any}
use Rattle.std.proofs.lemmas.Bool.{ltb-true}
use Rattle.std.proofs.lemmas.List.{take_more}
use Rattle.std.proofs.lemmas.List.Elements.{All-nil, All-cons, All-head, All-tail}
use Rattle.line_syntax.proofs.Bools.{and_left, and_right, or_left, or_right, or_other}
use Rattle.ring_theory.specs.Rational.{Rational, rational_ops}
use Rattle.ring_theory.proofs.RationalLaws.{rational_laws}
use Rattle.ring_law.specs.declared.fraction.Frac.{Frac}
use Rattle.ring_law.specs.Fraction.{IsFrac, frac_value}
use Rattle.poly_law.specs.Exps.{same, degree, variable}
use Rattle.poly_law.specs.ExpList.{ExpList, exps}
use Rattle.poly_law.specs.Poly.{coefficient, SameTo}
use Rattle.poly_law.specs.Polynomials.{Polynomial}
use Rattle.poly_law.specs.Sorted as sorted
use Rattle.poly_law.proofs.ExpLists.{exps_are}
use Rattle.poly_law.proofs.ExpLaws
use Rattle.poly_law.proofs.Sums
use Rattle.poly_law.proofs.Order
use Rattle.mono_exp.specs.declared.exponent.Exp.{Exp}
use Rattle.mono_exp.specs.Exponents.{IsIn}
use Rattle.mono_exp.proofs.Counting.{place}
use Rattle.jet_law.specs.Terms.{exp_of, poly_of}
use Rattle.jet_law.proofs.TermLemmas.{at-exp_of, degree-exp_of}
use Rattle.jet_poly.specs.JetTerms.{JetTerms, IsRising, AllAfter}
use Rattle.germ_law.specs.Germ.{without_constant}
use Rattle.germ_law.proofs.Canonical.{stands_before}
use Rattle.line_jet_law.specs.LineJets.{IsRationalJet, rational_polynomial, is_linear_at, has_linear, is_positive, positive_terms}
use Rattle.line_jet_law.proofs.Bridge.{rising_in}
use Rattle.line_jet_law.proofs.OneTerm.{with_terms}

-- an element that passes the test
pub any_found : {X : Type 0} (p : X → Bool) (xs : List X) (i : ℕ) (d : X) → i < length xs → p (get_or xs i d) ≡ true → list_any p xs ≡ true
any_found p [] i d h e = absurd (omega arith)
any_found p (x ∷ xs) zero d h e = or_left (p x) (list_any p xs) e
any_found p (x ∷ xs) (suc i) d h e = or_right (p x) (list_any p xs) (any_found p xs i d (omega arith) e)

tested : (a b : ℕ) → a ≡ 1 → b ≡ 1 → ((a == 1) && (b == 1)) ≡ true
tested a b e g = ap₂ (λ x y. (x == 1) && (y == 1)) e g

module _ (n i : ℕ) (within : i < n) where
  -- the monomial is the variable where its degree and its exponent are 1
  linear_is : (m : Exp) → IsIn n m.e → is_linear_at i m ≡ true → exp_of n m ≡ variable (exps n) i
  linear_is m inside h =
      let one : sum m.e ≡ 1 = eqb-true (sum m.e) 1 (and_left (sum m.e == 1) (get_or m.e i 0 == 1) h) in
      let here : get_or m.e i 0 ≡ 1 = eqb-true (get_or m.e i 0) 1 (and_right (sum m.e == 1) (get_or m.e i 0 == 1) h) in
      let v = ExpLaws.variable_of_degree (exps n) (exps_are n) (exp_of n m) (degree-exp_of n m inside ∙ one) in
      let at : cond {A = ℕ} (eqb i v.0) 1 0 ≡ 1 = sym (ExpLaws.at-variable (exps n) (exps_are n) v.0 i within) ∙ ap (λ a. (exps n).at a i) (sym v.2) ∙ at-exp_of n m i within ∙ here in
      v.2 ∙ ap (variable (exps n)) (sym (found (eqb i v.0) refl at))
    where
      found : {j : ℕ} (b : Bool) → eqb i j ≡ b → cond {A = ℕ} b 1 0 ≡ 1 → i ≡ j
      found {j} true e q = eqb-true i j e
      found {j} false e q = absurd (omega (arith, q))

  is_linear : (m : Exp) → IsIn n m.e → exp_of n m ≡ variable (exps n) i → is_linear_at i m ≡ true
  is_linear m inside e =
      tested (sum m.e) (get_or m.e i 0)
      (sym (degree-exp_of n m inside) ∙ ap (degree (exps n)) e ∙ ExpLaws.degree-variable (exps n) (exps_are n) i within)
      (sym (at-exp_of n m i within) ∙ ap (λ a. (exps n).at a i) e ∙ ExpLaws.at-variable (exps n) (exps_are n) i i within ∙ ap (λ b. cond {A = ℕ} b 1 0) (eq-eqb i i refl))

  other : (m : Exp) → IsIn n m.e → is_linear_at i m ≡ false → same (exps n) (exp_of n m) (variable (exps n) i) ≡ false
  other m inside h = ExpLaws.same-no (exps n) (exps_are n) (exp_of n m) (variable (exps n) i) (λ e. true≢false (sym (is_linear m inside e) ∙ h))

  abbrev C : List (Exp × Frac) → Rational
  C f = coefficient (exps n) rational_ops (poly_of n frac_value f) (variable (exps n) i)

  skipped : (t : Exp × Frac) (f : List (Exp × Frac)) → IsIn n t.0.e → is_linear_at i t.0 ≡ false → C (t ∷ f) ≡ C f
  skipped t f inside h =
      ap (λ b. rational_ops.add (cond b (frac_value t.1) rational_ops.zero) (C f)) (other t.0 inside h) ∙ Sums.zero_add rational_ops rational_laws (C f)

  either : (a b : Bool) → (a || b) ≡ false → (a ≡ false) × (b ≡ false)
  either true b h = absurd (true≢false h)
  either false b h = (refl, h)

  -- no term in the variable alone: the coefficient is 0
  none_there : (f : List (Exp × Frac)) → All (λ t. IsIn n t.0.e) f → has_linear i f ≡ false → C f ≡ rational_ops.zero
  none_there [] a h = refl
  none_there (t ∷ f) a h =
      let parts = either (is_linear_at i t.0) (has_linear i f) h in
      skipped t f (All-head (λ t. IsIn n t.0.e) t f a) parts.0 ∙ none_there f (All-tail (λ t. IsIn n t.0.e) t f a) parts.1

  after_none : (e : ExpList n) (f : Polynomial n Rational) → sorted.AllAfter (stands_before n) e f → coefficient (exps n) rational_ops f e ≡ rational_ops.zero
  after_none e [] h = refl
  after_none e (t ∷ f) h =
      ap (λ b. rational_ops.add (cond b t.1 rational_ops.zero) (coefficient (exps n) rational_ops f e))
      (ExpLaws.same-no (exps n) (exps_are n) t.0 e (λ q. let less = ltb-true (place e.entries) (place t.0.entries) h.0 in let same = ap (λ a. place a.entries) q in absurd (omega arith)))
      ∙ Sums.zero_add rational_ops rational_laws (coefficient (exps n) rational_ops f e) ∙ after_none e f h.1

  -- a term in the variable alone: the coefficient is not 0
  some_there : (f : List (Exp × Frac)) → All (λ t. IsIn n t.0.e) f → All (λ t. frac_value t.1 ≢ rational_ops.zero) f → sorted.IsRising (stands_before n) (poly_of n frac_value f) → has_linear i f ≡ true
      → C f ≢ rational_ops.zero
  some_there [] a u r h = λ e. true≢false (sym h)
  some_there (t ∷ f) a u r h = step (is_linear_at i t.0) refl (some_there f (All-tail (λ t. IsIn n t.0.e) t f a) (All-tail (λ t. frac_value t.1 ≢ rational_ops.zero) t f u) r.1)
    where
      inside : IsIn n t.0.e
      inside = All-head (λ t. IsIn n t.0.e) t f a

      step : (b : Bool) → is_linear_at i t.0 ≡ b → (has_linear i f ≡ true → C f ≢ rational_ops.zero) → C (t ∷ f) ≢ rational_ops.zero
      step true q rest e =
          let v : exp_of n t.0 ≡ variable (exps n) i = linear_is t.0 (All-head (λ t. IsIn n t.0.e) t f a) q in
          let gone : C f ≡ rational_ops.zero = after_none (variable (exps n) i) (poly_of n frac_value f) (subst (λ m. sorted.AllAfter (stands_before n) m (poly_of n frac_value f)) v r.0) in
          let here : C (t ∷ f) ≡ frac_value t.1 = ap₂ (λ b z. rational_ops.add (cond b (frac_value t.1) rational_ops.zero) z)
          (ap (λ m. same (exps n) m (variable (exps n) i)) v ∙ ExpLaws.same_refl (exps n) (exps_are n) (variable (exps n) i)) gone
          ∙ rational_laws.add_zero (frac_value t.1) in
          All-head (λ t. frac_value t.1 ≢ rational_ops.zero) t f u (sym here ∙ e)
      step false q rest e = rest (or_other (is_linear_at i t.0) (has_linear i f) h q) (sym (skipped t f (All-head (λ t. IsIn n t.0.e) t f a) q) ∙ e)

-- the linear coefficient of a jet in variable i is 0 where no term is in it alone, and else it is not
pub linear_zero : (n k i : ℕ) (f : JetTerms Frac) → i < n → IsRationalJet n k f → has_linear i f.terms ≡ false → coefficient (exps n) rational_ops (rational_polynomial n f) (variable (exps n) i) ≡ rational_ops.zero
linear_zero n k i f within j h = none_there n i within f.terms (subst (λ m. All (λ t. IsIn m t.0.e) f.terms) j.n_is j.is_jet.variables) h

pub linear_nonzero : (n k i : ℕ) (f : JetTerms Frac) → i < n → IsRationalJet n k f → has_linear i f.terms ≡ true → coefficient (exps n) rational_ops (rational_polynomial n f) (variable (exps n) i) ≢ rational_ops.zero
linear_nonzero n k i f within j h =
    let inside : All (λ t. IsIn n t.0.e) f.terms = subst (λ m. All (λ t. IsIn m t.0.e) f.terms) j.n_is j.is_jet.variables in
    some_there n i within f.terms inside j.is_jet.units (rising_in n f.terms inside j.rising) h

-- ---- without the constant term

after_kept : (m : Exp) (f : List (Exp × Frac)) → AllAfter m f → AllAfter m (positive_terms f)
after_kept m [] h = tt
after_kept m (t ∷ f) h = step (is_positive t.0) (after_kept m f h.1)
  where
    step : (b : Bool) → AllAfter m (positive_terms f) → AllAfter m (cond b (t ∷ positive_terms f) (positive_terms f))
    step true rest = (h.0, rest)
    step false rest = rest

pub rising_kept : (f : List (Exp × Frac)) → IsRising f → IsRising (positive_terms f)
rising_kept [] h = tt
rising_kept (t ∷ f) h = step (is_positive t.0) (rising_kept f h.1)
  where
    step : (b : Bool) → IsRising (positive_terms f) → IsRising (cond b (t ∷ positive_terms f) (positive_terms f))
    step true rest = (after_kept t.0 f h.0, rest)
    step false rest = rest

all_kept : (P : Exp × Frac → Type 0) (f : List (Exp × Frac)) → All P f → All P (positive_terms f)
all_kept P [] h = All-nil _
all_kept P (t ∷ f) h = step (is_positive t.0) (all_kept P f (All-tail P t f h))
  where
    step : (b : Bool) → All P (positive_terms f) → All P (cond b (t ∷ positive_terms f) (positive_terms f))
    step true rest = All-cons P t (positive_terms f) (All-head P t f h) rest
    step false rest = rest

kept_polynomial : (n : ℕ) (f : List (Exp × Frac)) → All (λ t. IsIn n t.0.e) f → poly_of n frac_value (positive_terms f) ≡ without_constant n (poly_of n frac_value f)
kept_polynomial n [] a = refl
kept_polynomial n (t ∷ f) a =
    choice (is_positive t.0)
    ∙ ap (λ d. cond (nat_lt 0 d) ((exp_of n t.0, frac_value t.1) ∷ poly_of n frac_value (positive_terms f)) (poly_of n frac_value (positive_terms f))) (sym (degree-exp_of n t.0 (All-head (λ t. IsIn n t.0.e) t f a)))
    ∙ ap (λ z. cond (nat_lt 0 (degree (exps n) (exp_of n t.0))) ((exp_of n t.0, frac_value t.1) ∷ z) z) (kept_polynomial n f (All-tail (λ t. IsIn n t.0.e) t f a))
  where
    choice : (b : Bool) → poly_of n frac_value (cond b (t ∷ positive_terms f) (positive_terms f)) ≡ cond b ((exp_of n t.0, frac_value t.1) ∷ poly_of n frac_value (positive_terms f)) (poly_of n frac_value (positive_terms f))
    choice true = refl
    choice false = refl

pub kept_is_jet : (n k : ℕ) (f : JetTerms Frac) → IsRationalJet n k f → IsRationalJet n k (with_terms n k (positive_terms f.terms))
kept_is_jet n k f j = record {
  is_jet = record {
    variables = all_kept (λ t. IsIn n t.0.e) f.terms (subst (λ m. All (λ t. IsIn m t.0.e) f.terms) j.n_is j.is_jet.variables);
    degrees = all_kept (λ t. sum t.0.e ≤ k) f.terms (subst (λ m. All (λ t. sum t.0.e ≤ m) f.terms) j.order_is j.is_jet.degrees);
    elems = all_kept (λ t. IsFrac t.1) f.terms j.is_jet.elems;
    units = all_kept (λ t. frac_value t.1 ≢ rational_ops.zero) f.terms j.is_jet.units;
  };
  rising = rising_kept f.terms j.rising;
  n_is = refl;
  order_is = refl;
}

pub kept-value : (n k : ℕ) (f : JetTerms Frac) → IsRationalJet n k f → rational_polynomial n (with_terms n k (positive_terms f.terms)) ≡ without_constant n (rational_polynomial n f)
kept-value n k f j = kept_polynomial n f.terms (subst (λ m. All (λ t. IsIn m t.0.e) f.terms) j.n_is j.is_jet.variables)

filter-append : {X : Type 0} (p : X → Bool) (xs ys : List X) → filter p (xs ++ ys) ≡ filter p xs ++ filter p ys
filter-append p [] ys = refl
filter-append p (x ∷ xs) ys = step (p x) (filter-append p xs ys)
  where
    step : (b : Bool) → filter p (xs ++ ys) ≡ filter p xs ++ filter p ys → cond b (x ∷ filter p (xs ++ ys)) (filter p (xs ++ ys)) ≡ cond b (x ∷ filter p xs) (filter p xs) ++ filter p ys
    step true e = ap (λ z. x ∷ z) e
    step false e = e

-- one term more
pub more_kept : (f : List (Exp × Frac)) (i : ℕ) (d : Exp × Frac) → i < length f → positive_terms (take (i + 1) f) ≡ positive_terms (take i f) ++ positive_terms (get_or f i d ∷ [])
more_kept f i d h = ap positive_terms (take_more f i d h) ∙ filter-append (λ t. is_positive t.0) (take i f) (get_or f i d ∷ [])

-- without their constant terms, polynomials that agree up to degree k agree
pub without_constant_agrees : (n k : ℕ) (f g : Polynomial n Rational) → SameTo (exps n) rational_ops k f g → SameTo (exps n) rational_ops k (without_constant n f) (without_constant n g)
without_constant_agrees n k f g e m h =
    Order.coefficient-filter (exps n) (exps_are n) rational_ops rational_laws (λ a. nat_lt 0 (degree (exps n) a)) f m
    ∙ ap (λ q. cond (nat_lt 0 (degree (exps n) m)) q rational_ops.zero) (e m h)
    ∙ sym (Order.coefficient-filter (exps n) (exps_are n) rational_ops rational_laws (λ a. nat_lt 0 (degree (exps n) a)) g m)
