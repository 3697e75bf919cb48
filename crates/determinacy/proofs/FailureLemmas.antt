-- A functional by the numbers of monomials, as a functional on polynomials.
use mathlib.Core.Path.{fun_ext}
use Rattle.std.proofs.Common.{◌≡◌, ◌≢◌, ℕ, zero, suc, ◌+◌, ◌<◌, ◌≤◌, ◌⊎◌, inl, inr, true, cond, List, [], ◌∷◌, length, map, sum, refl, sym, ap, ap₂, subst, ◌∙◌, arith}
use Rattle.std.specs.List.{AllByRecursion, All}
use Rattle.std.proofs.lemmas.List.Elements.{All-from_recursion}
use Rattle.ring_theory.specs.Ring.{RingOps, IsCommRing}
use Rattle.ring_theory.specs.Scalars.{Meaning}
use Rattle.poly_law.specs.Sums.{total}
use Rattle.poly_law.specs.Exps.{same, degree}
use Rattle.poly_law.specs.ExpList.{ExpList, exps}
use Rattle.poly_law.specs.Poly.{Same, SameTo, StartsAt, times, term, derivative, value_on}
use Rattle.poly_law.specs.Polynomials.{Polynomial}
use Rattle.poly_law.proofs.ExpLists.{exps_are}
use Rattle.poly_law.proofs.Pair
use Rattle.poly_law.proofs.Pair.{pair, at_only}
use Rattle.poly_law.proofs.Order
use Rattle.mono_exp.specs.declared.exponent.Exp.{Exp}
use Rattle.mono_exp.specs.Exponents.{IsIn, exponents, rank_of, is_before}
use Rattle.mono_exp.proofs.Counting.{before_or_after, place_at_least, count-le, count_below}
use Rattle.mono_exp.proofs.Lists.{Each, each-map}
use Rattle.mono_exp.proofs.Table.{length-monomials_below}
use Rattle.jet_law.specs.Terms.{exp_of, poly_of}
use Rattle.jet_law.proofs.TermLemmas.{degree-exp_of}
use Rattle.jet_poly.specs.JetTerms as jets
use Rattle.jet_poly.specs.JetTerms.{JetTerms}
use Rattle.jet_poly.specs.Jets.{IsJet}
use Rattle.lin_row.specs.Lines.{AllAfter, AllBelow, AllUnits, IsRising, entry}
use Rattle.lin_row.specs.Rows.{rows_of}
use Rattle.lin_row.specs.System.{RowsVanish}
use Rattle.lin_row.specs.declared.row.Row.{Row}
use Rattle.jacobian_row.specs.Numbers.{number, count_to, form_of}
use Rattle.jacobian_row.specs.Multiples.{AreMultiples, pair_of, multiple_to}
use Rattle.jacobian_row.specs.Rows.{AreRowsOf, ArePartials}
use Rattle.jacobian_row.specs.declared.multiple.Multiple.{Multiple}
use Rattle.jacobian_row.proofs.NumberLemmas.{number-place, number_rises, exp_of-entries, sum-entries}
use Rattle.jacobian_row.proofs.Membership.{at_pair}
use Rattle.jacobian_row.proofs.RowFacts.{monomial-exponents, variables_within}
use Rattle.jacobian_row.proofs.Combinations

pub low_or_high : (a b : ℕ) → (a ≤ b) ⊎ (b < a)
low_or_high zero b = inl (omega arith)
low_or_high (suc a) zero = inr (omega arith)
low_or_high (suc a) (suc b) = elim (low_or_high a b) [ inl h ↦ inl (omega (arith, h)) | inr h ↦ inr (omega (arith, h)) ]

-- functionals by the numbers of the monomials
abbrev pub numbered : {E : Type 0} (n : ℕ) → List (Exp × E) → List (ℕ × E)
numbered n fs = map (λ t. (rank_of n (exponents n t.0.e), t.1)) fs

-- a monomial whose number is below the count has at most that degree
pub degree_below : (n k : ℕ) (x : ExpList n) → number n x < count_to n k → degree (exps n) x ≤ k
degree_below n k x h = elim (low_or_high (degree (exps n) x) k) [ inl low ↦ low | inr high ↦ absurd (too_high high) ]
  where
    too_high : k < degree (exps n) x → ⊥
    too_high high =
        let a = place_at_least x.entries in
        let b = number-place n x in
        let d = sum-entries n x in
        let l = length-monomials_below n (suc k) in
        let e : count_below (length x.entries) (sum x.entries) ≡ count_below n (degree (exps n) x) = ap₂ count_below x.long d in
        let g = count-le n (suc k) (degree (exps n) x) (omega arith) in
        omega arith

-- a monomial of a lower number comes before
pub before_by_number : (n : ℕ) (a b : Exp) → IsIn n a.e → IsIn n b.e → length a.e ≡ 8 → length b.e ≡ 8 → number n (exp_of n a) < number n (exp_of n b) → is_before a.e b.e ≡ true
before_by_number n a b ia ib la lb less = elim (before_or_after a.e b.e (la ∙ sym lb)) [
  | inl same ↦ absurd (let e : number n (exp_of n a) ≡ number n (exp_of n b) = ap (λ x. number n (exp_of n (record { e = x }))) same in omega arith)
  | inr rest ↦ elim rest [ inl before ↦ before | inr after ↦ absurd (let h = number_rises n b a ib ia after in omega arith) ]
]

module _ {E V : Type 0} (m : Meaning E V) (c : IsCommRing m.scalars.ops) (s : IsSet V) (n : ℕ) where
  abbrev r : RingOps V
  r = m.scalars.ops

  value_same : (values f g : Polynomial n V) → Same (exps n) r f g → value_on (exps n) r values f ≡ value_on (exps n) r values g
  value_same values f g e = ap (λ k. total r k values) (fun_ext λ t. ap (r.mul t.1) (e t.0))

  -- the values by numbers are those by monomials
  values-at : (fs : List (Exp × E)) (a : ExpList n) → pair r (poly_of n m.value fs) (λ b. at_only (exps n) r b a) ≡ entry m (numbered n fs) (number n a)
  values-at [] a = refl
  values-at (t ∷ fs) a = ap₂ (λ b z. r.add (r.mul (m.value t.1) (cond b r.one r.zero)) z) (sym (Combinations.number-same n a (exp_of n t.0))) (values-at fs a)

  pub value-entry : (fs : List (Exp × E)) (f : Polynomial n V) → value_on (exps n) r (poly_of n m.value fs) f ≡ form_of n r f (entry m (numbered n fs))
  value-entry fs f =
      ap (pair r (poly_of n m.value fs)) (fun_ext λ b. Pair.coefficient_is (exps n) r c f b)
      ∙ Pair.pair_swap r c (poly_of n m.value fs) f (λ b a. at_only (exps n) r b a)
      ∙ ap (pair r f) (fun_ext λ a. values-at fs a)

  -- ---- the functional is a jet
  module _ (k : ℕ) where
    low_terms : (fs : List (Exp × E)) → AllByRecursion (λ t. IsIn n t.0.e) fs → AllBelow (count_to n k) (numbered n fs) → AllByRecursion (λ t. sum t.0.e ≤ k) fs
    low_terms [] unused below = tt
    low_terms (t ∷ fs) unused below = ((let d = degree-exp_of n t.0 unused.0 in let h = degree_below n k (exp_of n t.0) below.0 in omega arith), low_terms fs unused.1 below.1)

    elem_terms : (fs : List (Exp × E)) → AllUnits m (numbered n fs) → AllByRecursion (λ t. m.is_elem t.1) fs
    elem_terms [] units = tt
    elem_terms (t ∷ fs) units = (units.0.0, elem_terms fs units.1)

    unit_terms : (fs : List (Exp × E)) → AllUnits m (numbered n fs) → AllByRecursion (λ t. m.value t.1 ≢ r.zero) fs
    unit_terms [] units = tt
    unit_terms (t ∷ fs) units = (units.0.1, unit_terms fs units.1)

    pub functional_jet : (fs : List (Exp × E)) → AllByRecursion (λ t. IsIn n t.0.e) fs → AllBelow (count_to n k) (numbered n fs) → AllUnits m (numbered n fs) → IsJet m (record { n = n; order = k; terms = fs })
    functional_jet fs unused below units = record {
      variables = All-from_recursion (λ t. IsIn n t.0.e) fs unused;
      degrees = All-from_recursion (λ t. sum t.0.e ≤ k) fs (low_terms fs unused below);
      elems = All-from_recursion (λ t. m.is_elem t.1) fs (elem_terms fs units);
      units = All-from_recursion (λ t. m.value t.1 ≢ r.zero) fs (unit_terms fs units);
    }

  after_terms : (a : Exp) (fs : List (Exp × E)) → IsIn n a.e → length a.e ≡ 8 → AllByRecursion (λ t. IsIn n t.0.e) fs → AllByRecursion (λ t. length t.0.e ≡ 8) fs → AllAfter (number n (exp_of n a)) (numbered n fs) → jets.AllAfter a fs
  after_terms a [] ia la unused long after = tt
  after_terms a (t ∷ fs) ia la unused long after = (before_by_number n a t.0 ia unused.0 la long.0 after.0, after_terms a fs ia la unused.1 long.1 after.1)

  pub functional_rises : (fs : List (Exp × E)) → AllByRecursion (λ t. IsIn n t.0.e) fs → AllByRecursion (λ t. length t.0.e ≡ 8) fs → IsRising (numbered n fs) → jets.IsRising fs
  functional_rises [] unused long rising = tt
  functional_rises (t ∷ fs) unused long rising = (after_terms t.0 fs unused.0 long.0 unused.1 long.1 rising.0, functional_rises fs unused.1 long.1 rising.1)

  -- ---- it is 0 on the multiples
  module _ (k top : ℕ) (g : Polynomial n V) (fs : List (Exp × E)) where
    rows_zero : (bound : ℕ) (partials : List (JetTerms E)) → ArePartials m n g partials → (us : List Multiple) (rows : List (Row E)) → AreRowsOf m n bound k partials us rows → All (λ u. u.variable < n) us → (w : ℕ → V) → RowsVanish m (rows_of rows) w
        → Each (λ u. form_of n r (multiple_to n r k g (exp_of n u.factor) u.variable) w ≡ r.zero) us
    rows_zero bound partials are [] rows all variables w none = tt
    rows_zero bound partials are (u ∷ us) [] all variables w none = absurd all
    rows_zero bound partials are (u ∷ us) (row ∷ rows) all variables w none = (
      sym (all.0.value w ∙ Combinations.partial_same m c s n bound k partials g are (exp_of n u.factor) u.variable (variables 0 u (omega arith)) w) ∙ none.0,
      rows_zero bound partials are us rows all.1 (λ j d h. variables (suc j) d (omega arith)) w none.1,
    )

    -- those by monomials of degree up to the highest of the rows
    pub low_zero : (bound low : ℕ) (partials : List (JetTerms E)) → ArePartials m n g partials → (us : List Multiple) (rows : List (Row E)) → AreMultiples n low top us → AreRowsOf m n bound k partials us rows
        → RowsVanish m (rows_of rows) (entry m (numbered n fs)) → (a : ExpList n) (i : ℕ) → low ≤ degree (exps n) a → degree (exps n) a ≤ top → i < n → value_on (exps n) r (poly_of n m.value fs) (multiple_to n r k g a i) ≡ r.zero
    low_zero bound low partials are us rows multiples all none a i from to within =
        let w = entry m (numbered n fs) in
        let by_factors = rows_zero bound partials are us rows all (variables_within n low top us multiples) w none in
        let by_pairs = subst (Each (IsZeroAt w)) multiples.list (each-map (IsZeroAt w) (pair_of n) us (each_pair w us by_factors)) in
        value-entry fs (multiple_to n r k g a i) ∙ ap (λ b. form_of n r (multiple_to n r k g b i) w) (sym (exp_of-entries n a)) ∙ at_pair (IsZeroAt w) n low top by_pairs a i from to within
      where
        IsZeroAt : (ℕ → V) → List ℕ × ℕ → Type 0
        IsZeroAt w p = form_of n r (multiple_to n r k g (exp_of n (record { e = p.0 })) p.1) w ≡ r.zero

        each_pair : (w : ℕ → V) (vs : List Multiple) → Each (λ u. form_of n r (multiple_to n r k g (exp_of n u.factor) u.variable) w ≡ r.zero) vs → Each (λ u. IsZeroAt w (pair_of n u)) vs
        each_pair w [] h = tt
        each_pair w (u ∷ vs) h = (ap (λ b. form_of n r (multiple_to n r k g b u.variable) w) (monomial-exponents n u.factor) ∙ h.0, each_pair w vs h.1)

    -- and the others, which are 0 once they are cut
    pub high_zero : (d : ℕ) → StartsAt (exps n) r (suc d) g → (a : ExpList n) (i : ℕ) → k < degree (exps n) a + d → i < n → value_on (exps n) r (poly_of n m.value fs) (multiple_to n r k g a i) ≡ r.zero
    high_zero d start a i high within =
        value_same (poly_of n m.value fs) (multiple_to n r k g a i) [] (Order.same-cut (exps n) (exps_are n) r c k (times (exps n) r (term (exps n) r a) (derivative (exps n) r i g)) [] nothing)
        ∙ Order.pair-zero (exps n) (exps_are n) r c (poly_of n m.value fs)
      where
        nothing : SameTo (exps n) r k (times (exps n) r (term (exps n) r a) (derivative (exps n) r i g)) []
        nothing b low =
            Order.starts_times (exps n) (exps_are n) r c (degree (exps n) a) d (term (exps n) r a) (derivative (exps n) r i g)
            (Combinations.starts_terms r c s n (degree (exps n) a) (term (exps n) r a) (omega arith, tt))
            (Order.starts_derivative (exps n) (exps_are n) r c i d g within start) b (omega arith)
