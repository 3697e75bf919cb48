-- A carried jet that is split passes the test of a split jet, and its residual terms are its residual part.
use Rattle.std.proofs.Common.{◌≡◌, ◌≢◌, ℕ, zero, suc, ◌+◌, ◌-◌, ◌<◌, ◌≤◌, ◌⊎◌, inl, inr, Bool, true, false, cond, ◌&&◌, ◌||◌, eqb, eqb-true, eq-eqb, List, [], ◌∷◌, ◌++◌, map, drop, get_or, length, sum, replicate, refl, sym, ap, ap₂, subst, ◌∙◌, true≢false, le-leb, arith}
use Rattle.std.specs.Prelude.{◌==◌}
use Rattle.std.specs.List.{All, AllByRecursion, list_all, list_any}
use Rattle.std.specs.Str.{bytes_eq}
use Rattle.std.specs.Cmp.Lexicographic.{bytes_decides}
use Rattle.std.proofs.Math.ListN.{get_or-append}
use Rattle.std.proofs.lemmas.List.{ext_get_or, length-replicate, length-map}
use Rattle.std.proofs.lemmas.List.Elements.{recursion_from_All}
use Rattle.ring_theory.specs.Ring.{RingOps}
use Rattle.ring_theory.specs.Scalars.{Scalars, ScalarLaws}
use Rattle.ring_law.specs.declared.fraction.Frac.{Frac}
use Rattle.ext_algebra.specs.declared.algebra.Algebra.{Algebra}
use Rattle.ext_algebra.specs.declared.algebra.Ext.{Ext}
use Rattle.ext_algebra.specs.Algebra.{Value, scalars, ops, value_in, algebra_meaning}
use Rattle.ext_algebra.specs.AlgebraLaws.{algebra_scalar_laws}
use Rattle.poly_law.specs.Exps.{same, degree, variable}
use Rattle.poly_law.specs.ExpList.{exps}
use Rattle.poly_law.specs.Poly.{square, IsSplit}
use Rattle.poly_law.specs.Polynomials.{Polynomial, SameIn, coefficient_in, cut_in}
use Rattle.poly_law.proofs.ExpLists.{exps_are}
use Rattle.poly_law.proofs.ExpLaws
use Rattle.poly_law.proofs.OneList.{one_list}
use Rattle.mono_exp.specs.declared.exponent.Exp.{Exp}
use Rattle.mono_exp.specs.Exponents.{IsIn, numbers_below}
use Rattle.mono_exp.proofs.Lists.{Each, numbers_are_below, length-numbers_below}
use Rattle.jet_law.specs.Canonical.{monomial_in}
use Rattle.jet_law.specs.Terms.{exp_of, poly_of}
use Rattle.jet_law.proofs.TermLemmas.{at-exp_of, degree-exp_of}
use Rattle.jet_poly.specs.JetTerms.{JetTerms, IsRising}
use Rattle.jet_poly.specs.Jets.{IsJet}
use Rattle.jet_poly.proofs.KeptTerms.{kept-rising, kept-all}
use Rattle.germ_law.proofs.Canonical
use Rattle.germ_law.proofs.Canonical.{stands_before, is_order}
use Rattle.hessian_rank.proofs.PairExponents.{at_monomial, pair_is}
use Rattle.normal_forms.specs.Monomials.{is_residual, is_square, is_split, is_one_of, monomials_in, square_of, square_variables, residual_terms}
use Rattle.normal_forms.proofs.Padded.{get_or-in_eight, get_or-zeros, square-in}
use Rattle.normal_forms.proofs.FormTerms.{square_at, square_long}
use Rattle.normal_forms.proofs.Residual.{residual_in}
use Rattle.normal_forms.proofs.Squares.{by_numbers}
use Rattle.cert_text.specs.WellFormed.{is_monomial_in}
use Rattle.report_law.specs.Polynomials.{terms_in, residual_part}
use Rattle.report_law.proofs.Splitting.{and_both, all_zero_past, is_split-is}
use Rattle.report_jet.proofs.OneJet
use Rattle.report_jet.proofs.ReportJets.{terms_in-poly_of}
use Rattle.move_law.specs.Moves.{pair_exponents, residual}
use Rattle.move_law.specs.Split.{squares_in}
use Rattle.coord_change.specs.MoveJets.{IsJetFor}
use Rattle.determinator.specs.Jets.{IsListed, residual_jet}
use Rattle.split_lemma.specs.SplitForms.{IsSplitUpTo, HasSquares}
use Rattle.determinator.proofs.Laws
use Rattle.determinator.proofs.Terms

-- ---- exponents

zero_or_not : (z : ℕ) → (z ≡ 0) ⊎ (0 < z)
zero_or_not z = grind arith

pub below_or_past : (i n : ℕ) → (i < n) ⊎ (n ≤ i)
below_or_past i n = grind arith

-- a monomial that is not residual has a square variable
some_past : (c : ℕ) (e : List ℕ) → list_all (λ x. x == 0) (drop c e) ≡ false → (w : ℕ) × (c ≤ w) × (0 < get_or e w 0)
some_past zero [] h = absurd (true≢false h)
some_past (suc c) [] h = absurd (true≢false h)
some_past zero (z ∷ zs) h = step (zero_or_not z) (some_past zero zs)
  where
    step : (z ≡ 0) ⊎ (0 < z) → (list_all (λ x. x == 0) (drop 0 zs) ≡ false → (w : ℕ) × (0 ≤ w) × (0 < get_or zs w 0)) → (w : ℕ) × (0 ≤ w) × (0 < get_or (z ∷ zs) w 0)
    step (inl e) rest = let found = rest (sym (ap (λ b. b && list_all (λ x. x == 0) zs) (eq-eqb z 0 e)) ∙ h) in (suc found.0, omega arith, found.2)
    step (inr p) rest = (0, omega arith, p)
some_past (suc c) (z ∷ zs) h = let rest = some_past c zs h in (suc rest.0, (let le = rest.1 in omega arith), rest.2)

any_past : (c w : ℕ) (e : List ℕ) → c ≤ w → get_or e w 0 ≡ 2 → list_any (λ x. x == 2) (drop c e) ≡ true
any_past zero w [] le h = absurd (let bad : ⊥ = omega arith in bad)
any_past (suc c) w [] le h = absurd (let bad : ⊥ = omega arith in bad)
any_past zero zero (x ∷ xs) le h = ap (λ b. b || list_any (λ x. x == 2) xs) (eq-eqb x 2 h)
any_past zero (suc w) (x ∷ xs) le h = step (x == 2) (any_past zero w xs (omega arith) h)
  where
    step : (b : Bool) → list_any (λ x. x == 2) xs ≡ true → (b || list_any (λ x. x == 2) xs) ≡ true
    step true e = refl
    step false e = e
any_past (suc c) zero (x ∷ xs) le h = absurd (omega arith)
any_past (suc c) (suc w) (x ∷ xs) le h = any_past c w xs (omega arith) h

-- the exponents of the square of a variable
pub square_exponent : (j i : ℕ) → j < 8 → i < 8 → get_or (square_of j).e i 0 ≡ cond (eqb i j) 2 0
square_exponent j i hj hi = step (eqb i j) refl
  where
    apart : (i ≡ j → ⊥) → (i < j) ⊎ (j < i) → get_or (square_of j).e i 0 ≡ 0
    apart ne (inl l) =
        let long : length (replicate {A = ℕ} j 0) ≡ j = length-replicate j 0 in
        get_or-in_eight (replicate j 0 ++ 2 ∷ []) i hi ∙ get_or-append (replicate j 0) (2 ∷ []) 0 i (omega arith) ∙ get_or-zeros j i
    apart ne (inr l) = square-in i j l i (omega arith)

    sides : (i ≡ j → ⊥) → (i < j) ⊎ (j < i)
    sides ne = grind arith

    step : (b : Bool) → eqb i j ≡ b → get_or (square_of j).e i 0 ≡ cond b 2 0
    step true e = ap (λ k. get_or (square_of j).e k 0) (eqb-true i j e) ∙ square_at j hj
    step false e = let ne : i ≡ j → ⊥ = λ p. true≢false (sym (eq-eqb i j p) ∙ e) in apart ne (sides ne)

-- it is the square of the variable
pub square_is : (n j : ℕ) → n ≤ 8 → j < n → monomial_in n (square_of j).e ≡ monomial_in n (pair_exponents n j j)
square_is n j few h = (exps_are n).same_at (monomial_in n (square_of j).e) (monomial_in n (pair_exponents n j j)) λ i l.
    (exps_are n).at_make (λ k. get_or (square_of j).e k 0) i l ∙ square_exponent j i (omega arith) (omega arith)
    ∙ sym (at_monomial n j j i l ∙ ap (λ b. cond b (cond (eqb i j) 2 0) (cond (eqb i j || eqb i j) 1 0)) (eq-eqb j j refl))

-- the coefficients that are read at the squares are those of the plan
pub squares_read : (n c : ℕ) → n ≤ 8 → {V : Type 0} (s : Scalars V) (p : Polynomial n V) → map (λ i. coefficient_in n s.ops p (exp_of n (square_of (c + i)))) (numbers_below (n - c)) ≡ squares_in n s c p
squares_read n c few s p = each (numbers_below (n - c)) (numbers_are_below (n - c))
  where
    each : (is : List ℕ) → Each (λ i. i < n - c) is → map (λ i. coefficient_in n s.ops p (exp_of n (square_of (c + i)))) is ≡ map (λ i. coefficient_in n s.ops p (monomial_in n (pair_exponents n (c + i) (c + i)))) is
    each [] b = refl
    each (i ∷ is) b = ap₂ (λ v vs. v ∷ vs) (ap (coefficient_in n s.ops p) (square_is n (c + i) few (let lt = b.0 in omega arith))) (each is b.1)

-- there are as many as square variables
pub squares_count : (n c : ℕ) {V : Type 0} (s : Scalars V) (p : Polynomial n V) → length (squares_in n s c p) ≡ n - c
squares_count n c s p = length-map (numbers_below (n - c)) _ ∙ length-numbers_below (n - c)

-- the monomial is the square of a square variable
abbrev pub IsSquareAt : Algebra → (n c : ℕ) → Exp → Type 0
IsSquareAt a n c t = (w : ℕ) × (c ≤ w) × (w < n) × (exp_of n t ≡ monomial_in n (pair_exponents n w w))

module _ (a : Algebra) (n c o : ℕ) (p : Polynomial n (Value a)) (f : JetTerms (Ext Frac)) (few : n ≤ 8) (within : c ≤ n) (is : IsJetFor (algebra_meaning a) n o p f) (listed : IsListed f) where
  abbrev r : RingOps (Value a)
  r = ops a

  abbrev laws : ScalarLaws (scalars a)
  laws = algebra_scalar_laws a

  -- ---- the terms

  inside : All (λ t. IsIn n t.0.e) f.terms
  inside = subst (λ z. All (λ t. IsIn z t.0.e) f.terms) is.variables is.jet.variables

  low : All (λ t. sum t.0.e ≤ o) f.terms
  low = subst (λ z. All (λ t. sum t.0.e ≤ z) f.terms) is.order is.jet.degrees

  own : AllByRecursion (λ t. coefficient_in n r p (exp_of n t.0) ≡ value_in a t.1) f.terms
  own = subst (λ q. AllByRecursion (λ t. coefficient_in n r q (exp_of n t.0) ≡ value_in a t.1) f.terms) is.polynomial (Terms.own_coefficients (algebra_meaning a) laws.ring n f.terms inside listed.rising)

  -- the monomials pass the test of a report
  monomials_valid : (ts : List (Exp × Ext Frac)) → AllByRecursion (λ t. IsIn n t.0.e) ts → AllByRecursion (λ t. length t.0.e ≡ 8) ts → list_all (λ t. is_monomial_in n t.0) ts ≡ true
  monomials_valid [] i l = refl
  monomials_valid (t ∷ ts) i l =
      and_both (is_monomial_in n t.0) (list_all (λ t. is_monomial_in n t.0) ts)
      (and_both (length t.0.e == 8) (list_all (λ x. x == 0) (drop n t.0.e)) (eq-eqb (length t.0.e) 8 l.0) (all_zero_past n t.0.e i.0)) (monomials_valid ts i.1 l.1)

  pub all_in : list_all (λ t. is_monomial_in n t.0) f.terms ≡ true
  all_in = monomials_valid f.terms (recursion_from_All (λ t. IsIn n t.0.e) f.terms inside) (recursion_from_All (λ t. length t.0.e ≡ 8) f.terms listed.long)

  -- ---- split

  module _ (split : IsSplitUpTo n (scalars a) c o p) where
    -- a monomial that is the square of a square variable passes the test of one
    square_test : (t : Exp) (w : ℕ) → IsIn n t.e → c ≤ w → w < n → exp_of n t ≡ square (exps n) (exps c) r w → is_square c t ≡ true
    square_test t w i le lt e =
        let x = exps n in
        let total : sum t.e ≡ 2 =
        sym (degree-exp_of n t i) ∙ ap (degree x) e ∙ ExpLaws.degree-plus x (exps_are n) (variable x w) (variable x w)
        ∙ ap₂ (λ y z. y + z) (ExpLaws.degree-variable x (exps_are n) w lt) (ExpLaws.degree-variable x (exps_are n) w lt) in
        let one : x.at (variable x w) w ≡ 1 = ExpLaws.at-variable x (exps_are n) w w lt ∙ ap (λ b. cond b 1 0) (eq-eqb w w refl) in
        let two : get_or t.e w 0 ≡ 2 =
        sym (at-exp_of n t w lt) ∙ ap (λ z. x.at z w) e ∙ ExpLaws.at-plus x (exps_are n) (variable x w) (variable x w) w lt ∙ ap₂ (λ y z. y + z) one one in
        and_both (sum t.e == 2) (list_any (λ x. x == 2) (drop c t.e)) (eq-eqb (sum t.e) 2 total) (any_past c w t.e le two)

    -- a term with a square variable is at the square of one
    square_of_term : (t : Exp × Ext Frac) → IsIn n t.0.e → sum t.0.e ≤ o → value_in a t.1 ≢ r.zero → coefficient_in n r p (exp_of n t.0) ≡ value_in a t.1 → is_residual c t.0 ≡ false
        → (w : ℕ) × (c ≤ w) × (w < n) × (exp_of n t.0 ≡ square (exps n) (exps c) r w)
    square_of_term t i l unit e q =
        let found = some_past c t.0.e q in
        let lt : found.0 < n = elim (below_or_past found.0 n) [ inl g ↦ g | inr g ↦ let z = i found.0 g in let some = found.2 in absurd (omega arith) ] in
        (found.0, found.1, lt, by_square found.0 found.1 lt found.2 (same (exps n) (exp_of n t.0) (square (exps n) (exps c) r found.0)) refl)
      where
        by_square : (w : ℕ) → c ≤ w → w < n → 0 < get_or t.0.e w 0 → (b : Bool) → same (exps n) (exp_of n t.0) (square (exps n) (exps c) r w) ≡ b → exp_of n t.0 ≡ square (exps n) (exps c) r w
        by_square w le lt some true k = ExpLaws.same-eq (exps n) (exps_are n) (exp_of n t.0) (square (exps n) (exps c) r w) k
        by_square w le lt some false k =
            absurd (unit (sym e ∙ split (exp_of n t.0) w le lt (subst (λ z. 0 < z) (sym (at-exp_of n t.0 w lt)) some)
            (λ same_is. true≢false (sym (subst (λ z. same (exps n) (exp_of n t.0) z ≡ true) same_is (ExpLaws.same_refl (exps n) (exps_are n) (exp_of n t.0))) ∙ k))
            (let d = degree-exp_of n t.0 i in omega arith)))

    term_test : (t : Exp × Ext Frac) → IsIn n t.0.e → sum t.0.e ≤ o → value_in a t.1 ≢ r.zero → coefficient_in n r p (exp_of n t.0) ≡ value_in a t.1 → (is_residual c t.0 || is_square c t.0) ≡ true
    term_test t i l unit e = by_test (is_residual c t.0) refl
      where
        by_test : (b : Bool) → is_residual c t.0 ≡ b → (is_residual c t.0 || is_square c t.0) ≡ true
        by_test true q = ap (λ b. b || is_square c t.0) q
        by_test false q = let w = square_of_term t i l unit e q in ap₂ (λ b d. b || d) q (square_test t.0 w.0 i w.1 w.2 w.3)

    squares_of_terms : (ts : List (Exp × Ext Frac)) → AllByRecursion (λ t. IsIn n t.0.e) ts → AllByRecursion (λ t. sum t.0.e ≤ o) ts → AllByRecursion (λ t. value_in a t.1 ≢ r.zero) ts
        → AllByRecursion (λ t. coefficient_in n r p (exp_of n t.0) ≡ value_in a t.1) ts → AllByRecursion (λ t. is_residual c t.0 ≡ false → IsSquareAt a n c t.0) ts
    squares_of_terms [] i l u e = tt
    squares_of_terms (t ∷ ts) i l u e = (
      (λ q. let w = square_of_term t i.0 l.0 u.0 e.0 q in (w.0, w.1, w.2, w.3 ∙ pair_is n w.0 w.0)),
      squares_of_terms ts i.1 l.1 u.1 e.1,
    )

    -- each term without a square variable, or at the square of one
    pub each_square : AllByRecursion (λ t. is_residual c t.0 ≡ false → IsSquareAt a n c t.0) f.terms
    each_square = squares_of_terms f.terms (recursion_from_All (λ t. IsIn n t.0.e) f.terms inside) (recursion_from_All (λ t. sum t.0.e ≤ o) f.terms low) (recursion_from_All (λ t. value_in a t.1 ≢ r.zero) f.terms is.jet.units) own

    each_test : (ts : List (Exp × Ext Frac)) → AllByRecursion (λ t. IsIn n t.0.e) ts → AllByRecursion (λ t. sum t.0.e ≤ o) ts → AllByRecursion (λ t. value_in a t.1 ≢ r.zero) ts
        → AllByRecursion (λ t. coefficient_in n r p (exp_of n t.0) ≡ value_in a t.1) ts → list_all (λ m. is_residual c m || is_square c m) (monomials_in ts) ≡ true
    each_test [] i l u e = refl
    each_test (t ∷ ts) i l u e = and_both (is_residual c t.0 || is_square c t.0) (list_all (λ m. is_residual c m || is_square c m) (monomials_in ts)) (term_test t i.0 l.0 u.0 e.0) (each_test ts i.1 l.1 u.1 e.1)

    module _ (squares : HasSquares n (scalars a) c p) where
      -- a term at the square of a variable
      there : (j : ℕ) → j < n → (ts : List (Exp × Ext Frac)) → AllByRecursion (λ t. IsIn n t.0.e) ts → AllByRecursion (λ t. length t.0.e ≡ 8) ts
          → list_any (λ u. same (exps n) u.0 (monomial_in n (square_of j).e)) (poly_of n (value_in a) ts) ≡ true → is_one_of (monomials_in ts) (square_of j) ≡ true
      there j lt [] i l h = absurd (true≢false (sym h))
      there j lt (t ∷ ts) i l h = step (same (exps n) (exp_of n t.0) (monomial_in n (square_of j).e)) refl (there j lt ts i.1 l.1) h
        where
          entries : exp_of n t.0 ≡ monomial_in n (square_of j).e → (square_of j).e ≡ t.0.e
          entries q = ext_get_or 0 (square_of j).e t.0.e (square_long j (omega arith) ∙ sym l.0) λ i' b. elim (below_or_past i' n) [
            | inl g ↦ sym ((exps_are n).at_make (λ k. get_or (square_of j).e k 0) i' g) ∙ ap (λ z. (exps n).at z i') (sym q) ∙ at-exp_of n t.0 i' g
            | inr g ↦ square-in n j lt i' g ∙ sym (i.0 i' g)
          ]

          left : (x y : Bool) → x ≡ true → (x || y) ≡ true
          left true y e = refl
          left false y e = absurd (true≢false (sym e))

          right : (x y : Bool) → y ≡ true → (x || y) ≡ true
          right true y e = refl
          right false y e = e

          step : (b : Bool) → same (exps n) (exp_of n t.0) (monomial_in n (square_of j).e) ≡ b
              → (list_any (λ u. same (exps n) u.0 (monomial_in n (square_of j).e)) (poly_of n (value_in a) ts) ≡ true → is_one_of (monomials_in ts) (square_of j) ≡ true) → (b || list_any (λ u. same (exps n) u.0 (monomial_in n (square_of j).e)) (poly_of n (value_in a) ts)) ≡ true
              → is_one_of (monomials_in (t ∷ ts)) (square_of j) ≡ true
          step true q rest k =
              left (bytes_eq (square_of j).e t.0.e) (is_one_of (monomials_in ts) (square_of j))
              ((bytes_decides (square_of j).e t.0.e).1 (entries (ExpLaws.same-eq (exps n) (exps_are n) (exp_of n t.0) (monomial_in n (square_of j).e) q)))
          step false q rest k = right (bytes_eq (square_of j).e t.0.e) (is_one_of (monomials_in ts) (square_of j)) (rest k)

      square_there : (j : ℕ) → j < n → coefficient_in n r p (monomial_in n (pair_exponents n j j)) ≢ r.zero → is_one_of (monomials_in f.terms) (square_of j) ≡ true
      square_there j lt unit = by_any (list_any (λ u. same (exps n) u.0 (monomial_in n (square_of j).e)) (poly_of n (value_in a) f.terms)) refl
        where
          by_any : (b : Bool) → list_any (λ u. same (exps n) u.0 (monomial_in n (square_of j).e)) (poly_of n (value_in a) f.terms) ≡ b → is_one_of (monomials_in f.terms) (square_of j) ≡ true
          by_any true q = there j lt f.terms (recursion_from_All (λ t. IsIn n t.0.e) f.terms inside) (recursion_from_All (λ t. length t.0.e ≡ 8) f.terms listed.long) q
          by_any false q =
              absurd (unit (ap (coefficient_in n r p) (sym (square_is n j few lt)) ∙ ap (λ z. coefficient_in n r z (monomial_in n (square_of j).e)) (sym is.polynomial)
              ∙ Terms.nothing_there n r laws.ring (poly_of n (value_in a) f.terms) (monomial_in n (square_of j).e) q))

      all_there : (is : List ℕ) → Each (λ i. i < n - c) is → AllByRecursion (λ v. v ≢ r.zero) (map (λ i. coefficient_in n r p (monomial_in n (pair_exponents n (c + i) (c + i)))) is)
          → list_all (λ i. is_one_of (monomials_in f.terms) (square_of (c + i))) is ≡ true
      all_there [] b u = refl
      all_there (i ∷ is) b u =
          and_both (is_one_of (monomials_in f.terms) (square_of (c + i))) (list_all (λ i. is_one_of (monomials_in f.terms) (square_of (c + i))) is)
          (square_there (c + i) (let lt = b.0 in omega arith) u.0) (all_there is b.1 u.1)

      -- the jet passes the test of a split one
      pub split_test : is_split n c f.terms ≡ true
      unfolding is_split
      split_test =
          and_both (list_all (λ m. is_residual c m || is_square c m) (monomials_in f.terms)) (list_all (λ i. is_one_of (monomials_in f.terms) (square_of i)) (square_variables n c))
          (each_test f.terms (recursion_from_All (λ t. IsIn n t.0.e) f.terms inside) (recursion_from_All (λ t. sum t.0.e ≤ o) f.terms low) (recursion_from_All (λ t. value_in a t.1 ≢ r.zero) f.terms is.jet.units) own)
          (by_numbers (λ i. is_one_of (monomials_in f.terms) (square_of i)) n c ∙ all_there (numbers_below (n - c)) (numbers_are_below (n - c)) squares)

      -- ---- the residual part

      -- the residual terms are a jet in the residual variables
      pub residual_is_jet : IsJet (algebra_meaning a) (residual_jet c f)
      unfolding residual_terms
      residual_is_jet = record {
        variables = kept-all (λ (t : Exp × Ext Frac). is_residual c t.0) (λ t. IsIn n t.0.e) (λ t. IsIn c t.0.e) (λ t h e. residual_in c t.0 e) f.terms inside;
        degrees = kept-all (λ (t : Exp × Ext Frac). is_residual c t.0) (λ t. sum t.0.e ≤ f.order) (λ t. sum t.0.e ≤ f.order) (λ t h e. h) f.terms is.jet.degrees;
        elems = kept-all (λ (t : Exp × Ext Frac). is_residual c t.0) (λ t. (algebra_meaning a).is_elem t.1) (λ t. (algebra_meaning a).is_elem t.1) (λ t h e. h) f.terms is.jet.elems;
        units = kept-all (λ (t : Exp × Ext Frac). is_residual c t.0) (λ t. value_in a t.1 ≢ r.zero) (λ t. value_in a t.1 ≢ r.zero) (λ t h e. h) f.terms is.jet.units;
      }

      residual_rises : IsRising (residual_jet c f).terms
      unfolding residual_terms
      residual_rises = kept-rising (λ (t : Exp × Ext Frac). is_residual c t.0) f.terms listed.rising

      -- the jet is split, with these residual terms
      pub is_split_by : IsSplit (exps n) (exps c) r p (residual_part c a f.terms)
      is_split_by = subst (λ q. IsSplit (exps n) (exps c) r q (residual_part c a f.terms)) (terms_in-poly_of n a f.terms ∙ is.polynomial) (is_split-is n c within a laws.ring f.terms all_in split_test)

      -- its residual part is the jet of these
      pub residual_is : poly_of c (value_in a) (residual_jet c f).terms ≡ residual n (scalars a) c o p
      unfolding residual residual_part terms_in
      residual_is =
          let q = poly_of c (value_in a) (residual_jet c f).terms in
          let plan = Laws.forms_are_split a n c o within p own_cut split in
          one_list (exps c) (exps_are c) r laws.ring (stands_before c) (is_order c) q (residual n (scalars a) c o p)
          (OneJet.rising_in (algebra_meaning a) laws.ring c (residual_jet c f).terms residual_is_jet.variables residual_rises)
          (Canonical.jet_rising c (scalars a) laws o _)
          (OneJet.no_zero_in (algebra_meaning a) laws.ring c (residual_jet c f).terms residual_is_jet.units)
          (Canonical.jet_has_no_zero c (scalars a) laws o _)
          (λ b. is_split_by.residual b ∙ sym (plan.residual b))
        where
          all_low : (ts : List (Exp × Ext Frac)) → AllByRecursion (λ t. IsIn n t.0.e) ts → AllByRecursion (λ t. sum t.0.e ≤ o) ts → Canonical.HasDegreeTo n (scalars a) laws o (poly_of n (value_in a) ts)
          all_low [] i l = tt
          all_low (t ∷ ts) i l = ((let d = degree-exp_of n t.0 i.0 in let k = l.0 in omega arith), all_low ts i.1 l.1)

          own_cut : SameIn n r (cut_in n r o p) p
          own_cut =
              subst (λ z. SameIn n r (cut_in n r o z) z) is.polynomial
              (λ m. ap (λ z. coefficient_in n r z m) (cut_low (poly_of n (value_in a) f.terms) (all_low f.terms (recursion_from_All (λ t. IsIn n t.0.e) f.terms inside) (recursion_from_All (λ t. sum t.0.e ≤ o) f.terms low))))
            where
              cut_low : (g : Polynomial n (Value a)) → Canonical.HasDegreeTo n (scalars a) laws o g → cut_in n r o g ≡ g
              cut_low [] h = refl
              cut_low (t ∷ g) h = ap (λ b. cond b (t ∷ cut_in n r o g) (cut_in n r o g)) (le-leb (degree (exps n) t.0) o h.0) ∙ ap (λ z. t ∷ z) (cut_low g h.1)
