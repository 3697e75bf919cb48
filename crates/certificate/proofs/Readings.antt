-- A jet of a report and its polynomial: the coefficients of a form, those of the squares, and which jets are forms of a family.
use Rattle.std.proofs.Common.{true≢false, cond, eqb, eqb-true, eq-eqb, ◌≡◌, ◌≢◌, ℕ, zero, suc, ◌+◌, ◌-◌, ◌<◌, ◌≤◌, ◌⊎◌, inl, inr, Bool, true, false, ◌&&◌, ◌||◌, List, [], ◌∷◌, ◌++◌, map, length, get_or, sum, refl, sym, ap, ap₂, subst, ◌∙◌, arith}
use Rattle.std.specs.List.{All, AllByRecursion, list_all, list_any}
use Rattle.std.specs.Prelude.{◌==◌, drop, replicate, not, nat_le}
use Rattle.cert_text.specs.declared.report.Carried.{Carried}
use Rattle.cert_text.specs.WellFormed.{is_monomial_in, is_term_of, is_zero_element, IsWellFormedCarried}
use Rattle.report_jet.proofs.ReportJets.{monomial_inside}
use Rattle.std.specs.Str.{bytes_eq}
use Rattle.std.proofs.lemmas.List.{ext_get_or, length-map, get_or-map}
use Rattle.std.proofs.lemmas.List.Folds.{list_any-append, list_all-append}
use Rattle.std.proofs.lemmas.List.Elements.{recursion_from_All}
use Rattle.std.proofs.lemmas.Slice.Eq.{bytes_eq-Decides}
use Rattle.report_law.proofs.Splitting.{and_both}
use Rattle.line_syntax.proofs.Bools.{and_left, and_right, or_left, or_right, or_other}
use Rattle.ring_theory.specs.Ring.{IsCommRing}
use Rattle.ring_theory.specs.Scalars.{Scalars}
use Rattle.ring_law.specs.declared.fraction.Frac.{Frac}
use Rattle.ext_algebra.specs.declared.algebra.Algebra.{Algebra}
use Rattle.ext_algebra.specs.declared.algebra.Ext.{Ext}
use Rattle.ext_algebra.specs.Algebra.{Value, ops, scalars, value_in, is_element, algebra_meaning}
use Rattle.ext_algebra.specs.AlgebraLaws.{algebra_scalar_laws}
use Rattle.poly_law.specs.ExpList.{exps}
use Rattle.poly_law.specs.Poly.{coefficient}
use Rattle.poly_law.proofs.ExpLists.{exps_are}
use Rattle.poly_law.proofs.ExpLaws
use Rattle.poly_law.proofs.Sums
use Rattle.poly_law.specs.Polynomials.{coefficient_in}
use Rattle.mono_exp.specs.declared.exponent.Exp.{Exp}
use Rattle.mono_exp.specs.Exponents.{IsIn, numbers_below}
use Rattle.mono_exp.proofs.Lists.{sum-cons, map-map, map-same, Each, numbers_are_below, length-numbers_below, get_or-numbers_below}
use Rattle.jet_law.specs.Canonical.{monomial_in}
use Rattle.jet_law.specs.Terms.{exp_of, poly_of}
use Rattle.jet_poly.proofs.Coefficients
use Rattle.normal_forms.specs.declared.family.Family.{Family}
use Rattle.normal_forms.specs.Monomials.{in_eight, is_one_of, is_residual, is_square, is_split, monomials_in, residual_terms, square_of, square_variables}
use Rattle.normal_forms.specs.Families.{is_family, corank_of, sum_of, kind_of}
use Rattle.normal_forms.specs.Forms.{IsFormOf}
use Rattle.normal_forms.specs.Units.{unit_values, unit_heights}
use Rattle.normal_forms.specs.Coefficients.{coefficients_in_sum, coefficients_of_squares, unit_values_in, unit_heights_in}
use Rattle.jet_law.specs.Heights.{IsHigh}
use Rattle.lin_row.specs.Plain.{Among}
use Rattle.move_law.specs.Work as work
use Rattle.move_law.specs.Work.{IsWorkHigh}
use Rattle.normal_forms.proofs.Sums.{sum_long, sum_is_read}
use Rattle.normal_forms.proofs.Residual.{in_residual, residual_in}
use Rattle.normal_forms.proofs.FormTerms.{square_at, square_is_square}
use Rattle.normal_forms.proofs.Padded.{exp_of-in_eight, in_eight-in, square-in, length-in_eight, get_or-in_eight}
use Rattle.coord_change.specs.Moves.{at}
use Rattle.move_law.specs.Moves.{pair_exponents}
use Rattle.move_law.specs.Finish.{units_of, allowed, is_form, is_read, reading_work}
use Rattle.certificate.specs.Readings.{is_read_as, units_in}
use Rattle.jet_law.proofs.TermLemmas.{at-exp_of}
use Rattle.report_law.specs.Polynomials.{terms_in}
use Rattle.report_law.specs.Items.{jet_of}

-- two tests that hold together
same_bool : (a b : Bool) → (a ≡ true → b ≡ true) → (b ≡ true → a ≡ true) → a ≡ b
same_bool true true f g = refl
same_bool true false f g = sym (f refl)
same_bool false true f g = g refl
same_bool false false f g = refl

-- of two tests neither of which holds
or_none_left : (a b : Bool) → (a || b) ≡ false → a ≡ false
or_none_left true b h = h
or_none_left false b h = refl

or_none_right : (a b : Bool) → (a || b) ≡ false → b ≡ false
or_none_right true b h = absurd (true≢false h)
or_none_right false b h = h

-- a test of the residual terms, beside one of all terms
regrouped : (b z i x y : Bool) → ((b && (not z || i)) && (x && y)) ≡ ((b && x) && cond z (i && y) y)
regrouped true true true x y = refl
regrouped true true false true y = refl
regrouped true true false false y = refl
regrouped true false i x y = refl
regrouped false z i x y = refl

kept_or_not : {E : Type 0} (p : Exp → Bool) (z : Bool) (t : Exp × E) (ts : List (Exp × E)) → list_all p (monomials_in (cond z (t ∷ ts) ts)) ≡ cond z (p t.0 && list_all p (monomials_in ts)) (list_all p (monomials_in ts))
kept_or_not p true t ts = refl
kept_or_not p false t ts = refl

-- a number is below another, or not
below_or_not : (i n : ℕ) → (i < n) ⊎ (n ≤ i)
below_or_not i n = grind arith

-- ---- coefficients

-- the square of variable j has no other variable
square_zero_at : (j i : ℕ) → i < 8 → (i ≡ j → ⊥) → get_or (square_of j).e i 0 ≡ 0
square_zero_at j i h apart = get_or-in_eight (replicate j 0 ++ 2 ∷ []) i h ∙ go j i apart
  where
    go : (j i : ℕ) → (i ≡ j → ⊥) → get_or (replicate {A = ℕ} j 0 ++ 2 ∷ []) i 0 ≡ 0
    go zero zero apart = absurd (apart refl)
    go zero (suc i) apart = refl
    go (suc j) zero apart = refl
    go (suc j) (suc i) apart = go j i (λ e. apart (ap suc e))

-- its exponents in n variables, as a product of two variables
square_is : (n j : ℕ) → n ≤ 8 → j < n → monomial_in n (pair_exponents n j j) ≡ exp_of n (square_of j)
square_is n j few h = (exps_are n).same_at (monomial_in n (pair_exponents n j j)) (exp_of n (square_of j)) λ i g.
    (exps_are n).at_make (λ k. get_or (pair_exponents n j j) k 0) i g
    ∙ get_or-map (λ k. cond (eqb j j) (cond (eqb k j) 2 0) (cond (eqb k j || eqb k j) 1 0)) (numbers_below n) i 0 0 (let l = length-numbers_below n in omega arith)
    ∙ ap (λ k. cond (eqb j j) (cond (eqb k j) 2 0) (cond (eqb k j || eqb k j) 1 0)) (get_or-numbers_below n i 0 g)
    ∙ ap (λ b. cond b (cond (eqb i j) 2 0) (cond (eqb i j || eqb i j) 1 0)) (eq-eqb j j refl)
    ∙ sym (at-exp_of n (square_of j) i g ∙ step i (eqb i j) refl (omega arith))
  where
    step : (i : ℕ) (b : Bool) → eqb i j ≡ b → i < 8 → get_or (square_of j).e i 0 ≡ cond b 2 0
    step i true q l = ap (λ k. get_or (square_of j).e k 0) (eqb-true i j q) ∙ square_at j (omega arith)
    step i false q l = square_zero_at j i l (λ e. true≢false (sym (eq-eqb i j e) ∙ q))

module _ (a : Algebra) (n : ℕ) (few : n ≤ 8) (terms : List (Exp × Ext Frac)) (inside : All (λ t. IsIn n t.0.e) terms) where
  laws : IsCommRing (ops a)
  laws = (algebra_scalar_laws a).ring

  in_eight_variables : AllByRecursion (λ t. IsIn 8 t.0.e) terms
  in_eight_variables = recursion_from_All (λ t. IsIn 8 t.0.e) terms (λ i t h. Coefficients.in-eight n (get_or terms i t).0.e few (inside i t h))

  -- the coefficient at a monomial of eight exponents
  abbrev read_in : Exp → Value a
  read_in m = coefficient (exps 8) (ops a) (poly_of 8 (value_in a) terms) (exp_of 8 m)

  -- the coefficient at a monomial in n variables
  read_at : (e : List ℕ) → length e ≤ n → at n (scalars a) (terms_in n a terms) e ≡ read_in (in_eight e)
  unfolding terms_in
  read_at e short =
      ap (coefficient_in n (ops a) (poly_of n (value_in a) terms)) (sym (exp_of-in_eight n e few))
      ∙ sym (Coefficients.coefficient-in (ops a) laws (value_in a) (in_eight e) n terms few inside (in_eight-in n e short))

  short_sums : (c : ℕ) (es : List (List ℕ)) → c ≤ n → list_all (λ e. length e == c) es ≡ true → Each (λ e. length e ≤ n) es
  short_sums c [] h t = tt
  short_sums c (e ∷ es) h t = (let l = eqb-true (length e) c (and_left (length e == c) (list_all (λ e. length e == c) es) t) in omega arith, short_sums c es h (and_right (length e == c) (list_all (λ e. length e == c) es) t))

  -- the coefficients of a family's sum are those of the residual part
  pub coefficients_are : (family : Family) → corank_of family ≤ n → map (at n (scalars a) (terms_in n a terms)) (sum_of family) ≡ coefficients_in_sum (algebra_meaning a) family (corank_of family) terms
  coefficients_are family within =
      map-same (λ e. length e ≤ n) (at n (scalars a) (terms_in n a terms)) (λ e. read_in (in_eight e)) read_at (sum_of family) (short_sums (corank_of family) (sum_of family) within (sum_long family))
      ∙ sym (map-map read_in in_eight (sum_of family))
      ∙ sum_is_read (algebra_meaning a) laws terms in_eight_variables family

  -- the coefficients of the squares
  pub squares_are : (c : ℕ) → c ≤ n → map (λ i. at n (scalars a) (terms_in n a terms) (pair_exponents n (c + i) (c + i))) (numbers_below (n - c)) ≡ coefficients_of_squares (algebra_meaning a) n c terms
  unfolding terms_in
  squares_are c within =
      map-same (λ i. i < n - c) (λ i. at n (scalars a) (terms_in n a terms) (pair_exponents n (c + i) (c + i))) (λ i. coefficient_in n (ops a) (poly_of n (value_in a) terms) (exp_of n (square_of (c + i))))
      (λ i h. ap (coefficient_in n (ops a) (poly_of n (value_in a) terms)) (square_is n (c + i) few (omega arith))) (numbers_below (n - c)) (numbers_are_below (n - c))
      ∙ sym (map-map (λ j. coefficient_in n (ops a) (poly_of n (value_in a) terms) (exp_of n (square_of j))) (λ i. c + i) (numbers_below (n - c)))

  -- the unit values of a form
  pub units_are : (family : Family) (c o : ℕ) → c ≡ corank_of family → c ≤ n → units_of n (scalars a) o c family (terms_in n a terms) ≡ unit_values_in (algebra_meaning a) family n c terms
  units_are family c o e within = ap₂ (λ xs ys. unit_values (scalars a) (kind_of family) xs ++ ys)
      (coefficients_are family (subst (λ k. k ≤ n) e within) ∙ ap (λ k. coefficients_in_sum (algebra_meaning a) family k terms) (sym e)) (squares_are c within)

-- an exponent 2 past the first c
two_past : (c : ℕ) (m : List ℕ) → list_any (λ e. e == 2) (drop c m) ≡ true → (w : ℕ) × (c ≤ w) × (get_or m w 0 ≡ 2)
two_past zero [] e = absurd (true≢false (sym e))
two_past (suc c) [] e = absurd (true≢false (sym e))
two_past zero (z ∷ zs) e = step (two_past zero zs) (z == 2) refl
  where
    step : (list_any (λ e. e == 2) (drop 0 zs) ≡ true → (w : ℕ) × (0 ≤ w) × (get_or zs w 0 ≡ 2)) → (b : Bool) → (z == 2) ≡ b → (w : ℕ) × (0 ≤ w) × (get_or (z ∷ zs) w 0 ≡ 2)
    step later true k = (0, omega arith, eqb-true z 2 k)
    step later false k = let rest = later (or_other (z == 2) (list_any (λ e. e == 2) zs) e k) in (suc rest.0, omega arith, rest.2)
two_past (suc c) (z ∷ zs) e = let rest = two_past c zs e in (suc rest.0, let h = rest.1 in omega arith, rest.2)

entry_within : (m : List ℕ) (i : ℕ) → get_or m i 0 ≤ sum m
entry_within [] i = omega arith
entry_within (z ∷ zs) zero = let t = sum-cons z zs in omega (arith, t)
entry_within (z ∷ zs) (suc i) = let h = entry_within zs i in let t = sum-cons z zs in omega (arith, h, t)

-- two exponents at different places
two_within : (m : List ℕ) (i w : ℕ) → (i ≡ w → ⊥) → get_or m i 0 + get_or m w 0 ≤ sum m
two_within [] i w apart = omega arith
two_within (z ∷ zs) zero zero apart = absurd (apart refl)
two_within (z ∷ zs) zero (suc w) apart = let h = entry_within zs w in let t = sum-cons z zs in omega (arith, h, t)
two_within (z ∷ zs) (suc i) zero apart = let h = entry_within zs i in let t = sum-cons z zs in omega (arith, h, t)
two_within (z ∷ zs) (suc i) (suc w) apart = let h = two_within zs i w (λ e. apart (ap suc e)) in let t = sum-cons z zs in omega (arith, h, t)

-- ---- which monomials a form may have

-- lists of exponents in n variables, both 0 past the n-th place, are equal where they are equal up to it
same_up_to : (n : ℕ) (d e : List ℕ) → length d ≡ length e → IsIn n d → IsIn n e → ((i : ℕ) → i < n → get_or d i 0 ≡ get_or e i 0) → d ≡ e
same_up_to n d e l id ie h = ext_get_or 0 d e l (λ i g. elim (below_or_not i n) [ inl b ↦ h i b | inr p ↦ id i p ∙ sym (ie i p) ])

-- the exponents of a monomial in n variables, as a list of n, are those of another one exactly where it is that one
listed_as_one : (n : ℕ) (m u : Exp) (es : List ℕ) → n ≤ 8 → IsIn n m.e → IsIn n u.e → length m.e ≡ 8 → length u.e ≡ 8 → length es ≡ n → ((i : ℕ) → i < n → get_or es i 0 ≡ get_or u.e i 0)
    → bytes_eq (monomial_in n m.e).entries es ≡ bytes_eq m.e u.e
listed_as_one n m u es few im iu lm lu long at_es = same_bool (bytes_eq (monomial_in n m.e).entries es) (bytes_eq m.e u.e)
    (λ t.
    let e : (monomial_in n m.e).entries ≡ es = (bytes_eq-Decides (monomial_in n m.e).entries es).0 t in
    (bytes_eq-Decides m.e u.e).1 (same_up_to n m.e u.e (lm ∙ sym lu) im iu (λ i h. sym ((exps_are n).at_make (λ k. get_or m.e k 0) i h) ∙ ap (λ xs. get_or xs i 0) e ∙ at_es i h)))
    (λ t.
    let e : m.e ≡ u.e = (bytes_eq-Decides m.e u.e).0 t in
    (bytes_eq-Decides (monomial_in n m.e).entries es).1 (ext_get_or 0 (monomial_in n m.e).entries es ((monomial_in n m.e).long ∙ sym long)
    (λ i h. (let g : i < n = let l = (monomial_in n m.e).long in omega arith in (exps_are n).at_make (λ k. get_or m.e k 0) i g ∙ ap (λ xs. get_or xs i 0) e ∙ sym (at_es i g)))))

module _ (n c : ℕ) (few : n ≤ 8) (within : c ≤ n) (m : Exp) (long : length m.e ≡ 8) (inside : IsIn n m.e) where
  -- a monomial with these exponents
  same_power : (e : List ℕ) → length e ≤ n → bytes_eq (monomial_in n m.e).entries (map (λ i. get_or e i 0) (numbers_below n)) ≡ bytes_eq m.e (in_eight e).e
  same_power e short =
      listed_as_one n m (in_eight e) (map (λ i. get_or e i 0) (numbers_below n)) few inside (in_eight-in n e short) long (length-in_eight e)
      (length-map (numbers_below n) (λ i. get_or e i 0) ∙ length-numbers_below n)
      (λ i h. get_or-map (λ i. get_or e i 0) (numbers_below n) i 0 0 (let l = length-numbers_below n in omega arith) ∙ ap (λ k. get_or e k 0) (get_or-numbers_below n i 0 h) ∙ sym (get_or-in_eight e i (omega arith)))

  -- the square of a variable
  same_square : (j : ℕ) → j < n → bytes_eq (monomial_in n m.e).entries (pair_exponents n j j) ≡ bytes_eq m.e (square_of j).e
  same_square j h =
      listed_as_one n m (square_of j) (pair_exponents n j j) few inside (square-in n j h) long (length-in_eight (replicate j 0 ++ 2 ∷ []))
      (length-map (numbers_below n) (λ k. cond (eqb j j) (cond (eqb k j) 2 0) (cond (eqb k j || eqb k j) 1 0)) ∙ length-numbers_below n)
      (λ i g. sym ((exps_are n).at_make (λ k. get_or (pair_exponents n j j) k 0) i g) ∙ ap (λ z. (exps n).at z i) (square_is n j few h) ∙ at-exp_of n (square_of j) i g)

  -- one of several monomials
  any_power : (k : ℕ) (es : List (List ℕ)) → k ≤ n → list_all (λ e. length e == k) es ≡ true
      → list_any (bytes_eq (monomial_in n m.e).entries) (map (λ e. map (λ i. get_or e i 0) (numbers_below n)) es) ≡ is_one_of (map in_eight es) m
  any_power k [] h t = refl
  any_power k (e ∷ es) h t =
      ap₂ (λ x y. x || y) (same_power e (let l = eqb-true (length e) k (and_left (length e == k) (list_all (λ e. length e == k) es) t) in omega arith))
      (any_power k es h (and_right (length e == k) (list_all (λ e. length e == k) es) t))

  -- one of the squares of the variables with these numbers
  any_square : (is : List ℕ) → Each (λ i. i < n - c) is
      → list_any (bytes_eq (monomial_in n m.e).entries) (map (λ i. pair_exponents n (c + i) (c + i)) is) ≡ list_any (λ i. bytes_eq m.e (square_of (c + i)).e) is
  any_square [] each = refl
  any_square (i ∷ is) each = ap₂ (λ x y. x || y) (same_square (c + i) (let h = each.0 in omega arith)) (any_square is each.1)

  -- a square variable whose square the monomial is
  squares_there : (is : List ℕ) → Each (λ i. i < n - c) is → list_any (λ i. bytes_eq m.e (square_of (c + i)).e) is ≡ true → is_square c m ≡ true
  squares_there [] each t = absurd (true≢false (sym t))
  squares_there (i ∷ is) each t = step (squares_there is each.1) (bytes_eq m.e (square_of (c + i)).e) refl
    where
      step : (list_any (λ i. bytes_eq m.e (square_of (c + i)).e) is ≡ true → is_square c m ≡ true) → (b : Bool) → bytes_eq m.e (square_of (c + i)).e ≡ b → is_square c m ≡ true
      step later true q = ap (λ xs. is_square c (record { e = xs })) ((bytes_eq-Decides m.e (square_of (c + i)).e).0 q) ∙ square_is_square c i (let h = each.0 in omega arith)
      step later false q = later (or_other (bytes_eq m.e (square_of (c + i)).e) (list_any (λ i. bytes_eq m.e (square_of (c + i)).e) is) t q)

  -- a monomial with exponent 2 at variable w, and of degree 2, is its square
  square_from : (w : ℕ) → w < 8 → get_or m.e w 0 ≡ 2 → sum m.e ≡ 2 → m.e ≡ (square_of w).e
  square_from w l two total = ext_get_or 0 m.e (square_of w).e (long ∙ sym (length-in_eight (replicate w 0 ++ 2 ∷ []))) λ i h. step i (eqb i w) refl (omega arith)
    where
      step : (i : ℕ) (b : Bool) → eqb i w ≡ b → i < 8 → get_or m.e i 0 ≡ get_or (square_of w).e i 0
      step i true q g = ap (λ k. get_or m.e k 0) (eqb-true i w q) ∙ two ∙ sym (ap (λ k. get_or (square_of w).e k 0) (eqb-true i w q) ∙ square_at w l)
      step i false q g =
          let apart : i ≡ w → ⊥ = λ e. true≢false (sym (eq-eqb i w e) ∙ q) in
          let both = two_within m.e i w apart in
          let none : get_or m.e i 0 ≡ 0 = omega arith in
          none ∙ sym (square_zero_at w i g apart)

  number_there : (i k : ℕ) (p : ℕ → Bool) → i < k → p i ≡ true → list_any p (numbers_below k) ≡ true
  number_there i zero p h t = absurd (omega arith)
  number_there i (suc k) p h t = list_any-append p (numbers_below k) (k ∷ []) ∙ step (λ l. number_there i k p l t) (last_or_before i k h)
    where
      last_or_before : (i k : ℕ) → i < suc k → (i < k) ⊎ (i ≡ k)
      last_or_before i k h = grind arith

      step : (i < k → list_any p (numbers_below k) ≡ true) → (i < k) ⊎ (i ≡ k) → (list_any p (numbers_below k) || list_any p (k ∷ [])) ≡ true
      step before (inl l) = or_left (list_any p (numbers_below k)) (list_any p (k ∷ [])) (before l)
      step before (inr e) = or_right (list_any p (numbers_below k)) (list_any p (k ∷ [])) (or_left (p k) false (ap p (sym e) ∙ t))

  squares_found : is_square c m ≡ true → list_any (λ i. bytes_eq m.e (square_of (c + i)).e) (numbers_below (n - c)) ≡ true
  squares_found t =
      let total : sum m.e ≡ 2 = eqb-true (sum m.e) 2 (and_left (sum m.e == 2) (list_any (λ e. e == 2) (drop c m.e)) t) in
      let found = two_past c m.e (and_right (sum m.e == 2) (list_any (λ e. e == 2) (drop c m.e)) t) in
      let w = found.0 in
      let two : get_or m.e w 0 ≡ 2 = found.2 in
      let low : c ≤ w = found.1 in
      let below : w < n = elim (below_or_not w n) [ inl g ↦ g | inr g ↦ let z = inside w g in absurd (omega arith) ] in
      let e : c + (w - c) ≡ w = omega arith in
      number_there (w - c) (n - c) (λ i. bytes_eq m.e (square_of (c + i)).e) (omega arith)
      ((bytes_eq-Decides m.e (square_of (c + (w - c))).e).1 (square_from w (omega arith) two total ∙ ap (λ j. (square_of j).e) (sym e)))

  -- one of the squares of the square variables is a square, and the other way round
  square_among : list_any (λ i. bytes_eq m.e (square_of (c + i)).e) (numbers_below (n - c)) ≡ is_square c m
  square_among = same_bool (list_any (λ i. bytes_eq m.e (square_of (c + i)).e) (numbers_below (n - c))) (is_square c m) (squares_there (numbers_below (n - c)) (numbers_are_below (n - c))) squares_found

  -- the monomials of a form: those of the family's sum, and the squares
  pub allowed_is : {V : Type 0} (s : Scalars V) (o : ℕ) (family : Family) → c ≡ corank_of family → list_any (bytes_eq (monomial_in n m.e).entries) (allowed n s o c family) ≡ (is_one_of (map in_eight (sum_of family)) m || is_square c m)
  allowed_is s o family e =
      list_any-append (bytes_eq (monomial_in n m.e).entries) (map (λ e. map (λ i. get_or e i 0) (numbers_below n)) (sum_of family)) (map (λ i. pair_exponents n (c + i) (c + i)) (numbers_below (n - c)))
      ∙ ap₂ (λ x y. x || y) (any_power (corank_of family) (sum_of family) (omega arith) (sum_long family)) (any_square (numbers_below (n - c)) (numbers_are_below (n - c)) ∙ square_among)

-- ---- which jets are forms

-- a monomial of a report has eight exponents
long_in : (n : ℕ) (m : Exp) → is_monomial_in n m ≡ true → length m.e ≡ 8
long_in n m h = eqb-true (length m.e) 8 (and_left (length m.e == 8) (list_all (λ e. e == 0) (drop n m.e)) h)

module _ (a : Algebra) (n c : ℕ) (few : n ≤ 8) (within : c ≤ n) where
  -- a term that is allowed in a form of the family
  abbrev is_allowed : Family → Exp × Ext Frac → Bool
  is_allowed family t = is_one_of (map in_eight (sum_of family)) t.0 || is_square c t.0

  -- the terms of a polynomial are allowed where those of the jet are
  terms_allowed : (o : ℕ) (family : Family) → c ≡ corank_of family → (terms : List (Exp × Ext Frac)) → list_all (λ t. is_monomial_in n t.0) terms ≡ true
      → list_all (λ t. list_any (bytes_eq t.0.entries) (allowed n (scalars a) o c family)) (terms_in n a terms) ≡ list_all (is_allowed family) terms
  unfolding terms_in
  terms_allowed o family e [] h = refl
  terms_allowed o family e (t ∷ ts) h =
      let one = and_left (is_monomial_in n t.0) (list_all (λ t. is_monomial_in n t.0) ts) h in
      ap₂ (λ x y. x && y) (allowed_is n c few within t.0 (long_in n t.0 one) (monomial_inside n t.0 one) (scalars a) o family e)
      (terms_allowed o family e ts (and_right (is_monomial_in n t.0) (list_all (λ t. is_monomial_in n t.0) ts) h))

  -- a monomial of the family's sum is residual
  sum_residual : (k : ℕ) (es : List (List ℕ)) (m : Exp) → k ≤ c → list_all (λ e. length e == k) es ≡ true → is_one_of (map in_eight es) m ≡ true → is_residual c m ≡ true
  sum_residual k [] m h long t = absurd (true≢false (sym t))
  sum_residual k (e ∷ es) m h long t = step (sum_residual k es m h (and_right (length e == k) (list_all (λ e. length e == k) es) long)) (bytes_eq m.e (in_eight e).e) refl
    where
      step : (is_one_of (map in_eight es) m ≡ true → is_residual c m ≡ true) → (b : Bool) → bytes_eq m.e (in_eight e).e ≡ b → is_residual c m ≡ true
      step later true q = in_residual c m (subst (IsIn c) (sym ((bytes_eq-Decides m.e (in_eight e).e).0 q)) (in_eight-in c e (let l = eqb-true (length e) k (and_left (length e == k) (list_all (λ e. length e == k) es) long) in omega arith)))
      step later false q = later (or_other (bytes_eq m.e (in_eight e).e) (is_one_of (map in_eight es) m) t q)

  -- a square is not residual
  square_apart : (m : Exp) → is_monomial_in n m ≡ true → is_square c m ≡ true → is_residual c m ≡ false
  square_apart m h t = step (is_residual c m) refl
    where
      step : (b : Bool) → is_residual c m ≡ b → is_residual c m ≡ false
      step true q =
          let found = two_past c m.e (and_right (sum m.e == 2) (list_any (λ e. e == 2) (drop c m.e)) t) in
          let two = found.2 in
          let z = residual_in c m q found.0 found.1 in
          absurd (omega arith)
      step false q = q

  -- an allowed term is residual or a square, and where it is residual it is in the family's sum; and the other way round
  allowed_as : (family : Family) → c ≡ corank_of family → (m : Exp) → is_monomial_in n m ≡ true
      → (is_one_of (map in_eight (sum_of family)) m || is_square c m) ≡ ((is_residual c m || is_square c m) && (not (is_residual c m) || is_one_of (map in_eight (sum_of family)) m))
  allowed_as family e m h = step (is_one_of (map in_eight (sum_of family)) m) (is_residual c m) (is_square c m) refl refl refl
    where
      step : (i r q : Bool) → is_one_of (map in_eight (sum_of family)) m ≡ i → is_residual c m ≡ r → is_square c m ≡ q → (i || q) ≡ ((r || q) && (not r || i))
      step true true q ei er eq = refl
      step true false q ei er eq = absurd (true≢false (sym (sum_residual (corank_of family) (sum_of family) m (omega arith) (sum_long family) ei) ∙ er))
      step false true true ei er eq = absurd (true≢false (sym er ∙ square_apart m h eq))
      step false true false ei er eq = refl
      step false false true ei er eq = refl
      step false false false ei er eq = refl

  -- the terms of a jet that are allowed: the jet is split but for missing squares, and its residual part has monomials of the sum alone
  allowed_all : (family : Family) → c ≡ corank_of family → (terms : List (Exp × Ext Frac)) → list_all (λ t. is_monomial_in n t.0) terms ≡ true
      → list_all (is_allowed family) terms
      ≡ (list_all (λ m. is_residual c m || is_square c m) (monomials_in terms) && list_all (is_one_of (map in_eight (sum_of family))) (monomials_in (residual_terms c terms)))
  unfolding residual_terms
  allowed_all family e [] h = refl
  allowed_all family e (t ∷ ts) h =
      ap₂ (λ x y. x && y) (allowed_as family e t.0 (and_left (is_monomial_in n t.0) (list_all (λ t. is_monomial_in n t.0) ts) h))
      (allowed_all family e ts (and_right (is_monomial_in n t.0) (list_all (λ t. is_monomial_in n t.0) ts) h))
      ∙ regrouped (is_residual c t.0 || is_square c t.0) (is_residual c t.0) (is_one_of (map in_eight (sum_of family)) t.0) (list_all (λ m. is_residual c m || is_square c m) (monomials_in ts))
      (list_all (is_one_of (map in_eight (sum_of family))) (monomials_in (residual_terms c ts)))
      ∙ ap (λ y. ((is_residual c t.0 || is_square c t.0) && list_all (λ m. is_residual c m || is_square c m) (monomials_in ts)) && y)
      (sym (kept_or_not (is_one_of (map in_eight (sum_of family))) (is_residual c t.0) t (residual_terms c ts)))

  -- a monomial that is none of the jet's has coefficient 0
  none_there : (u : Exp) → length u.e ≡ 8 → IsIn n u.e → (terms : List (Exp × Ext Frac)) → list_all (λ t. is_monomial_in n t.0) terms ≡ true → is_one_of (monomials_in terms) u ≡ false
      → coefficient_in n (ops a) (poly_of n (value_in a) terms) (exp_of n u) ≡ (ops a).zero
  none_there u lu iu [] h t = refl
  none_there u lu iu (t ∷ ts) h none =
      let one = and_left (is_monomial_in n t.0) (list_all (λ t. is_monomial_in n t.0) ts) h in
      let apart : bytes_eq u.e t.0.e ≡ false = or_none_left (bytes_eq u.e t.0.e) (is_one_of (monomials_in ts) u) none in
      let differs : exp_of n t.0 ≡ exp_of n u → ⊥ = λ q. true≢false (sym ((bytes_eq-Decides u.e t.0.e).1 (same_up_to n u.e t.0.e (lu ∙ sym (long_in n t.0 one)) iu (monomial_inside n t.0 one)
      (λ i g. sym (at-exp_of n u i g) ∙ ap (λ z. (exps n).at z i) (sym q) ∙ at-exp_of n t.0 i g))) ∙ apart) in
      ap (λ b. (ops a).add (cond b (value_in a t.1) (ops a).zero) (coefficient_in n (ops a) (poly_of n (value_in a) ts) (exp_of n u))) (ExpLaws.same-no (exps n) (exps_are n) (exp_of n t.0) (exp_of n u) differs)
      ∙ Sums.zero_add (ops a) (algebra_scalar_laws a).ring (coefficient_in n (ops a) (poly_of n (value_in a) ts) (exp_of n u))
      ∙ none_there u lu iu ts (and_right (is_monomial_in n t.0) (list_all (λ t. is_monomial_in n t.0) ts) h) (or_none_right (bytes_eq u.e t.0.e) (is_one_of (monomials_in ts) u) none)

  -- ---- where the units are not 0

  -- the coefficients of the squares are not 0, so the squares are there
  squares_present : (terms : List (Exp × Ext Frac)) → list_all (λ t. is_monomial_in n t.0) terms ≡ true → (js : List ℕ) → Each (λ j. j < n) js
      → list_all (λ u. not ((scalars a).is_zero u)) (map (λ j. coefficient_in n (ops a) (poly_of n (value_in a) terms) (exp_of n (square_of j))) js) ≡ true
      → list_all (λ j. is_one_of (monomials_in terms) (square_of j)) js ≡ true
  squares_present terms h [] each units = refl
  squares_present terms h (j ∷ js) each units = and_both (is_one_of (monomials_in terms) (square_of j)) (list_all (λ j. is_one_of (monomials_in terms) (square_of j)) js)
      (step (is_one_of (monomials_in terms) (square_of j)) refl) (squares_present terms h js each.1 (and_right (not ((scalars a).is_zero (value j))) (list_all (λ u. not ((scalars a).is_zero u)) (map value js)) units))
    where
      value : ℕ → Value a
      value j = coefficient_in n (ops a) (poly_of n (value_in a) terms) (exp_of n (square_of j))

      unit : not ((scalars a).is_zero (value j)) ≡ true
      unit = and_left (not ((scalars a).is_zero (value j))) (list_all (λ u. not ((scalars a).is_zero u)) (map value js)) units

      step : (b : Bool) → is_one_of (monomials_in terms) (square_of j) ≡ b → b ≡ true
      step true q = refl
      step false q = absurd (true≢false (sym unit ∙ ap not (((algebra_scalar_laws a).zero_test (value j)).1 (none_there (square_of j) (length-in_eight (replicate j 0 ++ 2 ∷ [])) (square-in n j each.0) terms h q))))

-- ---- a carried germ

-- the monomials of a report's terms
monomials_in_report : (n o : ℕ) (a : Algebra) (terms : List (Exp × Ext Frac)) → list_all (is_term_of n o a) terms ≡ true → list_all (λ t. is_monomial_in n t.0) terms ≡ true
monomials_in_report n o a [] h = refl
monomials_in_report n o a (t ∷ ts) h =
    and_both (is_monomial_in n t.0) (list_all (λ t. is_monomial_in n t.0) ts)
    (and_left (is_monomial_in n t.0) (nat_le (sum t.0.e) o) (and_left (is_monomial_in n t.0 && nat_le (sum t.0.e) o) (is_element a t.1 && not (is_zero_element t.1)) (and_left (is_term_of n o a t) (list_all (is_term_of n o a) ts) h)))
    (monomials_in_report n o a ts (and_right (is_term_of n o a t) (list_all (is_term_of n o a) ts) h))

inside_report : (n : ℕ) (terms : List (Exp × Ext Frac)) → list_all (λ t. is_monomial_in n t.0) terms ≡ true → All (λ t. IsIn n t.0.e) terms
inside_report n [] h i t l = absurd (omega arith)
inside_report n (t ∷ ts) h zero u l = monomial_inside n t.0 (and_left (is_monomial_in n t.0) (list_all (λ t. is_monomial_in n t.0) ts) h)
inside_report n (t ∷ ts) h (suc i) u l = inside_report n ts (and_right (is_monomial_in n t.0) (list_all (λ t. is_monomial_in n t.0) ts) h) i u (omega arith)

-- split terms are residual or squares
split_terms : {E : Type 0} (n c : ℕ) (terms : List (Exp × E)) → is_split n c terms ≡ true → list_all (λ m. is_residual c m || is_square c m) (monomials_in terms) ≡ true
unfolding is_split
split_terms n c terms h = and_left (list_all (λ m. is_residual c m || is_square c m) (monomials_in terms)) (list_all (λ i. is_one_of (monomials_in terms) (square_of i)) (square_variables n c)) h

-- and terms are split where they are so and the squares are there
terms_split : {E : Type 0} (n c : ℕ) (terms : List (Exp × E)) → list_all (λ m. is_residual c m || is_square c m) (monomials_in terms) ≡ true → list_all (λ i. is_one_of (monomials_in terms) (square_of i)) (square_variables n c) ≡ true
    → is_split n c terms ≡ true
unfolding is_split
terms_split n c terms h g = and_both (list_all (λ m. is_residual c m || is_square c m) (monomials_in terms)) (list_all (λ i. is_one_of (monomials_in terms) (square_of i)) (square_variables n c)) h g

-- the square variables are below n
squares_below : (n c : ℕ) (is : List ℕ) → c ≤ n → Each (λ i. i < n - c) is → Each (λ j. j < n) (map (λ i. c + i) is)
squares_below n c [] h each = tt
squares_below n c (i ∷ is) h each = (let g = each.0 in omega arith, squares_below n c is h each.1)

module _ (family : Family) (c : Carried) (w : IsWellFormedCarried c) where
  abbrev n : ℕ
  n = length c.names

  few : n ≤ 8
  few = w.few_names

  monomials : list_all (λ t. is_monomial_in n t.0) c.jet.terms ≡ true
  monomials = monomials_in_report n c.order c.algebra c.jet.terms w.jet.terms

  inside : All (λ t. IsIn n t.0.e) c.jet.terms
  inside = inside_report n c.jet.terms monomials

  -- a family that is not in the list is not read
  pub not_family : is_family family ≡ false → is_read_as family c ≡ false
  unfolding is_read
  not_family q = ap (λ b. (b && ((c.corank == corank_of family) && list_all (λ t. list_any (bytes_eq t.0.entries) (allowed n (scalars c.algebra) c.order c.corank family)) (jet_of c)))
      && list_all (λ u. not ((scalars c.algebra).is_zero u)) (units_in family c)) q

  -- a jet that is a form has the monomials of one
  pub form_has : is_family family ≡ true → IsFormOf family n c.corank c.jet.terms → is_form n (scalars c.algebra) c.order c.corank family (jet_of c) ≡ true
  form_has q is = and_both (is_family family) ((c.corank == corank_of family) && list_all (λ t. list_any (bytes_eq t.0.entries) (allowed n (scalars c.algebra) c.order c.corank family)) (jet_of c)) q
      (and_both (c.corank == corank_of family) (list_all (λ t. list_any (bytes_eq t.0.entries) (allowed n (scalars c.algebra) c.order c.corank family)) (jet_of c))
      (eq-eqb c.corank (corank_of family) is.corank)
      (terms_allowed c.algebra n c.corank few w.corank c.order family is.corank c.jet.terms monomials ∙ allowed_all c.algebra n c.corank few w.corank family is.corank c.jet.terms monomials
      ∙ and_both (list_all (λ m. is_residual c.corank m || is_square c.corank m) (monomials_in c.jet.terms)) (list_all (is_one_of (map in_eight (sum_of family))) (monomials_in (residual_terms c.corank c.jet.terms)))
      (split_terms n c.corank c.jet.terms is.split) is.monomials))

  -- the units are those of the form
  pub units_same : c.corank ≡ corank_of family → units_in family c ≡ unit_values_in (algebra_meaning c.algebra) family n c.corank c.jet.terms
  units_same e = units_are c.algebra n few c.jet.terms inside family c.corank c.order e w.corank

  -- the tests of a jet that is read
  read_tests : is_read_as family c ≡ true → (is_form n (scalars c.algebra) c.order c.corank family (jet_of c) ≡ true) × (list_all (λ u. not ((scalars c.algebra).is_zero u)) (units_in family c) ≡ true)
  unfolding is_read
  read_tests h = (
    and_left (is_form n (scalars c.algebra) c.order c.corank family (jet_of c)) (list_all (λ u. not ((scalars c.algebra).is_zero u)) (units_in family c)) h,
    and_right (is_form n (scalars c.algebra) c.order c.corank family (jet_of c)) (list_all (λ u. not ((scalars c.algebra).is_zero u)) (units_in family c)) h,
  )

  -- and the other way round
  pub read_by : (b : Bool) → is_form n (scalars c.algebra) c.order c.corank family (jet_of c) ≡ true → b ≡ list_all (λ u. not ((scalars c.algebra).is_zero u)) (units_in family c) → is_read_as family c ≡ b
  unfolding is_read
  read_by b f u = ap (λ x. x && list_all (λ u. not ((scalars c.algebra).is_zero u)) (units_in family c)) f ∙ sym u

  abbrev allowed_terms : Bool
  allowed_terms = list_all (λ t. list_any (bytes_eq t.0.entries) (allowed n (scalars c.algebra) c.order c.corank family)) (jet_of c)

  -- a jet that is read is a form
  pub read_is_form : is_read_as family c ≡ true → IsFormOf family n c.corank c.jet.terms
  read_is_form h =
      let tests = read_tests h in
      let rest = and_right (is_family family) ((c.corank == corank_of family) && allowed_terms) tests.0 in
      let e : c.corank ≡ corank_of family = eqb-true c.corank (corank_of family) (and_left (c.corank == corank_of family) allowed_terms rest) in
      let parts = sym (allowed_all c.algebra n c.corank few w.corank family e c.jet.terms monomials) ∙ sym (terms_allowed c.algebra n c.corank few w.corank c.order family e c.jet.terms monomials) ∙ and_right (c.corank == corank_of family) allowed_terms rest in
      let plain = list_all (λ m. is_residual c.corank m || is_square c.corank m) (monomials_in c.jet.terms) in
      let sums = list_all (is_one_of (map in_eight (sum_of family))) (monomials_in (residual_terms c.corank c.jet.terms)) in
      let units = sym (ap (list_all (λ u. not ((scalars c.algebra).is_zero u))) (units_same e)) ∙ tests.1 in
      let values = unit_values (scalars c.algebra) (kind_of family) (coefficients_in_sum (algebra_meaning c.algebra) family c.corank c.jet.terms) in
      let squares = coefficients_of_squares (algebra_meaning c.algebra) n c.corank c.jet.terms in
      record {
        corank = e;
        split = terms_split n c.corank c.jet.terms (and_left plain sums parts)
            (squares_present c.algebra n c.corank few w.corank c.jet.terms monomials (square_variables n c.corank) (squares_below n c.corank (numbers_below (n - c.corank)) w.corank (numbers_are_below (n - c.corank)))
            (and_right (list_all (λ u. not ((scalars c.algebra).is_zero u)) values) (list_all (λ u. not ((scalars c.algebra).is_zero u)) squares)
            (sym (list_all-append (λ u. not ((scalars c.algebra).is_zero u)) values squares) ∙ units)));
        monomials = and_right plain sums parts;
      }

  -- the numbers that the formulas of the units form
  pub units_high : is_family family ≡ true → IsFormOf family n c.corank c.jet.terms → IsHigh (unit_heights_in (algebra_meaning c.algebra) family c.corank c.jet.terms)
      → Among (IsWorkHigh n (scalars c.algebra)) (reading_work n (scalars c.algebra) c.order c.corank family (jet_of c))
  units_high q is high =
      subst (λ b. Among (IsWorkHigh n (scalars c.algebra)) (cond b (work.units (kind_of family) (map (at n (scalars c.algebra) (jet_of c)) (sum_of family)) ∷ []) [])) (sym (form_has q is))
      (inl (subst (λ xs. IsHigh (unit_heights (scalars c.algebra) (kind_of family) xs)) (sym (coefficients_are c.algebra n few c.jet.terms inside family (subst (λ k. k ≤ n) is.corank w.corank)
      ∙ ap (λ k. coefficients_in_sum (algebra_meaning c.algebra) family k c.jet.terms) (sym is.corank))) high))

  -- the units of a jet that is read are not 0
  pub read_units : is_read_as family c ≡ true → list_all (λ u. not ((scalars c.algebra).is_zero u)) (units_in family c) ≡ true
  read_units h = (read_tests h).1

  -- the coefficients of its sum
  pub coefficients_of_form : corank_of family ≤ n → map (at n (scalars c.algebra) (jet_of c)) (sum_of family) ≡ coefficients_in_sum (algebra_meaning c.algebra) family (corank_of family) c.jet.terms
  coefficients_of_form h = coefficients_are c.algebra n few c.jet.terms inside family h
