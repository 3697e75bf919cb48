-- Where the test of a part decides a pattern, the jet is past the list by it: each monomial that the pattern does not admit is one below the part, one of its degree that its
-- form lacks, one that a lead divides, or one that the test says to be zero.
use Rattle.std.proofs.Common.{◌≡◌, ℕ, zero, suc, ◌+◌, ◌<◌, ◌≤◌, ◌⊎◌, inl, inr, Bool, true, false, not, cond, ◌&&◌, ◌||◌, eqb, eqb-true, ltb, ltb-true, le-ltb, leb, leb-true, le-leb, IsTrue, Some, None, List, [], ◌∷◌, get_or, map, zip, refl, sym, ap, ap₂, subst, ◌∙◌, true≢false, arith}
use Rattle.std.specs.Prelude.{◌==◌, Contains}
use Rattle.std.specs.List.{list_all, list_any}
use Rattle.ring_theory.specs.Scalars.{Scalars, ScalarLaws}
use Rattle.ext_algebra.specs.declared.algebra.Algebra.{Algebra}
use Rattle.ext_algebra.specs.Algebra.{Value, scalars}
use Rattle.ext_algebra.specs.AlgebraLaws.{algebra_scalar_laws}
use Rattle.poly_law.specs.Exps.{degree, same}
use Rattle.poly_law.specs.ExpList.{ExpList, exps}
use Rattle.poly_law.specs.Polynomials.{Polynomial, coefficient_in}
use Rattle.poly_law.proofs.ExpLists.{exps_are}
use Rattle.poly_law.proofs.ExpLaws.{all_to_from}
use Rattle.mono_exp.specs.Exponents.{numbers_below}
use Rattle.mono_exp.proofs.Lists.{length-numbers_below, get_or-numbers_below}
use Rattle.jet_law.specs.Canonical.{monomial_in}
use Rattle.normal_forms.specs.declared.pattern.Pattern.{Pattern}
use Rattle.normal_forms.specs.declared.pattern.Pattern.TheVariants as patterns
use Rattle.normal_forms.specs.Patterns.{has_corank, order_of, admits}
use Rattle.kill_law.specs.declared.lead.Lead.{Lead}
use Rattle.kill_law.specs.declared.part.Part.{Part}
use Rattle.kill_law.specs.declared.part.Part.TheVariants as parts
use Rattle.kill_law.specs.Table.{row}
use Rattle.kill_law.specs.Kill.{letters_of}
use Rattle.kill_law.specs.Leads.{form_of}
use Rattle.move_law.specs.Moves.{is_there}
use Rattle.move_law.specs.Patterns.{two, test_of, pattern_of}
use Rattle.line_syntax.proofs.Bools.{and_left, and_right}
use Rattle.split_lemma.proofs.Residuals
use Rattle.kept_law.proofs.LeadTable.{passes}
use Rattle.kept_law.proofs.PartDegrees.{past_end}
use Rattle.rules_corank2.specs.Parts.{IsBase2, is_base2, has_a}
use Rattle.determinator.specs.Carried.{IsPastList}
use Rattle.determinator.specs.PartPlaces.{HasBasePart}
use Rattle.determinator.proofs.PartTables.{no}
use Rattle.determinator.proofs.SplitTests.{below_or_past}
use Rattle.determinator.proofs.Terms

-- ---- tests of pairs of exponents

or_cases : (a b : Bool) → (a || b) ≡ true → (a ≡ true) ⊎ (b ≡ true)
or_cases true b h = inl refl
or_cases false b h = inr h

-- the exponents e are at most those of r, place by place
abbrev fits : List ℕ → List ℕ → Bool
fits [] r = true
fits (x ∷ e) [] = eqb x 0 && fits e []
fits (x ∷ e) (y ∷ r) = leb x y && fits e r

fits_at : (e r : List ℕ) → fits e r ≡ true → (j : ℕ) → get_or e j 0 ≤ get_or r j 0
fits_at [] r h j = subst (λ z. z ≤ get_or r j 0) (sym (past_end [] j (omega arith))) (omega arith)
fits_at (x ∷ e) [] h zero = let q = eqb-true x 0 (and_left (eqb x 0) (fits e []) h) in omega arith
fits_at (x ∷ e) [] h (suc j) = subst (λ z. get_or e j 0 ≤ z) (past_end [] j (omega arith)) (fits_at e [] (and_right (eqb x 0) (fits e []) h) j)
fits_at (x ∷ e) (y ∷ r) h zero = leb-true x y (and_left (leb x y) (fits e r) h)
fits_at (x ∷ e) (y ∷ r) h (suc j) = fits_at e r (and_right (leb x y) (fits e r) h) j

-- the exponents are those of x^i y^k
abbrev is_pair : ℕ → ℕ → List ℕ → Bool
is_pair i k [] = false
is_pair i k (x ∷ []) = false
is_pair i k (x ∷ y ∷ []) = eqb x i && eqb y k
is_pair i k (x ∷ y ∷ z ∷ e) = false

pair_is : (i k : ℕ) (e : List ℕ) → is_pair i k e ≡ true → e ≡ two i k
pair_is i k [] h = no h
pair_is i k (x ∷ []) h = no h
pair_is i k (x ∷ y ∷ []) h = ap₂ (λ (u v : ℕ). u ∷ v ∷ []) (eqb-true x i (and_left (eqb x i) (eqb y k) h)) (eqb-true y k (and_right (eqb x i) (eqb y k) h))
pair_is i k (x ∷ y ∷ z ∷ e) h = no h

not_true : (b : Bool) → not b ≡ true → b ≡ false
not_true true h = no h
not_true false h = refl

-- where a test holds of none of the exponents, it does not hold of those that are among them
none_of : (q : List ℕ → Bool) (i k : ℕ) (es : List (List ℕ)) → list_all (λ e. not (q e)) es ≡ true → list_any (is_pair i k) es ≡ true → q (two i k) ≡ false
none_of q i k [] all any = no any
none_of q i k (e ∷ es) all any = elim (or_cases (is_pair i k e) (list_any (is_pair i k) es) any) [
  | inl here ↦ subst (λ z. q z ≡ false) (pair_is i k e here) (not_true (q e) (and_left (not (q e)) (list_all (λ e. not (q e)) es) all))
  | inr later ↦ none_of q i k es (and_right (not (q e)) (list_all (λ e. not (q e)) es) all) later
]

-- what holds of no element, holds of no pair with one
none_zipped : {X Y : Type 0} (q : X → Bool) (xs : List X) (ys : List Y) → list_any q xs ≡ false → list_any (λ t. q t.0) (zip xs ys) ≡ false
none_zipped q [] ys h = refl
none_zipped q (x ∷ xs) [] h = refl
none_zipped q (x ∷ xs) (y ∷ ys) h = by_first (q x) refl (λ g. none_zipped q xs ys g) h
  where
    by_first : (b : Bool) → q x ≡ b → (list_any q xs ≡ false → list_any (λ t. q t.0) (zip xs ys) ≡ false) → (q x || list_any q xs) ≡ false → (q x || list_any (λ t. q t.0) (zip xs ys)) ≡ false
    by_first true e rest g = absurd (true≢false (sym (ap (λ b. b || list_any q xs) e) ∙ g))
    by_first false e rest g = ap (λ b. b || list_any (λ t. q t.0) (zip xs ys)) e ∙ rest (sym (ap (λ b. b || list_any q xs) e) ∙ g)

-- a lead that divides x^i y^k
record IsDividedBy (r : List ℕ) (ls : List Lead) : Type 0 where
  pub lead : Lead
  pub among : Contains ls lead
  pub fit : fits lead.monomial r ≡ true

some_fits : (r : List ℕ) (ls : List Lead) → list_any (λ l. fits l.monomial r) ls ≡ true → IsDividedBy r ls
some_fits r [] h = no h
some_fits r (l ∷ ls) h = elim (or_cases (fits l.monomial r) (list_any (λ l. fits l.monomial r) ls) h) [
  | inl here ↦ record { lead = l; among = (0, omega arith, refl); fit = here }
  | inr later ↦ (let w = some_fits r ls later in record { lead = w.lead; among = (suc w.among.0, (let lt = w.among.1 in omega arith), w.among.2); fit = w.fit })
]

-- a test that all numbers below a bound pass
passes_at : (q : ℕ → Bool) (j : ℕ) → list_all q (numbers_below j) ≡ true → (i : ℕ) → i < j → q i ≡ true
passes_at q j h i lt = passes q (numbers_below j) i h (i, (let l = length-numbers_below j in omega arith), get_or-numbers_below j i i lt)

-- ---- the monomials of a part

-- x^i y^k is below the part; or of its degree, and not in its form; or a lead divides it; or it is one of those that are zero; or the pattern admits it; or it is above order o
abbrev covered : Part → ℕ → List (List ℕ) → Pattern → ℕ → ℕ → Bool
covered p o zeros pattern i k =
    ltb (i + k) (row p).degree || ((eqb (i + k) (row p).degree && not (list_any (λ e. same (exps 2) e (monomial_in 2 (two i k))) (map (monomial_in 2) (row p).form)))
    || ((ltb (row p).degree (i + k) && list_any (λ l. fits l.monomial (two i k)) (row p).leads) || (list_any (is_pair i k) zeros || (admits pattern i k 0 || ltb o (i + k)))))

abbrev all_covered : Part → ℕ → List (List ℕ) → Pattern → Bool
all_covered p o zeros pattern = list_all (λ i. list_all (λ k. covered p o zeros pattern i k) (numbers_below (suc o))) (numbers_below (suc o))

module _ {V : Type 0} (n : ℕ) (s : Scalars V) (o : ℕ) (f : Polynomial n V) (pattern : Pattern) where
  -- what the test of a part says where it decides the pattern
  record IsDecided (p : Part) : Type 0 where
    pub zeros : List (List ℕ)
    pub lettered : IsTrue (has_a p)
    pub order : o ≡ order_of pattern
    pub corank : has_corank pattern 2 ≡ true
    pub none : list_all (λ e. not (is_there n s f e)) zeros ≡ true
    pub table : all_covered p o zeros pattern ≡ true

  by_choice : (b : Bool) (x : Pattern) → cond b (Some x) None ≡ Some pattern → (b ≡ true) × (x ≡ pattern)
  by_choice true x e = (refl, cc)
  by_choice false x e = absurd (cc e)

  by_test : (p : Part) (order : ℕ) (zeros : List (List ℕ)) (x : Pattern) → IsTrue (has_a p) → order ≡ order_of x → has_corank x 2 ≡ true → all_covered p order zeros x ≡ true
      → cond ((order == o) && list_all (λ e. not (is_there n s f e)) zeros) (Some x) None ≡ Some pattern → IsDecided p
  by_test p order zeros x lettered at corank table e =
      let q = by_choice ((order == o) && list_all (λ e. not (is_there n s f e)) zeros) x e in
      let here : order ≡ o = eqb-true order o (and_left (order == o) (list_all (λ e. not (is_there n s f e)) zeros) q.0) in
      record {
        zeros = zeros;
        lettered = lettered;
        order = sym here ∙ at ∙ ap order_of q.1;
        corank = subst (λ z. has_corank z 2 ≡ true) q.1 corank;
        none = and_right (order == o) (list_all (λ e. not (is_there n s f e)) zeros) q.0;
        table = subst (λ k. all_covered p k zeros pattern ≡ true) here (subst (λ z. all_covered p order zeros z ≡ true) q.1 table);
      }

  test_found : (p : Part) → IsBase2 p → pattern_of n s p o f ≡ Some pattern → IsDecided p
  unfolding pattern_of test_of is_base2 has_a row
  test_found parts.D4 h e = absurd (cc e)
  test_found parts.D h e = absurd (cc e)
  test_found parts.J h e = by_test parts.J 8 (two 0 4 ∷ two 1 3 ∷ two 0 5 ∷ two 1 4 ∷ two 0 6 ∷ two 0 7 ∷ two 1 5 ∷ two 0 8 ∷ []) patterns.J3 refl refl refl refl e
  test_found parts.X9 h e = absurd (cc e)
  test_found parts.X h e = absurd (cc e)
  test_found parts.Y h e = absurd (cc e)
  test_found parts.Z h e = by_test parts.Z 6 (two 0 5 ∷ two 1 4 ∷ two 0 6 ∷ []) patterns.Z1 refl refl refl refl e
  test_found parts.W h e = by_test parts.W 5 (two 0 5 ∷ two 1 4 ∷ []) patterns.W1 refl refl refl refl e
  test_found parts.P8 h e = no h
  test_found parts.Q h e = no h
  test_found parts.S h e = no h
  test_found parts.U h e = no h
  test_found parts.T h e = no h
  test_found parts.E6 h e = no h
  test_found parts.E7 h e = no h
  test_found parts.E8 h e = no h
  test_found parts.J10 h e = no h
  test_found parts.E12 h e = no h
  test_found parts.E13 h e = no h
  test_found parts.E14 h e = no h
  test_found parts.Z11 h e = no h
  test_found parts.Z12 h e = no h
  test_found parts.Z13 h e = no h
  test_found parts.W12 h e = no h
  test_found parts.W13 h e = no h
  test_found parts.Q10 h e = no h
  test_found parts.Q11 h e = no h
  test_found parts.Q12 h e = no h
  test_found parts.S11 h e = no h
  test_found parts.S12 h e = no h
  test_found parts.U12 h e = no h
  test_found parts.JT h e = no h

module _ {V : Type 0} (n : ℕ) (s : Scalars V) (laws : ScalarLaws s) (fewer : 2 ≤ n) (o : ℕ) (p : Part) (f : Polynomial n V) (h : HasBasePart n s 2 o o p f) where
  -- a monomial in the first two variables
  module _ (m : ExpList n) (own : (i : ℕ) → 2 ≤ i → i < n → (exps n).at m i ≡ 0) (low : degree (exps n) m ≤ o) where
    abbrev i : ℕ
    i = get_or m.entries 0 0

    abbrev k : ℕ
    k = get_or m.entries 1 0

    abbrev b : ExpList 2
    b = monomial_in 2 (two i k)

    m_at : (j : ℕ) → j < n → get_or m.entries j 0 ≡ get_or (two i k) j 0
    m_at zero lt = refl
    m_at (suc zero) lt = refl
    m_at (suc (suc j)) lt = own (suc (suc j)) (omega arith) lt ∙ sym (past_end [] j (omega arith))

    m_is : m ≡ monomial_in n (two i k)
    m_is = (exps_are n).same_at m (monomial_in n (two i k)) (λ j lt. m_at j lt ∙ sym ((exps_are n).at_make (λ j. get_or (two i k) j 0) j lt))

    placed_is : Residuals.placed n 2 fewer s laws b ≡ m
    placed_is = (exps_are n).same_at (Residuals.placed n 2 fewer s laws b) m (λ j lt. (exps_are n).at_make (λ i. cond (ltb i 2) ((exps 2).at b i) 0) j lt ∙ by_place j ∙ sym (m_at j lt))
      where
        by_place : (j : ℕ) → cond (ltb j 2) ((exps 2).at b j) 0 ≡ get_or (two i k) j 0
        by_place zero = refl
        by_place (suc zero) = refl
        by_place (suc (suc j)) = ap (λ z. cond z ((exps 2).at b (suc (suc j))) 0) (le-ltb (suc (suc j)) 2 (omega arith)) ∙ sym (past_end [] j (omega arith))

    total : degree (exps n) m ≡ i + k
    total = sym (ap (degree (exps n)) placed_is) ∙ Residuals.degree-placed n 2 fewer s laws b ∙ sum_is
      where
        sum_is : 0 + i + k ≡ i + k
        sum_is = omega arith

    -- below the part
    zero_below : i + k < (row p).degree → coefficient_in n s.ops f m ≡ s.ops.zero
    zero_below lt =
        ap (coefficient_in n s.ops f) (sym placed_is) ∙ sym (Residuals.coefficient-residual n 2 fewer s laws o f b (let t = total in omega arith)) ∙ h.low b (let q : 0 + i + k < (row p).degree = omega arith in q)

    -- of its degree, and not in its form
    zero_at : IsTrue (has_a p) → i + k ≡ (row p).degree → list_any (λ e. same (exps 2) e b) (map (monomial_in 2) (row p).form) ≡ false → coefficient_in n s.ops f m ≡ s.ops.zero
    zero_at has at lacks =
        ap (coefficient_in n s.ops f) (sym placed_is) ∙ h.form has b (let q : 0 + i + k ≡ (row p).degree = omega arith in q)
        ∙ Terms.nothing_there 2 s.ops laws.ring (form_of s (letters_of n s p f) 2 p) b (none_zipped (λ e. same (exps 2) e b) (map (monomial_in 2) (row p).form) (letters_of n s p f) lacks)

    -- where a lead divides it
    zero_divided : (row p).degree < i + k → IsDividedBy (two i k) (row p).leads → coefficient_in n s.ops f m ≡ s.ops.zero
    zero_divided lt d =
        let t = total in
        h.killed d.lead d.among m (omega arith) low
        (all_to_from n (λ j. leb (get_or (monomial_in n d.lead.monomial).entries j 0) (get_or m.entries j 0))
        (λ j lt. le-leb (get_or (monomial_in n d.lead.monomial).entries j 0) (get_or m.entries j 0)
        (let at_lead = (exps_are n).at_make (λ j. get_or d.lead.monomial j 0) j lt in let at_m = m_at j lt in let under = fits_at d.lead.monomial (two i k) d.fit j in omega arith)))

    -- where the test says so
    zero_tested : is_there n s f (two i k) ≡ false → coefficient_in n s.ops f m ≡ s.ops.zero
    zero_tested e = ap (coefficient_in n s.ops f) m_is ∙ (laws.zero_test (coefficient_in n s.ops f (monomial_in n (two i k)))).0 (is_zero_there (s.is_zero (coefficient_in n s.ops f (monomial_in n (two i k)))) e)
      where
        is_zero_there : (z : Bool) → not z ≡ false → z ≡ true
        is_zero_there true q = refl
        is_zero_there false q = absurd (true≢false q)

    module _ (pattern : Pattern) (d : IsDecided n s o f pattern p) where
      here : covered p o d.zeros pattern i k ≡ true
      here =
          let t = total in
          passes_at (λ k. covered p o d.zeros pattern i k) (suc o) (passes_at (λ i. list_all (λ k. covered p o d.zeros pattern i k) (numbers_below (suc o))) (suc o) d.table i (omega arith)) k (omega arith)

      abbrev lacking : Bool
      lacking = list_any (λ e. same (exps 2) e b) (map (monomial_in 2) (row p).form)

      abbrev dividing : Bool
      dividing = list_any (λ l. fits l.monomial (two i k)) (row p).leads

      abbrev below : Bool
      below = ltb (i + k) (row p).degree

      abbrev at_form : Bool
      at_form = eqb (i + k) (row p).degree && not lacking

      abbrev by_lead : Bool
      by_lead = ltb (row p).degree (i + k) && dividing

      abbrev listed : Bool
      listed = list_any (is_pair i k) d.zeros

      abbrev admitted : Bool
      admitted = admits pattern i k 0

      abbrev above : Bool
      above = ltb o (i + k)

      -- it is zero where the pattern does not admit it
      zero_past : admits pattern i k 0 ≡ false → coefficient_in n s.ops f m ≡ s.ops.zero
      zero_past out = elim (or_cases below (at_form || (by_lead || (listed || (admitted || above)))) here) [
        | inl x ↦ zero_below (ltb-true (i + k) (row p).degree x)
        | inr x ↦ elim (or_cases at_form (by_lead || (listed || (admitted || above))) x) [
          | inl y ↦ zero_at d.lettered (eqb-true (i + k) (row p).degree (and_left (eqb (i + k) (row p).degree) (not lacking) y)) (not_true lacking (and_right (eqb (i + k) (row p).degree) (not lacking) y))
          | inr y ↦ elim (or_cases by_lead (listed || (admitted || above)) y) [
            | inl z ↦ zero_divided (ltb-true (row p).degree (i + k) (and_left (ltb (row p).degree (i + k)) dividing z)) (some_fits (two i k) (row p).leads (and_right (ltb (row p).degree (i + k)) dividing z))
            | inr z ↦ elim (or_cases listed (admitted || above) z) [
              | inl w ↦ zero_tested (none_of (is_there n s f) i k d.zeros d.none w)
              | inr w ↦ elim (or_cases admitted above w) [
                | inl v ↦ absurd (true≢false (sym v ∙ out))
                | inr v ↦ (let t = total in let high = ltb-true o (i + k) v in absurd (omega arith))
              ]
            ]
          ]
        ]
      ]

-- ---- past the list

-- where the test of the part decides a pattern at order o, the jet of that order is past the list by it
pub past_list : (n c : ℕ) (a : Algebra) (o : ℕ) (p : Part) (pattern : Pattern) (f : Polynomial n (Value a)) → c ≤ n → HasBasePart n (scalars a) c o o p f
    → pattern_of n (scalars a) p o f ≡ Some pattern → IsPastList n c o a pattern f
past_list n c a o p pattern f fewer h e =
    subst (λ z. z ≤ n → HasBasePart n (scalars a) z o o p f → IsPastList n z o a pattern f) (sym h.two)
    (λ two_fit part.
    let d = test_found n (scalars a) o f pattern p part.base e in
    record {
      corank = d.corank;
      order = d.order;
      admitted = λ m own low out. zero_past n (scalars a) (algebra_scalar_laws a) two_fit o p f part m own low pattern d
          (ap (admits pattern (get_or m.entries 0 0) (get_or m.entries 1 0)) (sym (third m own)) ∙ out);
    })
    fewer h
  where
    third : (m : ExpList n) → ((i : ℕ) → 2 ≤ i → i < n → (exps n).at m i ≡ 0) → get_or m.entries 2 0 ≡ 0
    third m own = elim (below_or_past 2 n) [ inl g ↦ own 2 (omega arith) g | inr g ↦ past_end m.entries 2 (let l = m.long in omega arith) ]
