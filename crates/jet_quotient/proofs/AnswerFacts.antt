-- The answer of the quotient, from its rows.
use Rattle.std.proofs.Common.{◌≡◌, ◌≢◌, ℕ, zero, suc, ◌+◌, ◌<◌, ◌≤◌, Bool, true, false, cond, not, eqb, eq-eqb, ne_eqb, List, [], ◌∷◌, ◌++◌, length, get_or, map, sum, refl, sym, ap, ap₂, subst, ◌∙◌, arith}
use Rattle.std.specs.List.{AllByRecursion, All, filter}
use Rattle.std.proofs.Math.Decide.{dec_le}
use Rattle.std.proofs.lemmas.List.Elements.{recursion_from_All}
use Rattle.std.proofs.lemmas.Bool.{eqb-true}
use Rattle.ring_theory.specs.Ring.{RingOps, IsCommRing}
use Rattle.ring_theory.specs.Scalars.{Meaning}
use Rattle.poly_law.specs.Sums.{total, sum_to}
use Rattle.poly_law.specs.Sums as sums
use Rattle.poly_law.specs.Exps.{same, degree}
use Rattle.poly_law.specs.ExpList.{ExpList, exps}
use Rattle.poly_law.specs.Poly.{times, term, derivative, scale, coefficient, combination, poly_ops, of_basis, values_of, SameTo, IsQuotientTable}
use Rattle.poly_law.specs.Polynomials.{Polynomial, term_in}
use Rattle.poly_law.proofs.ExpLists.{exps_are}
use Rattle.poly_law.proofs.ExpLaws
use Rattle.poly_law.proofs.Sums
use Rattle.poly_law.proofs.Order
use Rattle.mono_exp.specs.declared.exponent.Exp.{Exp}
use Rattle.mono_exp.specs.Exponents.{IsIn, exponents, monomials_below, rank_of}
use Rattle.jet_law.specs.Terms.{exp_of, poly_of}
use Rattle.jet_law.proofs.TermLemmas.{degree-exp_of}
use Rattle.jet_poly.specs.JetTerms.{JetTerms}
use Rattle.lin_row.specs.Lines.{AllBelow, dot, entry, unit_at}
use Rattle.lin_row.specs.System.{dot_at}
use Rattle.lin_row.specs.Rows.{rows_of}
use Rattle.lin_row.specs.declared.row.Remainder.{Remainder}
use Rattle.jacobian_row.specs.Numbers.{number, count_to}
use Rattle.jacobian_row.specs.Multiples.{multiple_to}
use Rattle.jacobian_row.specs.declared.multiple.Multiple.{Multiple}
use Rattle.jacobian_row.proofs.MultipleOrder.{Pairwise, pairwise-filter, pairwise-at}
use Rattle.jacobian_row.proofs.MultiplierLemmas
use Rattle.jacobian_row.proofs.RowFacts
use Rattle.jacobian_row.proofs.Combinations
use Rattle.determinacy.specs.Tests.{IsMonomialIn, IsJetOf}
use Rattle.determinacy.proofs.FailureLemmas.{degree_below}
use Rattle.milnor_alg.specs.declared.quotient.TableRow.{TableRow}
use Rattle.milnor_alg.specs.declared.quotient.JetQuotient.{JetQuotient}
use Rattle.milnor_alg.specs.Rows.{basis_at, no_row, row_of, values_at}
use Rattle.jet_quotient.specs.Answers.{number_of, begins_at, IsRowBy, AreRowsBy}
use Rattle.jet_quotient.specs.Quotients.{multipliers_at, IsTableRow, AreSomeMonomials, IsQuotientOf}
use Rattle.jacobian_row.proofs.MonomialLists
use Rattle.jet_quotient.proofs.CallFacts.{rows-count}
use Rattle.jet_quotient.proofs.TableFacts
use Rattle.jet_quotient.proofs.TableFacts.{Reduced}

module _ {E V : Type 0} (m : Meaning E V) (c : IsCommRing m.scalars.ops) (set : IsSet V) (nontrivial : m.scalars.ops.one ≢ m.scalars.ops.zero) (g : JetTerms E) (k n : ℕ) (multiples : List Multiple) (monomials : List Exp) (rests : List (Remainder E)) (basis : List Exp) (made : Reduced m g k n multiples monomials rests basis)
    (table : List (TableRow E)) (count : length table ≡ length monomials) (by : AreRowsBy m n k multiples basis monomials rests table) where
  open m.scalars.ops use {add, mul, neg}
  open made use {rows, form}

  abbrev r : RingOps V
  r = m.scalars.ops

  abbrev gp : Polynomial n V
  gp = poly_of n m.value g.terms

  abbrev none : Exp
  none = record { e = [] }

  abbrev nothing : Remainder E
  nothing = record { left = []; coefficients = [] }

  abbrev left : ExpList n → List (ℕ × E)
  left b = (TableFacts.rest m c set nontrivial g k n multiples monomials rests basis made b).left

  -- ---- the monomials of the basis
  abbrev free : Exp → Bool
  free a = not (begins_at form (number_of n a))

  low_list : All (λ a. degree (exps n) (exp_of n a) ≤ k) monomials
  low_list i a h = degree_below n k (exp_of n (get_or monomials i a)) (let e = MonomialLists.number-at n (suc k) monomials made.are_monomials i a h in let f = MonomialLists.count-list n (suc k) monomials made.are_monomials in omega arith)

  basis_low : All (λ a. degree (exps n) (exp_of n a) ≤ k) basis
  basis_low = subst (All (λ a. degree (exps n) (exp_of n a) ≤ k)) (sym made.basis_is) (MonomialLists.kept_all free (λ a. degree (exps n) (exp_of n a) ≤ k) monomials low_list)

  basis_free : All (λ a. begins_at form (number_of n a) ≡ false) basis
  basis_free i a h = go (begins_at form (number_of n (get_or basis i a))) refl (subst (All (λ a. free a ≡ true)) (sym made.basis_is) (MonomialLists.kept_pass free monomials) i a h)
    where
      go : (b : Bool) → begins_at form (number_of n (get_or basis i a)) ≡ b → not b ≡ true → begins_at form (number_of n (get_or basis i a)) ≡ false
      go true e q = absurd (let z : false ≡ true = q in cc z)
      go false e q = e

  basis_rise : Pairwise (λ a b. number_of n a < number_of n b) basis
  basis_rise = subst (Pairwise (λ a b. number_of n a < number_of n b)) (sym made.basis_is) (pairwise-filter (λ a b. number_of n a < number_of n b) free monomials (MonomialLists.numbers_rise n (suc k) monomials made.are_monomials))

  abbrev column : ℕ → ℕ
  column j = number n (basis_at n basis j)

  columns-same : (i j : ℕ) → i < length basis → j < length basis → eqb (column j) (column i) ≡ eqb i j
  columns-same i j hi hj = elim (dec_le i j) [
    | yes le ↦ elim (dec_le j i) [
      | yes ge ↦ let e : i ≡ j = omega arith in eq-eqb (column j) (column i) (ap column (sym e)) ∙ sym (eq-eqb i j e)
      | no lt ↦
          let less = pairwise-at (λ a b. number_of n a < number_of n b) basis i j none (omega arith) hj basis_rise in
          ne_eqb (column j) (column i) (λ e. omega arith) ∙ sym (ne_eqb i j (λ e. omega arith))
    ]
    | no lt ↦
        let less = pairwise-at (λ a b. number_of n a < number_of n b) basis j i none (omega arith) hi basis_rise in
        ne_eqb (column j) (column i) (λ e. omega arith) ∙ sym (ne_eqb i j (λ e. omega arith))
  ]

  -- ---- the row of a monomial
  row_monomial : (i : ℕ) → i < length table → (get_or table i no_row).monomial ≡ get_or monomials i none
  row_monomial i h = (by none nothing i no_row h).monomial

  row_is : (b : ExpList n) → degree (exps n) b ≤ k → row_of n table b ≡ get_or table (number n b) no_row
  row_is b low =
      MonomialLists.found_first (λ row. same (exps n) (exp_of n row.monomial) b) table (number n b) no_row no_row within
      (ap (λ a. same (exps n) (exp_of n a) b) (row_monomial (number n b) within) ∙ ap (λ x. same (exps n) x b) (is b low none) ∙ ExpLaws.same_refl (exps n) (exps_are n) b)
      (λ i less. ExpLaws.same-no (exps n) (exps_are n) (exp_of n (get_or table i no_row).monomial) b (λ e.
      let w = within in
      let inside : i < length table = omega arith in
      let f : number n b ≡ i = ap (number n) (sym e ∙ ap (exp_of n) (row_monomial i inside)) ∙ MonomialLists.number-at n (suc k) monomials made.are_monomials i none (omega arith) in
      omega arith))
    where
      is : (b : ExpList n) → degree (exps n) b ≤ k → (a : Exp) → exp_of n (get_or monomials (number n b) a) ≡ b
      is = TableFacts.monomial_is m c set nontrivial g k n multiples monomials rests basis made

      within : number n b < length table
      within = let h = TableFacts.place_within m c set nontrivial g k n multiples monomials rests basis made b low in omega arith

  in_table : (b : ExpList n) → degree (exps n) b ≤ k → number n b < length table
  in_table b low = let h = TableFacts.place_within m c set nontrivial g k n multiples monomials rests basis made b low in omega arith

  row_by : (b : ExpList n) → degree (exps n) b ≤ k → IsRowBy m n k multiples basis (get_or monomials (number n b) none) (TableFacts.rest m c set nontrivial g k n multiples monomials rests basis made b) (row_of n table b)
  row_by b low = subst (IsRowBy m n k multiples basis (get_or monomials (number n b) none) (TableFacts.rest m c set nontrivial g k n multiples monomials rests basis made b)) (sym (row_is b low)) (by none nothing (number n b) no_row (in_table b low))

  -- its values are the entries of what is left
  value-is : (b : ExpList n) → degree (exps n) b ≤ k → (j : ℕ) → j < length basis → values_at m n table b j ≡ entry m (left b) (column j)
  value-is b low j h = ap (λ vs. get_or vs j r.zero) (row_by b low).values ∙ MonomialLists.get_or-images (λ (a : Exp). entry m (left b) (number_of n a)) basis j none r.zero h

  units : (i j : ℕ) → i < length basis → j < length basis → values_at m n table (basis_at n basis i) j ≡ sums.unit_at r i j
  units i j hi hj =
      value-is (basis_at n basis i) (basis_low i none hi) j hj
      ∙ TableFacts.basis_left m c set nontrivial g k n multiples monomials rests basis made (basis_at n basis i) (basis_low i none hi) (basis_free i none hi) (unit_at r (column j))
      ∙ ap (λ q. cond q r.one r.zero) (columns-same i j hi hj)

  total-values : (j : ℕ) → j < length basis → (f : Polynomial n V) → AllByRecursion (λ t. degree (exps n) t.0 ≤ k) f → total r (λ t. mul t.1 (values_at m n table t.0 j)) f ≡ total r (λ t. mul t.1 (dot m (left t.0) (unit_at r (column j)))) f
  total-values j h [] low = refl
  total-values j h (t ∷ f) low = ap₂ add (ap (mul t.1) (value-is t.0 low.0 j h)) (total-values j h f low.1)

  zero_on : (a : ExpList n) (i j : ℕ) → i < n → j < length basis → values_of (exps n) r (values_at m n table) k (times (exps n) r (term (exps n) r a) (derivative (exps n) r i gp)) j ≡ r.zero
  zero_on a i j hi hj =
      total-values j hj (multiple_to n r k gp a i) (TableFacts.cut_low m c set nontrivial g k n multiples monomials rests basis made (times (exps n) r (term (exps n) r a) (derivative (exps n) r i gp)))
      ∙ TableFacts.multiple_left m c set nontrivial g k n multiples monomials rests basis made a i hi (unit_at r (column j))

  -- ---- the combination of the basis
  coefficient-sum : (f : ℕ → Polynomial n V) (b : ExpList n) (size : ℕ) → coefficient (exps n) r (sum_to (poly_ops (exps n) r) size f) b ≡ sum_to r size (λ j. coefficient (exps n) r (f j) b)
  coefficient-sum f b zero = refl
  coefficient-sum f b (suc size) = Order.coefficient-append (exps n) (exps_are n) r c (sum_to (poly_ops (exps n) r) size f) (f size) b ∙ ap (λ z. add z (coefficient (exps n) r (f size) b)) (coefficient-sum f b size)

  scaled-term : (x : V) (a b : ExpList n) → coefficient (exps n) r (scale (exps n) r x (term (exps n) r a)) b ≡ cond (same (exps n) a b) x r.zero
  scaled-term x a b = c.add_zero (cond (same (exps n) a b) (mul x r.one) r.zero) ∙ ap (λ y. cond (same (exps n) a b) y r.zero) (c.mul_one x)

  basis-value : (v : ExpList n) → degree (exps n) v ≤ k → (b : ExpList n) → degree (exps n) b ≤ k → coefficient (exps n) r (of_basis (exps n) r (length basis) (basis_at n basis) (values_at m n table v)) b ≡ entry m (left v) (number n b)
  basis-value v lv b lb = coefficient-sum f b (length basis) ∙ go (begins_at form (number n b)) refl
    where
      f : ℕ → Polynomial n V
      f = λ j. scale (exps n) r (values_at m n table v j) (term (exps n) r (basis_at n basis j))

      others : (j : ℕ) → ((column j ≡ number n b) → ⊥) → coefficient (exps n) r (f j) b ≡ r.zero
      others j differ = scaled-term (values_at m n table v j) (basis_at n basis j) b ∙ ap (λ q. cond q (values_at m n table v j) r.zero) (ExpLaws.same-no (exps n) (exps_are n) (basis_at n basis j) b (λ e. differ (ap (number n) e)))

      go : (q : Bool) → begins_at form (number n b) ≡ q → sum_to r (length basis) (λ j. coefficient (exps n) r (f j) b) ≡ entry m (left v) (number n b)
      go true e =
          Sums.sum_to-nothing r c (length basis) (λ j. coefficient (exps n) r (f j) b)
          (λ j h. others j (λ s. let bad : ⊥ = (let z : false ≡ true = sym (basis_free j none h) ∙ ap (begins_at form) s ∙ e in cc z) in bad))
          ∙ sym (TableFacts.begun m (left v) form (number n b) e (TableFacts.remainder m c set nontrivial g k n multiples monomials rests basis made v lv).cleared)
      go false e =
          let place = TableFacts.place_within m c set nontrivial g k n multiples monomials rests basis made b lb in
          let found = MonomialLists.kept_has free monomials (number n b) none place (ap (λ i. not (begins_at form i)) (MonomialLists.number-at n (suc k) monomials made.are_monomials (number n b) none place) ∙ ap not e) in
          let size = ap length made.basis_is in
          let j = found.0 in
          let within : j < length basis = (let l = found.1.0 in omega arith) in
          let is : basis_at n basis j ≡ b = ap (λ xs. exp_of n (get_or xs j none)) made.basis_is ∙ ap (exp_of n) found.1.1 ∙ TableFacts.monomial_is m c set nontrivial g k n multiples monomials rests basis made b lb none in
          Sums.sum_to-single r c (length basis) j (λ j. coefficient (exps n) r (f j) b) within (λ i h differ. others i (λ s. differ (same_index i j h within (s ∙ sym (ap (number n) is)))))
          ∙ scaled-term (values_at m n table v j) (basis_at n basis j) b
          ∙ ap (λ q. cond q (values_at m n table v j) r.zero) (ap (λ x. same (exps n) x b) is ∙ ExpLaws.same_refl (exps n) (exps_are n) b)
          ∙ value-is v lv j within ∙ ap (λ x. entry m (left v) (number n x)) is
        where
          same_index : (i j : ℕ) → i < length basis → j < length basis → column i ≡ column j → i ≡ j
          same_index i j hi hj e = eqb-true i j (sym (columns-same i j hi hj) ∙ eq-eqb (column j) (column i) (sym e))

  variables : All (λ u. u.variable < n) multiples
  variables = RowFacts.variables_within n 0 k multiples made.are_multiples

  adds_up : (a : ExpList n) → degree (exps n) a ≤ k → SameTo (exps n) r k (term (exps n) r a ++ (poly_ops (exps n) r).neg (of_basis (exps n) r (length basis) (basis_at n basis) (values_at m n table a))) (combination (exps n) r (multipliers_at m n table a) gp)
  adds_up a low b lb =
      let rem = TableFacts.remainder m c set nontrivial g k n multiples monomials rests basis made a low in
      let cs = (TableFacts.rest m c set nontrivial g k n multiples monomials rests basis made a).coefficients in
      let w = unit_at r (number n b) in
      let l = dot m (left a) w in
      let t = dot m cs (λ j. dot_at m (rows_of rows) j w) in
      let basis_sum = of_basis (exps n) r (length basis) (basis_at n basis) (values_at m n table a) in
      let within = subst (λ q. AllBelow q cs) (rows-count m rows ∙ RowFacts.rows_length m n (count_to n k) k made.partials multiples rows made.are_rows) rem.rest.within in
      Order.coefficient-append (exps n) (exps_are n) r c (term (exps n) r a) ((poly_ops (exps n) r).neg basis_sum) b
      ∙ ap₂ add
      (sym (Combinations.entries-coefficient r c set n (term_in n r a) b)
      ∙ (c.add_zero (mul r.one (w (number n a))) ∙ c.mul_comm r.one (w (number n a)) ∙ c.mul_one (w (number n a)))
      ∙ TableFacts.parts m c set nontrivial g k n multiples monomials rests basis made a low w)
      (Order.coefficient-neg (exps n) (exps_are n) r c basis_sum b ∙ ap neg (basis-value a low b lb))
      ∙ ap (λ z. add z (neg l)) (c.add_comm l t) ∙ c.add_assoc t l (neg l) ∙ ap (add t) (c.add_neg l) ∙ c.add_zero t
      ∙ Combinations.combined m c set n k k multiples cs (row_of n table a).multipliers (row_by a low).multipliers (count_to n k) made.partials gp rows made.are_partials made.are_rows variables within b lb

  pub table_is : IsQuotientTable (exps n) r k gp (length basis) (basis_at n basis) (values_at m n table) (multipliers_at m n table)
  table_is = record {
    low = λ i h. basis_low i none h;
    units = units;
    zero_on = zero_on;
    adds_up = adds_up;
  }

  -- ---- the parts of the answer
  long_list : All (λ a. length a.e ≡ 8) monomials
  long_list i a h = (by a nothing i no_row (omega arith)).long

  monomials_in : All (IsMonomialIn n) monomials
  monomials_in i a h = record { unused = made.unused i a h; long = long_list i a h }

  pub basis_are : AreSomeMonomials n k basis
  basis_are = record {
    are_in = recursion_from_All (IsMonomialIn n) basis (subst (All (IsMonomialIn n)) (sym made.basis_is) (MonomialLists.kept_all free (IsMonomialIn n) monomials monomials_in));
    chosen = λ e. not (begins_at form (rank_of n e));
    list = ap (map (λ (a : Exp). exponents n a.e)) made.basis_is ∙ MonomialLists.images-kept (λ e. not (begins_at form (rank_of n e))) (λ (a : Exp). exponents n a.e) monomials
        ∙ ap (filter (λ e. not (begins_at form (rank_of n e)))) (made.are_monomials ∙ ap (monomials_below n) (let e : suc k ≡ k + 1 = omega arith in e));
  }

  same_list : (xs : List (TableRow E)) (ms : List Exp) → length xs ≡ length ms → ((i : ℕ) → i < length xs → (get_or xs i no_row).monomial ≡ get_or ms i none) → map (λ row. exponents n row.monomial.e) xs ≡ map (λ a. exponents n a.e) ms
  same_list [] [] e h = refl
  same_list [] (a ∷ ms) e h = absurd (omega arith)
  same_list (x ∷ xs) [] e h = absurd (omega arith)
  same_list (x ∷ xs) (a ∷ ms) e h = ap₂ (λ y ys. y ∷ ys) (ap (λ (b : Exp). exponents n b.e) (h 0 (omega arith))) (same_list xs ms (omega arith) (λ i l. h (suc i) (omega arith)))

  row_in : (i : ℕ) (row : TableRow E) → i < length table → IsTableRow m n k (length basis) (get_or table i row)
  row_in i row h =
      let q = by none nothing i row h in
      let inside : i < length monomials = omega arith in
      let in_targets = RowFacts.monomials_length m n (count_to n k) monomials made.targets made.are_targets in
      let rem = TableFacts.rest_at m (rows_of rows) (rows_of form) made.targets rests made.are_rests i (record { entries = [] }) nothing (omega arith) in
      let cs = (get_or rests i nothing).coefficients in
      let within = subst (λ b. AllBelow b cs) (rows-count m rows ∙ RowFacts.rows_length m n (count_to n k) k made.partials multiples rows made.are_rows) rem.rest.within in
      record {
        monomial = subst (IsMonomialIn n) (sym q.monomial) (monomials_in i none inside);
        values = sym (MonomialLists.length-images m.value (get_or table i row).values) ∙ ap length q.values ∙ MonomialLists.length-images (λ (b : Exp). entry m (get_or rests i nothing).left (number_of n b)) basis;
        elems = q.elems;
        multipliers = q.multipliers.count;
        jets = recursion_from_All (IsJetOf m n k) (get_or table i row).multipliers (λ j f l. subst (IsJetOf m n k) (sym (q.multipliers.each j f l))
            (record {
              jet = MultiplierLemmas.multiplier_jet m n 0 k multiples made.are_multiples j k cs (omega arith) rem.rest.coefficients.units within;
              variables = refl;
              order = refl;
              rising = MultiplierLemmas.terms_rise n 0 k made.small multiples made.are_multiples j cs rem.rest.coefficients.rising within;
              long = MultiplierLemmas.multiplier_long m n 0 k multiples made.are_multiples j cs rem.rest.coefficients.units within;
            }));
      }

  pub monomials_are : map (λ row. exponents n row.monomial.e) table ≡ monomials_below n (k + 1)
  monomials_are = same_list table monomials count (λ i h. row_monomial i h) ∙ made.are_monomials ∙ ap (monomials_below n) (let e : suc k ≡ k + 1 = omega arith in e)

  pub rows_in : AllByRecursion (IsTableRow m n k (length basis)) table
  rows_in = recursion_from_All (IsTableRow m n k (length basis)) table row_in

-- the answer
pub answer_at : {E V : Type 0} (m : Meaning E V) (c : IsCommRing m.scalars.ops) (set : IsSet V) (nontrivial : m.scalars.ops.one ≢ m.scalars.ops.zero) (g : JetTerms E) (k : ℕ) (multiples : List Multiple) (monomials : List Exp) (rests : List (Remainder E)) (q : JetQuotient E)
    → Reduced m g k g.n multiples monomials rests q.basis → length q.table ≡ length monomials → AreRowsBy m g.n k multiples q.basis monomials rests q.table → IsQuotientOf m g k q
answer_at m c set nontrivial g k multiples monomials rests q made count by = record {
  basis = basis_are m c set nontrivial g k g.n multiples monomials rests q.basis made q.table count by;
  monomials = monomials_are m c set nontrivial g k g.n multiples monomials rests q.basis made q.table count by;
  rows = rows_in m c set nontrivial g k g.n multiples monomials rests q.basis made q.table count by;
  table = table_is m c set nontrivial g k g.n multiples monomials rests q.basis made q.table count by;
}

pub answer_from : {E V : Type 0} (m : Meaning E V) (c : IsCommRing m.scalars.ops) (set : IsSet V) (nontrivial : m.scalars.ops.one ≢ m.scalars.ops.zero) (g : JetTerms E) (k n : ℕ) → n ≡ g.n → (multiples : List Multiple) (monomials : List Exp) (rests : List (Remainder E)) (q : JetQuotient E)
    → Reduced m g k n multiples monomials rests q.basis → length q.table ≡ length monomials → AreRowsBy m n k multiples q.basis monomials rests q.table → IsQuotientOf m g k q
answer_from m c set nontrivial g k n e multiples monomials rests q made count by =
    answer_at m c set nontrivial g k multiples monomials rests q (subst (λ i. Reduced m g k i multiples monomials rests q.basis) e made) count (subst (λ i. AreRowsBy m i k multiples q.basis monomials rests q.table) e by)

-- the monomials of the list have degree at most k
pub degrees_low : (n k : ℕ) (ms : List Exp) → map (λ a. exponents n a.e) ms ≡ monomials_below n (suc k) → All (λ a. IsIn n a.e) ms → All (λ a. sum a.e ≤ k) ms
degrees_low n k ms list unused i a h =
    let low = degree_below n k (exp_of n (get_or ms i a)) (let e = MonomialLists.number-at n (suc k) ms list i a h in let f = MonomialLists.count-list n (suc k) ms list in omega arith) in
    let d = degree-exp_of n (get_or ms i a) (unused i a h) in
    omega arith
