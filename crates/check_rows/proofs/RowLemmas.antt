-- The rows of Mather's test from the answers about their parts.
use Rattle.std.proofs.Common.{◌≡◌, ℕ, ◌+◌, ◌<◌, ◌≤◌, inl, inr, Bool, List, [], ◌∷◌, map, length, get_or, sum, IsTrue, ◌↔◌, sym, ap, subst, ◌∙◌, arith}
use Rattle.std.specs.List.{All, AllByRecursion}
use Rattle.std.proofs.lemmas.List.{get_or-map, length-map}
use Rattle.ring_theory.specs.Scalars.{Meaning, ScalarLaws}
use Rattle.poly_law.specs.ExpList.{exps}
use Rattle.poly_law.specs.Poly.{cut, combination, times, poly_ops, derivative, IsMatherRow}
use Rattle.poly_law.specs.Polynomials.{Polynomial, SameIn, StartsAtIn, cut_in, term_in}
use Rattle.poly_law.proofs.Sums.{sum_to-cong}
use Rattle.mono_exp.specs.declared.exponent.Exp.{Exp}
use Rattle.mono_exp.specs.Exponents.{IsIn, exponents, monomials_of}
use Rattle.mono_exp.proofs.Lists.{map-map}
use Rattle.jet_law.specs.Heights.{IsHigh, products_heights, sums_heights}
use Rattle.jet_law.specs.Terms.{exp_of, poly_of}
use Rattle.jet_law.proofs.TermLemmas.{degree-exp_of}
use Rattle.jet_poly.specs.JetTerms.{JetTerms}
use Rattle.jet_poly.specs.Jets.{polynomial_of}
use Rattle.jacobian_row.specs.Rows.{polynomial_at}
use Rattle.jacobian_row.proofs.RowFacts.{degrees_are}
use Rattle.determinacy.specs.declared.row.MatherRow.{MatherRow}
use Rattle.check_rows.specs.Lists.{ArePartialLists, list_at}
use Rattle.check_rows.specs.Products.{sum_of_products, AreProductsHigh, IsCombinationHigh}
use Rattle.check_rows.specs.Rows.{AreRowsAt, IsPrintedRow, IsSomeRowHigh, AreRowsHigh, row_at}
use Rattle.check_rows.proofs.JetLemmas

-- the exponents of the monomials of rows
pub exponents_of : {E : Type 0} (n : ℕ) (rows : List (MatherRow E)) (ms : List Exp) → ms ≡ map (λ row. row.monomial) rows → map (λ a. exponents n a.e) ms ≡ map (λ row. exponents n row.monomial.e) rows
exponents_of {E} n rows ms e = ap (map (λ (a : Exp). exponents n a.e)) e ∙ map-map (λ (a : Exp). exponents n a.e) (λ (row : MatherRow E). row.monomial) rows

module _ {E V : Type 0} (m : Meaning E V) (laws : ScalarLaws m.scalars) where
  -- ---- one row

  -- the test of the sum decides the row where the multipliers start at degree 2
  pub row_decided : (n k : ℕ) (h : ℕ → Polynomial n V) (row : MatherRow E) (total wanted : JetTerms E) (b : Bool) → total.n ≡ n
      → SameIn n m.scalars.ops (poly_of n m.value total.terms) (cut_in n m.scalars.ops (k + 1) (sum_of_products n m.scalars.ops (polynomial_at n m.value row.multipliers) h))
      → poly_of n m.value wanted.terms ≡ term_in n m.scalars.ops (exp_of n row.monomial) → IsIn n row.monomial.e → sum row.monomial.e ≤ k + 1
      → ((i : ℕ) → i < n → StartsAtIn n m.scalars.ops 2 (polynomial_at n m.value row.multipliers i))
      → IsTrue b ↔ SameIn total.n m.scalars.ops (polynomial_of m total) (poly_of total.n m.value wanted.terms)
      → IsTrue b ↔ IsPrintedRow m n (k + 1) h row
  row_decided n k h row total wanted b en cuts monomial unused low starts decides =
      let all = sum_of_products n m.scalars.ops (polynomial_at n m.value row.multipliers) h in
      let one = term_in n m.scalars.ops (exp_of n row.monomial) in
      let f = poly_of n m.value total.terms in
      let at : IsTrue b ↔ SameIn n m.scalars.ops (poly_of n m.value total.terms) (poly_of n m.value wanted.terms)
      = subst (λ i. IsTrue b ↔ SameIn i m.scalars.ops (poly_of i m.value total.terms) (poly_of i m.value wanted.terms)) en decides in
      let kept = JetLemmas.cut_term n m laws (k + 1) (exp_of n row.monomial) (subst (λ d. d ≤ k + 1) (sym (degree-exp_of n row.monomial unused)) low) in (
        (λ yes. record { order_two = starts; adds_up = JetLemmas.cut_is n m laws (k + 1) all f one cuts kept (subst (SameIn n m.scalars.ops f) monomial (at.0 yes)) }),
        (λ is. at.1 (subst (SameIn n m.scalars.ops f) (sym monomial) (JetLemmas.is_cut n m laws (k + 1) all f one cuts kept is.adds_up))),
      )

  -- ---- the partials of a jet

  -- sums of products with the lists of the partials are combinations of the partials
  pub products_are : (n : ℕ) (G : Polynomial n V) (partials : List (List (Exp × E))) (f : ℕ → Polynomial n V) → ArePartialLists m n G partials
      → sum_of_products n m.scalars.ops f (list_at n m.value partials) ≡ combination (exps n) m.scalars.ops f G
  products_are n G partials f are =
      sum_to-cong (poly_ops (exps n) m.scalars.ops) n (λ i. times (exps n) m.scalars.ops (f i) (list_at n m.value partials i)) (λ i. times (exps n) m.scalars.ops (f i) (derivative (exps n) m.scalars.ops i G))
      (λ i h. ap (times (exps n) m.scalars.ops (f i)) (are.each i [] (subst (λ l. i < l) (sym are.count) h)).derivative)

  -- a row by the lists of the partials is a row by the partials
  pub row_by : (n k : ℕ) (G : Polynomial n V) (partials : List (List (Exp × E))) (row : MatherRow E) → ArePartialLists m n G partials
      → IsPrintedRow m n (k + 1) (list_at n m.value partials) row → IsMatherRow (exps n) m.scalars.ops k G (exp_of n row.monomial) (polynomial_at n m.value row.multipliers)
  row_by n k G partials row are is = record {
    order_two = is.order_two;
    adds_up = subst (λ z. Rattle.poly_law.specs.Poly.SameTo (exps n) m.scalars.ops (k + 1) z (term_in n m.scalars.ops (exp_of n row.monomial))) (products_are n G partials (polynomial_at n m.value row.multipliers) are) is.adds_up;
  }

  pub by_row : (n k : ℕ) (G : Polynomial n V) (partials : List (List (Exp × E))) (row : MatherRow E) → ArePartialLists m n G partials
      → IsMatherRow (exps n) m.scalars.ops k G (exp_of n row.monomial) (polynomial_at n m.value row.multipliers) → IsPrintedRow m n (k + 1) (list_at n m.value partials) row
  by_row n k G partials row are is = record {
    order_two = is.order_two;
    adds_up = subst (λ z. Rattle.poly_law.specs.Poly.SameTo (exps n) m.scalars.ops (k + 1) z (term_in n m.scalars.ops (exp_of n row.monomial))) (sym (products_are n G partials (polynomial_at n m.value row.multipliers) are)) is.adds_up;
  }

  -- ---- all rows

  module _ (g : JetTerms E) (k : ℕ) (partials : List (List (Exp × E))) where
    -- the row is one of the test at k
    abbrev IsRowHere : MatherRow E → Type 0
    IsRowHere row = IsMatherRow (exps g.n) m.scalars.ops k (polynomial_of m g) (exp_of g.n row.monomial) (polynomial_at g.n m.value row.multipliers)

    all_rows : (rows : List (MatherRow E)) → ArePartialLists m g.n (polynomial_of m g) partials
        → AllByRecursion (IsPrintedRow m g.n (k + 1) (list_at g.n m.value partials)) rows → AllByRecursion IsRowHere rows
    all_rows [] are all = tt
    all_rows (row ∷ rows) are all = (row_by g.n k (polynomial_of m g) partials row are all.0, all_rows rows are all.1)

    rows_all : (rows : List (MatherRow E)) → ArePartialLists m g.n (polynomial_of m g) partials → AllByRecursion IsRowHere rows
        → AllByRecursion (IsPrintedRow m g.n (k + 1) (list_at g.n m.value partials)) rows
    rows_all [] are all = tt
    rows_all (row ∷ rows) are all = (by_row g.n k (polynomial_of m g) partials row are all.0, rows_all rows are all.1)

    -- rows for all monomials are decided by the rows
    abbrev Decided : List (MatherRow E) → Bool → ℕ → Type 0
    Decided rows b n = (ms : List Exp) → map (λ a. exponents n a.e) ms ≡ monomials_of n (k + 1) → map (λ row. exponents n row.monomial.e) rows ≡ map (λ a. exponents n a.e) ms
        → (IsTrue b ↔ AllByRecursion (IsPrintedRow m n (k + 1) (list_at n m.value partials)) rows) → IsTrue b ↔ AreRowsAt m g k rows

    pub rows_decided : (rows : List (MatherRow E)) (b : Bool) (n : ℕ) → n ≡ g.n → ArePartialLists m g.n (polynomial_of m g) partials → Decided rows b n
    rows_decided rows b n e are = subst (Decided rows b) (sym e) (λ ms all monomials decides. (
      (λ yes. record { monomials = monomials ∙ all; each = all_rows rows are (decides.0 yes) }),
      (λ is. decides.1 (rows_all rows are is.each)),
    ))

    -- and where a row by the lists of the partials is high, the rows are
    abbrev High : List (MatherRow E) → ℕ → Type 0
    High rows n = IsSomeRowHigh m n (k + 1) (list_at n m.value partials) rows → AreRowsHigh g.n m.scalars k (polynomial_of m g) (length rows) (λ i. polynomial_at g.n m.value (row_at rows i).multipliers)

    products_high : (f : ℕ → Polynomial g.n V) → ArePartialLists m g.n (polynomial_of m g) partials → AreProductsHigh g.n m.scalars (k + 1) f (list_at g.n m.value partials) → IsCombinationHigh g.n m.scalars (k + 1) f (polynomial_of m g)
    products_high f are (inl high) = inl (record {
      variable = high.variable;
      within = high.within;
      high = subst (λ z. IsHigh (products_heights (exps g.n) m.scalars (k + 1) (f high.variable) z)) (are.each high.variable [] (subst (λ l. high.variable < l) (sym are.count) high.within)).derivative high.high;
    })
    products_high f are (inr high) = inr (subst (λ z. IsHigh (sums_heights (exps g.n) m.scalars (cut_in g.n m.scalars.ops (k + 1) z))) (products_are g.n (polynomial_of m g) partials f are) high)

    pub rows_high : (rows : List (MatherRow E)) (n : ℕ) → n ≡ g.n → ArePartialLists m g.n (polynomial_of m g) partials → High rows n
    rows_high rows n e are = subst (High rows) (sym e) (λ high. inr (record {
      place = high.place;
      within = high.within;
      high = products_high (polynomial_at g.n m.value (row_at rows high.place).multipliers) are high.high;
    }))

  -- where the rows do not stand for all monomials they are no rows
  pub no_rows : (g : JetTerms E) (k : ℕ) (rows : List (MatherRow E)) (n : ℕ) (ms : List Exp) → n ≡ g.n → map (λ a. exponents n a.e) ms ≡ monomials_of n (k + 1) → AreRowsAt m g k rows
      → map (λ row. exponents n row.monomial.e) rows ≡ map (λ a. exponents n a.e) ms
  no_rows g k rows n ms e all is = subst (λ i. map (λ row. exponents i row.monomial.e) rows ≡ monomials_of i (k + 1)) (sym e) is.monomials ∙ sym all

  -- rows that stand for all monomials of degree k + 1 have monomials of that degree
  pub row_degrees : (n k : ℕ) (rows : List (MatherRow E)) → map (λ row. exponents n row.monomial.e) rows ≡ monomials_of n (k + 1) → All (λ row. IsIn n row.monomial.e) rows → All (λ row. sum row.monomial.e ≤ k + 1) rows
  row_degrees n k rows e unused i d h =
      let ms = map (λ (row : MatherRow E). row.monomial) rows in
      let exact = degrees_are n (k + 1) ms (map-map (λ a. exponents n a.e) (λ (row : MatherRow E). row.monomial) rows ∙ e)
      (λ j a l. subst (λ z. IsIn n z.e) (sym (get_or-map (λ (row : MatherRow E). row.monomial) rows j d a (subst (λ x. j < x) (length-map rows (λ (row : MatherRow E). row.monomial)) l)))
      (unused j d (subst (λ x. j < x) (length-map rows (λ (row : MatherRow E). row.monomial)) l)))
      i d.monomial (subst (λ x. i < x) (sym (length-map rows (λ (row : MatherRow E). row.monomial))) h) in
      let here : sum (get_or rows i d).monomial.e ≡ k + 1 = ap (λ z. sum z.e) (sym (get_or-map (λ (row : MatherRow E). row.monomial) rows i d d.monomial h)) ∙ exact in
      omega arith
