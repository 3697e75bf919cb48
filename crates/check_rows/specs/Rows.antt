-- A row of Mather's test by any polynomials in place of the partial derivatives, and when the rows of a jet are high.
use Rattle.std.specs.Prelude.{◌≡◌, ℕ, ◌+◌, ◌<◌, ◌≤◌, ◌⊎◌, List, [], length, get_or, map, sum, All}
use Rattle.std.specs.List.{AllByRecursion}
use Rattle.ring_theory.specs.Ring.{RingOps}
use Rattle.ring_theory.specs.Scalars.{Scalars, Meaning}
use Rattle.poly_law.specs.ExpList.{ExpList, exps}
use Rattle.poly_law.specs.Poly.{IsMatherRow}
use Rattle.poly_law.specs.Polynomials.{Polynomial, StartsAtIn, SameToIn, term_in}
use Rattle.mono_exp.specs.Exponents.{IsIn, exponents, monomials_of}
use Rattle.jet_law.specs.Terms.{exp_of}
use Rattle.jet_poly.specs.JetTerms.{JetTerms}
use Rattle.jet_poly.specs.Jets.{polynomial_of}
use Rattle.jacobian_row.specs.Rows.{IsJetIn, IsPartialHigh, polynomial_at}
use Rattle.determinacy.specs.declared.row.MatherRow.{MatherRow}
use Rattle.check_rows.specs.Products.{sum_of_products, AreProductsHigh, IsCombinationHigh}

-- a monomial of degree at most 17 in n variables, with one multiplier for each variable, a jet in them
pub record IsRowShape {E V : Type 0} (m : Meaning E V) (n : ℕ) (row : MatherRow E) : Type 0 where
  pub unused : IsIn n row.monomial.e
  pub small : sum row.monomial.e ≤ 17
  pub count : length row.multipliers ≡ n
  pub jets : All (IsJetIn m n) row.multipliers

-- one row of Mather's test at k for g for each monomial of degree k + 1 in its variables, in the monomial order
pub record AreRowsAt {E V : Type 0} (m : Meaning E V) (g : JetTerms E) (k : ℕ) (rows : List (MatherRow E)) : Type 0 where
  pub monomials : map (λ row. exponents g.n row.monomial.e) rows ≡ monomials_of g.n (k + 1)
  pub each : AllByRecursion (λ row. IsMatherRow (exps g.n) m.scalars.ops k (polynomial_of m g) (exp_of g.n row.monomial) (polynomial_at g.n m.value row.multipliers)) rows

-- the multipliers f(i) have no term of degree below 2, and the sum of the f(i)*h(i) is the monomial a up to degree d
pub record IsRowBy {V : Type 0} (n : ℕ) (r : RingOps V) (d : ℕ) (h : ℕ → Polynomial n V) (a : ExpList n) (f : ℕ → Polynomial n V) : Type 0 where
  pub order_two : (i : ℕ) → i < n → StartsAtIn n r 2 (f i)
  pub adds_up : SameToIn n r d (sum_of_products n r f h) (term_in n r a)

-- the same of a row as it is printed
abbrev pub IsPrintedRow : {E V : Type 0} → Meaning E V → (n d : ℕ) → (ℕ → Polynomial n V) → MatherRow E → Type 0
IsPrintedRow m n d h row = IsRowBy n m.scalars.ops d h (exp_of n row.monomial) (polynomial_at n m.value row.multipliers)

-- the row with number i, and one without multipliers past the last one
abbrev pub row_at : {E : Type 0} → List (MatherRow E) → ℕ → MatherRow E
row_at rows i = get_or rows i (record { monomial = record { e = [] }; multipliers = [] })

-- a sum or a product of some row by the polynomials h(i), up to degree d, is high
pub record IsSomeRowHigh {E V : Type 0} (m : Meaning E V) (n d : ℕ) (h : ℕ → Polynomial n V) (rows : List (MatherRow E)) : Type 0 where
  pub place : ℕ
  pub within : place < length rows
  pub high : AreProductsHigh n m.scalars d (polynomial_at n m.value (row_at rows place).multipliers) h

-- the combination of the partials of g with some of `count` lists of multipliers, cut at k + 1, is high
pub record IsSomeCombinationHigh {V : Type 0} (n : ℕ) (s : Scalars V) (k : ℕ) (g : Polynomial n V) (count : ℕ) (multipliers : ℕ → ℕ → Polynomial n V) : Type 0 where
  pub place : ℕ
  pub within : place < count
  pub high : IsCombinationHigh n s (k + 1) (multipliers place) g

-- a partial of g, or a product or a sum of some row of Mather's test at k, is high
abbrev pub AreRowsHigh : {V : Type 0} (n : ℕ) → Scalars V → ℕ → Polynomial n V → ℕ → (ℕ → ℕ → Polynomial n V) → Type 0
AreRowsHigh n s k g count multipliers = IsPartialHigh n s g ⊎ IsSomeCombinationHigh n s k g count multipliers
