-- The rows of the table of a truncated Milnor algebra: each monomial by the basis and the partials.
use Rattle.std.specs.Prelude.{◌≡◌, ℕ, ◌<◌, ◌⊎◌, List, [], ◌++◌, length, get_or, map, All}
use Rattle.std.specs.List.{AllByRecursion}
use Rattle.ring_theory.specs.Ring.{RingOps}
use Rattle.ring_theory.specs.Scalars.{Meaning}
use Rattle.poly_law.specs.ExpList.{ExpList, exps}
use Rattle.poly_law.specs.Poly.{of_basis}
use Rattle.poly_law.specs.Polynomials.{Polynomial, SameToIn, cut_in, poly_in, term_in}
use Rattle.mono_exp.specs.declared.exponent.Exp.{Exp}
use Rattle.mono_exp.specs.Exponents.{IsIn}
use Rattle.jet_law.specs.Heights.{IsHigh, sums_heights}
use Rattle.jet_law.specs.Terms.{exp_of}
use Rattle.jacobian_row.specs.Rows.{IsJetIn, polynomial_at}
use Rattle.milnor_alg.specs.declared.quotient.TableRow.{TableRow}
use Rattle.milnor_alg.specs.Rows.{basis_at}
use Rattle.check_rows.specs.Products.{sum_of_products, AreProductsHigh}

-- a row over a basis of this size: a monomial in n variables, one valid value for each monomial of the basis, one jet for each variable
pub record IsTableShape {E V : Type 0} (m : Meaning E V) (n size : ℕ) (row : TableRow E) : Type 0 where
  pub unused : IsIn n row.monomial.e
  pub values : length row.values ≡ size
  pub elems : AllByRecursion m.is_elem row.values
  pub count : length row.multipliers ≡ n
  pub jets : All (IsJetIn m n) row.multipliers

-- the values of a row, by number
abbrev pub values_in : {E V : Type 0} → Meaning E V → TableRow E → ℕ → V
values_in m row j = get_or (map m.value row.values) j m.scalars.ops.zero

-- the monomial a less v(0)*b(0) + .. + v(size - 1)*b(size - 1)
abbrev pub difference : {V : Type 0} (n : ℕ) → RingOps V → ExpList n → ℕ → (ℕ → ExpList n) → (ℕ → V) → Polynomial n V
difference n r a size b v = term_in n r a ++ (poly_in n r).neg (of_basis (exps n) r size b v)

-- the monomial of a row less the combination of the basis with its values
abbrev pub difference_of : {E V : Type 0} → Meaning E V → (n : ℕ) → List Exp → TableRow E → Polynomial n V
difference_of m n basis row = difference n m.scalars.ops (exp_of n row.monomial) (length basis) (basis_at n basis) (values_in m row)

-- it is the sum of the products of the multipliers of the row and the h(i), up to degree k
abbrev pub IsTableRow : {E V : Type 0} → Meaning E V → (n k : ℕ) → List Exp → (ℕ → Polynomial n V) → TableRow E → Type 0
IsTableRow m n k basis h row = SameToIn n m.scalars.ops k (difference_of m n basis row) (sum_of_products n m.scalars.ops (polynomial_at n m.value row.multipliers) h)

-- a sum of the difference of a row, or a product or a sum of its combination, up to degree k, is high
abbrev pub IsTableRowHigh : {E V : Type 0} → Meaning E V → (n k : ℕ) → List Exp → (ℕ → Polynomial n V) → TableRow E → Type 0
IsTableRowHigh m n k basis h row =
    IsHigh (sums_heights (exps n) m.scalars (cut_in n m.scalars.ops k (difference_of m n basis row)))
    ⊎ AreProductsHigh n m.scalars k (polynomial_at n m.value row.multipliers) h

-- the row with number i, and an empty one past the last one
abbrev pub table_row_at : {E : Type 0} → List (TableRow E) → ℕ → TableRow E
table_row_at table i = get_or table i (record { monomial = record { e = [] }; values = []; multipliers = [] })

-- that of some row is high
pub record AreTableRowsHigh {E V : Type 0} (m : Meaning E V) (n k : ℕ) (basis : List Exp) (h : ℕ → Polynomial n V) (table : List (TableRow E)) : Type 0 where
  pub place : ℕ
  pub within : place < length table
  pub high : IsTableRowHigh m n k basis h (table_row_at table place)
