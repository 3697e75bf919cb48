-- What the quotient answers, and when it is refused.
use Rattle.std.specs.Prelude.{◌≡◌, ℕ, ◌+◌, ◌⊎◌, Bool, List, map, filter, length}
use Rattle.std.specs.List.{AllByRecursion}
use Rattle.ring_theory.specs.Scalars.{Scalars, Meaning}
use Rattle.poly_law.specs.ExpList.{ExpList, exps}
use Rattle.poly_law.specs.Poly.{IsQuotientTable}
use Rattle.poly_law.specs.Polynomials.{Polynomial, term_in}
use Rattle.mono_exp.specs.declared.exponent.Exp.{Exp}
use Rattle.mono_exp.specs.Exponents.{exponents, monomials_below}
use Rattle.jet_law.specs.Terms.{exp_of}
use Rattle.jet_law.specs.Canonical.{monomial_in}
use Rattle.jet_poly.specs.JetTerms.{JetTerms}
use Rattle.jet_poly.specs.Jets.{polynomial_of}
use Rattle.lin_row.specs.Plain.{ReductionOfIsHigh}
use Rattle.jacobian_row.specs.Numbers.{entries_of}
use Rattle.jacobian_row.specs.Multiples.{pairs_between, multiple_to}
use Rattle.jacobian_row.specs.Rows.{IsPartialHigh, polynomial_at}
use Rattle.determinacy.specs.Tests.{IsMonomialIn, IsJetOf}
use Rattle.milnor_alg.specs.declared.quotient.TableRow.{TableRow}
use Rattle.milnor_alg.specs.declared.quotient.JetQuotient.{JetQuotient}
use Rattle.milnor_alg.specs.Rows.{basis_at, row_of, values_at}

-- the multipliers of a monomial, one for each partial
abbrev pub multipliers_at : {E V : Type 0} → Meaning E V → (n : ℕ) → List (TableRow E) → ExpList n → ℕ → Polynomial n V
multipliers_at m n table b i = polynomial_at n m.value (row_of n table b).multipliers i

-- a row of the table of a basis of this size: valid values, one for each monomial of the basis, and jets of order k, one for each variable
pub record IsTableRow {E V : Type 0} (m : Meaning E V) (n k size : ℕ) (row : TableRow E) : Type 0 where
  pub monomial : IsMonomialIn n row.monomial
  pub values : length row.values ≡ size
  pub elems : AllByRecursion m.is_elem row.values
  pub multipliers : length row.multipliers ≡ n
  pub jets : AllByRecursion (IsJetOf m n k) row.multipliers

-- some of the monomials of degree at most k in n variables, in the monomial order
pub record AreSomeMonomials (n k : ℕ) (monomials : List Exp) : Type 0 where
  pub are_in : AllByRecursion (IsMonomialIn n) monomials
  pub chosen : List ℕ → Bool
  pub list : map (λ a. exponents n a.e) monomials ≡ filter chosen (monomials_below n (k + 1))

-- the truncated Milnor algebra of g at k: a basis, some of the monomials of degree at most k in the variables of g, and one row for each of these monomials,
-- both in the monomial order, which give the k-jets modulo the Jacobian ideal of g
pub record IsQuotientOf {E V : Type 0} (m : Meaning E V) (g : JetTerms E) (k : ℕ) (q : JetQuotient E) : Type 0 where
  pub basis : AreSomeMonomials g.n k q.basis
  pub monomials : map (λ row. exponents g.n row.monomial.e) q.table ≡ monomials_below g.n (k + 1)
  pub rows : AllByRecursion (IsTableRow m g.n k (length q.basis)) q.table
  pub table : IsQuotientTable (exps g.n) m.scalars.ops k (polynomial_of m g) (length q.basis) (basis_at g.n q.basis) (values_at m g.n q.table) (multipliers_at m g.n q.table)

-- the rows of the quotient by their entries: the multiples x^a * ∂g/∂x(i) of degree of a up to k, cut at k, monomial by monomial in the order and
-- within these variable by variable; in the column r stands the coefficient at the monomial with number r
abbrev pub quotient_rows : {V : Type 0} (n : ℕ) → Scalars V → ℕ → Polynomial n V → List (ℕ → V)
quotient_rows n s k g = map (λ p. entries_of n s.ops (multiple_to n s.ops k g (monomial_in n p.0) p.1)) (pairs_between n 0 k)

-- and its targets: the monomials of degree up to k
abbrev pub quotient_targets : {V : Type 0} → ℕ → Scalars V → ℕ → List (ℕ → V)
quotient_targets n s k = map (λ a. entries_of n s.ops (term_in n s.ops (monomial_in n a))) (monomials_below n (k + 1))

-- a partial of g is high, or the plain row reduction of the rows with that of the targets is
abbrev pub IsQuotientHigh : {V : Type 0} (n : ℕ) → Scalars V → ℕ → Polynomial n V → Type 0
IsQuotientHigh n s k g = IsPartialHigh n s g ⊎ ReductionOfIsHigh s (quotient_rows n s k g) (quotient_targets n s k)
