-- What Mather's test answers, and when it is refused.
use Rattle.std.specs.Prelude.{◌≡◌, ℕ, ◌+◌, ◌⊎◌, List, map, length}
use Rattle.std.specs.List.{All, AllByRecursion}
use Rattle.ring_theory.specs.Scalars.{Scalars, Meaning}
use Rattle.poly_law.specs.ExpList.{exps}
use Rattle.poly_law.specs.Poly.{IsMatherRow, MatherFails}
use Rattle.poly_law.specs.Polynomials.{Polynomial, term_in}
use Rattle.mono_exp.specs.declared.exponent.Exp.{Exp}
use Rattle.mono_exp.specs.Exponents.{IsIn, exponents, monomials_of}
use Rattle.jet_law.specs.Terms.{exp_of, poly_of}
use Rattle.jet_law.specs.Canonical.{monomial_in}
use Rattle.jet_poly.specs.JetTerms.{JetTerms, IsRising}
use Rattle.jet_poly.specs.Jets.{IsJet, polynomial_of}
use Rattle.lin_row.specs.Plain.{EliminationIsHigh}
use Rattle.jacobian_row.specs.Numbers.{entries_of}
use Rattle.jacobian_row.specs.Multiples.{pairs_between, multiple_to}
use Rattle.jacobian_row.specs.Rows.{IsPartialHigh, polynomial_at}
use Rattle.determinacy.specs.declared.row.MatherRow.{MatherRow}
use Rattle.determinacy.specs.declared.row.MatherTest.{MatherTest}
use Rattle.determinacy.specs.declared.row.MatherTest.TheVariants.{Holds, Fails}

-- a monomial in the first n variables, by eight exponents
pub record IsMonomialIn (n : ℕ) (a : Exp) : Type 0 where
  pub unused : IsIn n a.e
  pub long : length a.e ≡ 8

-- a jet of order k in n variables, its terms in the monomial order with eight exponents each
pub record IsJetOf {E V : Type 0} (m : Meaning E V) (n k : ℕ) (f : JetTerms E) : Type 0 where
  pub jet : IsJet m f
  pub variables : f.n ≡ n
  pub order : f.order ≡ k
  pub rising : IsRising f.terms
  pub long : All (λ t. length t.0.e ≡ 8) f.terms

-- a row of the test at k for g: the monomial is, modulo degree k + 2, the combination of the partials with the multipliers, which are jets of
-- order k in the variables of g without terms of degree below 2
pub record IsRow {E V : Type 0} (m : Meaning E V) (g : JetTerms E) (k : ℕ) (row : MatherRow E) : Type 0 where
  pub monomial : IsMonomialIn g.n row.monomial
  pub count : length row.multipliers ≡ g.n
  pub jets : AllByRecursion (IsJetOf m g.n k) row.multipliers
  pub is_row : IsMatherRow (exps g.n) m.scalars.ops k (polynomial_of m g) (exp_of g.n row.monomial) (polynomial_at g.n m.value row.multipliers)

-- one row for each monomial of degree k + 1 in the variables of g, in the monomial order
pub record AreRows {E V : Type 0} (m : Meaning E V) (g : JetTerms E) (k : ℕ) (rows : List (MatherRow E)) : Type 0 where
  pub monomials : map (λ row. exponents g.n row.monomial.e) rows ≡ monomials_of g.n (k + 1)
  pub each : AllByRecursion (IsRow m g k) rows

-- the functional excludes the condition at k for g at the monomial `at`: it is 0 on the multiples x^a * ∂g/∂x(i) of degree of a at least 2, cut at
-- k + 1, and 1 on `at`, of degree k + 1; its monomials have eight exponents each and degree at most k + 1, and rise, and its values are valid and not zero
pub record IsFailure {E V : Type 0} (m : Meaning E V) (g : JetTerms E) (k : ℕ) (functional : List (Exp × E)) (at : Exp) : Type 0 where
  pub monomial : IsMonomialIn g.n at
  pub values : IsJet m (record { n = g.n; order = k + 1; terms = functional })
  pub rising : IsRising functional
  pub long : All (λ t. length t.0.e ≡ 8) functional
  pub fails : MatherFails (exps g.n) m.scalars.ops k (polynomial_of m g) (poly_of g.n m.value functional) (exp_of g.n at)

-- the answer of the test: rows, or a functional that excludes them
abbrev pub IsAnswer : {E V : Type 0} → Meaning E V → JetTerms E → ℕ → MatherTest E → Type 0
IsAnswer m g k (Holds rows) = AreRows m g k rows
IsAnswer m g k (Fails functional at) = IsFailure m g k functional at

-- no jet has both answers
abbrev pub AnswersExclude : {E V : Type 0} → Meaning E V → Type 0
AnswersExclude {E} {V} m = (g : JetTerms E) (k : ℕ) (rows : List (MatherRow E)) (functional : List (Exp × E)) (at : Exp) → AreRows m g k rows → IsFailure m g k functional at → ⊥

-- the rows of the test by their entries: the multiples x^a * ∂g/∂x(i) of degree of a from 2 to k, cut at k + 1, monomial by monomial in the order and
-- within these variable by variable; in the column r stands the coefficient at the monomial with number r
abbrev pub test_rows : {V : Type 0} (n : ℕ) → Scalars V → ℕ → Polynomial n V → List (ℕ → V)
test_rows n s k g = map (λ p. entries_of n s.ops (multiple_to n s.ops (k + 1) g (monomial_in n p.0) p.1)) (pairs_between n 2 k)

-- and its targets: the monomials of degree k + 1
abbrev pub test_targets : {V : Type 0} → ℕ → Scalars V → ℕ → List (ℕ → V)
test_targets n s k = map (λ a. entries_of n s.ops (term_in n s.ops (monomial_in n a))) (monomials_of n (k + 1))

-- a partial of g is high, or the plain row reduction of the rows and the targets is
abbrev pub IsTestHigh : {V : Type 0} (n : ℕ) → Scalars V → ℕ → Polynomial n V → Type 0
IsTestHigh n s k g = IsPartialHigh n s g ⊎ EliminationIsHigh s (test_rows n s k g) (test_targets n s k)
