-- The conditions of a certificate, one for each item: what each says of the line and of the report.
use Rattle.std.specs.Prelude.{◌≡◌, ℕ, ◌+◌, ◌*◌, ◌≤◌, IsTrue, List, [], ◌++◌, map, length, slice_index_or, nat_le, sum}
use Rattle.std.specs.List.{list_all, AllByRecursion}
use Rattle.ring_theory.specs.Ring.{RingOps}
use Rattle.ring_law.specs.declared.fraction.Frac.{Frac}
use Rattle.ext_algebra.specs.declared.algebra.Algebra.{Algebra}
use Rattle.ext_algebra.specs.declared.algebra.Ext.{Ext}
use Rattle.ext_algebra.specs.Algebra.{Value, ops, scalars, value_in, IsInverse}
use Rattle.poly_law.specs.ExpList.{ExpList, exps}
use Rattle.poly_law.specs.Poly.{IsInvertible, SameTo, MatherFails, IsMatherRow, IsQuotientTable}
use Rattle.poly_law.specs.Polynomials.{substitute}
use Rattle.mono_exp.specs.Exponents.{monomials_of, monomials_below}
use Rattle.line_syntax.specs.Syntax.{Line, names_of}
use Rattle.germ_law.specs.Germ.{germ_of}
use Rattle.determinacy.specs.declared.row.MatherRow.{MatherRow}
use Rattle.milnor_alg.specs.Rows.{row_of}
use Rattle.normal_forms.specs.declared.family.Family.{Family}
use Rattle.normal_forms.specs.declared.pattern.Pattern.{Pattern}
use Rattle.normal_forms.specs.Monomials.{in_eight, monomials_in, is_split, square_of, square_variables}
use Rattle.normal_forms.specs.Families.{sum_of, kind_of}
use Rattle.normal_forms.specs.Units.{unit_values, IsModulus}
use Rattle.normal_forms.specs.Forms.{IsFormOf, IsPatternOf}
use Rattle.poly_text.specs.Polynomials.{name_text}
use Rattle.cert_text.specs.declared.report.Carried.{Carried}
use Rattle.cert_text.specs.declared.report.Named as named_type
use Rattle.cert_text.specs.declared.report.Limit as limit_type
use Rattle.cert_text.specs.declared.report.Unresolved as unresolved_type
use Rattle.jet_law.specs.Canonical.{monomial_in}
use Rattle.report_law.specs.Polynomials.{PolynomialOver, terms_in, jet_at, value_at, lifted, residual_part, coefficient_at}

-- ---- the parts of a carried germ

-- how many variables it has
abbrev pub variables_of : Carried → ℕ
variables_of c = length c.names

-- the ring of its algebra
abbrev pub ring_of : (c : Carried) → RingOps (Value c.algebra)
ring_of c = ops c.algebra

-- the printed jet or form
abbrev pub jet_of : (c : Carried) → PolynomialOver (variables_of c) c.algebra
jet_of c = terms_in (variables_of c) c.algebra c.jet.terms

-- its residual part, in the first variables, as many as the corank
abbrev pub residual_of : (c : Carried) → PolynomialOver c.corank c.algebra
residual_of c = residual_part c.corank c.algebra c.jet.terms

-- what the change puts for variable i
abbrev pub part_of : (c : Carried) → ℕ → PolynomialOver (variables_of c) c.algebra
part_of c i = jet_at (variables_of c) c.algebra c.change.parts i

-- the entry of the printed matrix in row i and column k
abbrev pub matrix_of : (c : Carried) → ℕ → ℕ → Value c.algebra
matrix_of c i k = value_at c.algebra c.change.inverse (variables_of c * i + k)

-- ---- the items of a carried germ

-- the names are those of the line, the sizes fit, and from five variables on the order is at most 12
pub record IsShape (l : Line) (c : Carried) : Type 0 where
  pub names : map name_text c.names ≡ names_of l
  pub parts : length c.change.parts ≡ length c.names
  pub corank : c.corank ≤ length c.names
  pub order : 5 ≤ length c.names → c.order ≤ 12

-- the change has an invertible linear part: the printed matrix is its inverse on both sides
abbrev pub IsInvertibleChange : Carried → Type 0
IsInvertibleChange c = IsInvertible (exps (variables_of c)) (ring_of c) (part_of c) (matrix_of c)

-- the germ of the line over the algebra
abbrev pub germ_in : (l : Line) (a : Algebra) → PolynomialOver (length (names_of l)) a
germ_in l a = lifted (length (names_of l)) a (germ_of l)

-- the change carries the line's germ to the printed jet, modulo the terms of degree above the order
abbrev pub IsCarriedTo : Line → Carried → Type 0
IsCarriedTo l c =
    let n = length (names_of l) in
    SameTo (exps n) (ring_of c) c.order
    (terms_in n c.algebra c.jet.terms)
    (substitute n n (ring_of c) (λ i. jet_at n c.algebra c.change.parts i) (germ_in l c.algebra))

-- ---- the items of a name

-- the jet is a form of the family
abbrev pub IsForm : Family → Carried → Type 0
IsForm family c = IsFormOf family (variables_of c) c.corank c.jet.terms

-- the coefficients of the family's sum, in order
abbrev pub coefficients_of : (c : Carried) → Family → List (Value c.algebra)
coefficients_of c family = map (coefficient_at c.corank c.algebra (residual_of c)) (sum_of family)

-- the coefficients of the squares, in the order of the variables
abbrev pub squares_of : (c : Carried) → List (Value c.algebra)
squares_of c = map (λ i. coefficient_at (variables_of c) c.algebra (jet_of c) (square_of i).e) (square_variables (variables_of c) c.corank)

-- the printed values are the unit values of the form, and each stands beside its inverse
pub record AreUnits (r : named_type.Named) : Type 0 where
  pub values : map (λ u. value_in r.carried.algebra u.0) r.units
      ≡ unit_values (scalars r.carried.algebra) (kind_of r.family) (coefficients_of r.carried r.family) ++ squares_of r.carried
  pub inverses : AllByRecursion (λ u. IsInverse r.carried.algebra u.0 u.1) r.units

-- the modulus line is true of the form
abbrev pub IsModulusOf : named_type.Named → Type 0
IsModulusOf r = IsModulus r.carried.algebra (kind_of r.family) (coefficients_of r.carried r.family) r.modulus

-- the row of one monomial is true of the residual part at the order
abbrev pub IsRowOf : Carried → MatherRow (Ext Frac) → Type 0
IsRowOf c row =
    IsMatherRow (exps c.corank) (ring_of c) c.order (residual_of c) (monomial_in c.corank row.monomial.e) (jet_at c.corank c.algebra row.multipliers)

-- one row for each monomial of degree k + 1 in the residual variables, in order, k the order, and each is true of the residual part
pub record AreMatherRows (c : Carried) (rows : List (MatherRow (Ext Frac))) : Type 0 where
  pub monomials : map (λ row. row.monomial) rows ≡ map in_eight (monomials_of c.corank (c.order + 1))
  pub each : AllByRecursion (IsRowOf c) rows

-- the monomials of the basis, by number
abbrev pub basis_of : (r : named_type.Named) → ℕ → ExpList r.carried.corank
basis_of r b = monomial_in r.carried.corank (slice_index_or r.quotient.basis b (in_eight [])).e

-- the values of a monomial, one for each monomial of the basis
abbrev pub values_of_row : (r : named_type.Named) → ExpList r.carried.corank → ℕ → Value r.carried.algebra
values_of_row r m b = value_at r.carried.algebra (row_of r.carried.corank r.quotient.table m).values b

-- the multipliers of a monomial, one for each partial
abbrev pub multipliers_of_row : (r : named_type.Named) → ExpList r.carried.corank → ℕ → PolynomialOver r.carried.corank r.carried.algebra
multipliers_of_row r m i = jet_at r.carried.corank r.carried.algebra (row_of r.carried.corank r.quotient.table m).multipliers i

-- one row for each monomial of degree at most the order, in order; the rows show that the jets of the order modulo the partials of the
-- residual part are free with the basis; and the Milnor number is the size of the basis
pub record IsMilnorTable (r : named_type.Named) : Type 0 where
  pub monomials : map (λ row. row.monomial) r.quotient.table ≡ map in_eight (monomials_below r.carried.corank (r.carried.order + 1))
  pub quotient : IsQuotientTable (exps r.carried.corank) (ring_of r.carried) r.carried.order (residual_of r.carried)
      (length r.quotient.basis) (basis_of r) (values_of_row r) (multipliers_of_row r)
  pub number : r.milnor ≡ length r.quotient.basis

-- ---- the items of the other answers

-- the jet is in the pattern
abbrev pub IsInPattern : Pattern → Carried → Type 0
IsInPattern pattern c = IsPatternOf pattern (variables_of c) c.corank c.jet.terms

-- the jet is split, and the printed functional shows that its residual part has no rows at the order
pub record IsLimitFunctional (r : limit_type.Limit) : Type 0 where
  pub split : IsTrue (is_split (variables_of r.carried) r.carried.corank r.carried.jet.terms)
  pub low : IsTrue (list_all (λ m. nat_le (sum m.e) (r.carried.order + 1)) (monomials_in r.functional))
  pub functional : MatherFails (exps r.carried.corank) (ring_of r.carried) r.carried.order (residual_of r.carried)
      (terms_in r.carried.corank r.carried.algebra r.functional) (monomial_in r.carried.corank r.at.e)

-- the jet is split, and its residual part has rows at the order
pub record IsDetermined (r : unresolved_type.Unresolved) : Type 0 where
  pub split : IsTrue (is_split (variables_of r.carried) r.carried.corank r.carried.jet.terms)
  pub rows : AreMatherRows r.carried r.mather
