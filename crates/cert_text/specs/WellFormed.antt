-- Which reports have a text.
use Rattle.std.specs.Prelude.{◌≡◌, ℕ, ◌*◌, ◌^◌, ◌≤◌, ◌<◌, Bool, true, IsTrue, not, ◌&&◌, List, length, take, drop, sum, nat_le, nat_lt, ◌==◌}
use Rattle.std.specs.List.{list_all, AllByRecursion}
use Rattle.ring_law.specs.declared.fraction.Frac.{Frac}
use Rattle.ext_algebra.specs.declared.algebra.Algebra.{Algebra}
use Rattle.ext_algebra.specs.declared.algebra.Ext.{Ext}
use Rattle.ext_algebra.specs.Fractions.{is_frac, is_zero_frac}
use Rattle.ext_algebra.specs.Algebra.{is_element, is_algebra}
use Rattle.mono_exp.specs.declared.exponent.Exp.{Exp}
use Rattle.jet_poly.specs.JetTerms.{JetTerms, IsRising}
use Rattle.line_syntax.specs.Syntax.{is_name}
use Rattle.germ_law.specs.Germ.{line_limit}
use Rattle.determinacy.specs.declared.row.MatherRow.{MatherRow}
use Rattle.milnor_alg.specs.declared.quotient.TableRow.{TableRow}
use Rattle.normal_forms.specs.declared.family.Family.{Family}
use Rattle.normal_forms.specs.declared.family.Family.TheVariants as families
use Rattle.normal_forms.specs.declared.modulus_line.ModulusLine.{ModulusLine}
use Rattle.normal_forms.specs.declared.modulus_line.ModulusLine.TheVariants as moduli
use Rattle.normal_forms.specs.Families.{is_family}
use Rattle.poly_text.specs.declared.name.Name.{Name}
use Rattle.cert_text.specs.declared.report.Carried.{Carried}
use Rattle.cert_text.specs.declared.report.Named as named_type
use Rattle.cert_text.specs.declared.report.Limit as limit_type
use Rattle.cert_text.specs.declared.report.Unresolved as unresolved_type
use Rattle.cert_text.specs.declared.report.Answer.{Answer}
use Rattle.cert_text.specs.declared.report.Answer.TheVariants as answers
use Rattle.cert_text.specs.declared.report.Report.{Report}
use Rattle.cert_text.specs.declared.report.Report.TheVariants as reports

-- four bytes: a name of the grammar, and zeros after it
abbrev pub is_valid_name : Name → Bool
is_valid_name name = ((length name.bytes == 4) && nat_le name.len 4) && (is_name (take name.len name.bytes) && list_all (λ b. b == 0) (drop name.len name.bytes))

-- the element is 0
abbrev pub is_zero_element : Ext Frac → Bool
is_zero_element e = is_zero_frac e.c0 && (is_zero_frac e.c1 && (is_zero_frac e.c2 && (is_zero_frac e.c3 && (is_zero_frac e.c4 && is_zero_frac e.c5))))

-- eight places, and no variable past the first n
abbrev pub is_monomial_in : ℕ → Exp → Bool
is_monomial_in n m = (length m.e == 8) && list_all (λ e. e == 0) (drop n m.e)

-- a term in n variables of degree at most the order, with a valid coefficient that is not 0
abbrev pub is_term_of : ℕ → ℕ → Algebra → Exp × Ext Frac → Bool
is_term_of n order a t = (is_monomial_in n t.0 && nat_le (sum t.0.e) order) && (is_element a t.1 && not (is_zero_element t.1))

-- a jet of this order in n variables over the algebra, its terms in the monomial order
pub record IsJetOf (n order : ℕ) (a : Algebra) (f : JetTerms (Ext Frac)) : Type 0 where
  pub variables : f.n ≡ n
  pub order_is : f.order ≡ order
  pub rising : IsRising f.terms
  pub terms : IsTrue (list_all (is_term_of n order a) f.terms)

-- the jet has no constant term
abbrev pub has_no_constant : JetTerms (Ext Frac) → Bool
has_no_constant f = list_all (λ t. nat_lt 0 (sum t.0.e)) f.terms

-- the jets of a change: of its order in its variables, without constant term
pub record IsPartOf (n order : ℕ) (a : Algebra) (f : JetTerms (Ext Frac)) : Type 0 where
  pub jet : IsJetOf n order a f
  pub no_constant : IsTrue (has_no_constant f)

-- the most entries of a list
abbrev pub list_limit : ℕ
list_limit = 1140

-- one to eight names of the grammar, as many change parts without constant term, a square matrix of that size, an order from 2 to 16, a
-- corank of at most the number of names, and a jet; all elements are valid in the algebra
pub record IsWellFormedCarried (c : Carried) : Type 0 where
  pub some_name : 1 ≤ length c.names
  pub few_names : length c.names ≤ 8
  pub names : IsTrue (list_all is_valid_name c.names)
  pub algebra : IsTrue (is_algebra c.algebra)
  pub order_at_least : 2 ≤ c.order
  pub order_at_most : c.order ≤ 16
  pub corank : c.corank ≤ length c.names
  pub change_variables : c.change.n ≡ length c.names
  pub change_order : c.change.order ≡ c.order
  pub parts_count : length c.change.parts ≡ length c.names
  pub parts : AllByRecursion (IsPartOf (length c.names) c.order c.algebra) c.change.parts
  pub matrix_size : length c.change.inverse ≡ length c.names * length c.names
  pub matrix : IsTrue (list_all (is_element c.algebra) c.change.inverse)
  pub jet : IsJetOf (length c.names) c.order c.algebra c.jet

-- a monomial in the first n variables of degree at most 17
abbrev pub is_low_monomial : ℕ → Exp → Bool
is_low_monomial n m = is_monomial_in n m && nat_le (sum m.e) 17

-- one jet for each residual variable
pub record AreJetsOf (a : Algebra) (corank order : ℕ) (fs : List (JetTerms (Ext Frac))) : Type 0 where
  pub count : length fs ≡ corank
  pub each : AllByRecursion (IsJetOf corank order a) fs

-- a row for Mather's condition; with corank 0 there is none
pub record IsRowOf (a : Algebra) (corank order : ℕ) (row : MatherRow (Ext Frac)) : Type 0 where
  pub residual : 1 ≤ corank
  pub monomial : IsTrue (is_low_monomial corank row.monomial)
  pub multipliers : AreJetsOf a corank order row.multipliers

-- a row of the table over a basis of this size
pub record IsTableRowOf (a : Algebra) (corank order size : ℕ) (row : TableRow (Ext Frac)) : Type 0 where
  pub monomial : IsTrue (is_low_monomial corank row.monomial)
  pub count : length row.values ≡ size
  pub values : IsTrue (list_all (is_element a) row.values)
  pub multipliers : AreJetsOf a corank order row.multipliers

-- a value and its inverse, both elements of the algebra
abbrev pub is_unit_pair : Algebra → Ext Frac × Ext Frac → Bool
is_unit_pair a u = is_element a u.0 && is_element a u.1

-- a monomial in the first n variables with the value of a functional there, which is not 0
abbrev pub is_functional_value : Algebra → ℕ → Exp × Ext Frac → Bool
is_functional_value a n v = is_low_monomial n v.0 && (is_element a v.1 && not (is_zero_element v.1))

-- such a monomial in the residual variables of a germ
abbrev pub is_residual_monomial : Carried → Exp → Bool
is_residual_monomial c m = is_low_monomial c.corank m

-- one multiplier for each of them, over its algebra and up to its order
abbrev pub AreMultipliers : Carried → List (JetTerms (Ext Frac)) → Type 0
AreMultipliers c fs = AreJetsOf c.algebra c.corank c.order fs

-- a row for Mather's condition of it
abbrev pub IsWellFormedRow : Carried → MatherRow (Ext Frac) → Type 0
IsWellFormedRow c row = IsRowOf c.algebra c.corank c.order row

-- a row of its table over a basis of this size
abbrev pub IsWellFormedTableRow : Carried → ℕ → TableRow (Ext Frac) → Type 0
IsWellFormedTableRow c size row = IsTableRowOf c.algebra c.corank c.order size row

-- at most as many rows as a list may have
pub record AreRows (c : Carried) (rows : List (MatherRow (Ext Frac))) : Type 0 where
  pub few : length rows ≤ list_limit
  pub each : AllByRecursion (IsWellFormedRow c) rows

-- the element or fraction of a modulus line is valid
abbrev pub is_valid_modulus : Algebra → ModulusLine → Bool
is_valid_modulus a moduli.None = true
is_valid_modulus a moduli.Form = true
is_valid_modulus a (moduli.Value e) = is_element a e
is_valid_modulus a (moduli.J x) = is_frac x

-- the numbers of a family's name are bytes
abbrev pub has_small_numbers : Family → Bool
has_small_numbers (families.A m) = nat_lt m 256
has_small_numbers (families.D m) = nat_lt m 256
has_small_numbers (families.T p q r) = nat_lt p 256 && (nat_lt q 256 && nat_lt r 256)
has_small_numbers families.E6 = true
has_small_numbers families.E7 = true
has_small_numbers families.E8 = true
has_small_numbers families.P8 = true
has_small_numbers families.X9 = true
has_small_numbers families.J10 = true
has_small_numbers families.E12 = true
has_small_numbers families.E13 = true
has_small_numbers families.E14 = true
has_small_numbers families.Z11 = true
has_small_numbers families.Z12 = true
has_small_numbers families.Z13 = true
has_small_numbers families.W12 = true
has_small_numbers families.W13 = true
has_small_numbers families.Q10 = true
has_small_numbers families.Q11 = true
has_small_numbers families.Q12 = true
has_small_numbers families.S11 = true
has_small_numbers families.S12 = true
has_small_numbers families.U12 = true

-- a family of the list whose numbers are bytes
abbrev pub IsFamily : Family → Type 0
IsFamily family = IsTrue (is_family family && has_small_numbers family)

-- a family of the list with small numbers, valid units, rows of Mather's condition, and a table over a basis of at least one monomial
pub record IsWellFormedNamed (r : named_type.Named) : Type 0 where
  pub family : IsFamily r.family
  pub carried : IsWellFormedCarried r.carried
  pub few_units : length r.units ≤ list_limit
  pub units : IsTrue (list_all (is_unit_pair r.carried.algebra) r.units)
  pub modulus : IsTrue (is_valid_modulus r.carried.algebra r.modulus)
  pub milnor : r.milnor < 2 ^ 32
  pub mather : AreRows r.carried r.mather
  pub basis_nonempty : 1 ≤ length r.quotient.basis
  pub few_in_basis : length r.quotient.basis ≤ list_limit
  pub basis : IsTrue (list_all (is_residual_monomial r.carried) r.quotient.basis)
  pub few_in_table : length r.quotient.table ≤ list_limit
  pub table : AllByRecursion (IsWellFormedTableRow r.carried (length r.quotient.basis)) r.quotient.table

-- a functional with rising monomials and values that are not 0
pub record IsWellFormedLimit (r : limit_type.Limit) : Type 0 where
  pub carried : IsWellFormedCarried r.carried
  pub at : IsTrue (is_residual_monomial r.carried r.at)
  pub few : length r.functional ≤ list_limit
  pub rising : IsRising r.functional
  pub functional : IsTrue (list_all (is_functional_value r.carried.algebra r.carried.corank) r.functional)

-- rows of Mather's condition
pub record IsWellFormedUnresolved (r : unresolved_type.Unresolved) : Type 0 where
  pub carried : IsWellFormedCarried r.carried
  pub mather : AreRows r.carried r.mather

-- columns below 2^32, a name of the grammar, or what the kind of answer carries
abbrev pub IsWellFormedAnswer : Answer → Type 0
IsWellFormedAnswer (answers.Syntax column what) = column < 2 ^ 32
IsWellFormedAnswer (answers.Literal column) = column < 2 ^ 32
IsWellFormedAnswer (answers.NotCritical variable) = IsTrue (is_valid_name variable)
IsWellFormedAnswer (answers.Range phase) = Unit {0}
IsWellFormedAnswer answers.Unbuilt = Unit {0}
IsWellFormedAnswer (answers.Named r) = IsWellFormedNamed r
IsWellFormedAnswer (answers.Outside r) = IsWellFormedCarried r.carried
IsWellFormedAnswer (answers.Limit r) = IsWellFormedLimit r
IsWellFormedAnswer (answers.Unresolved r) = IsWellFormedUnresolved r

-- at most 65,536 bytes, and no newline
pub record IsOneLine (bytes : List ℕ) : Type 0 where
  pub short : length bytes ≤ line_limit
  pub are_bytes : IsTrue (list_all (λ b. nat_lt b 256 && not (b == 10)) bytes)

-- the report has a text that is read back: a length below 2^64, or a line with a well-formed answer
abbrev pub IsWellFormed : Report → Type 0
IsWellFormed (reports.Long size) = size < 2 ^ 64
IsWellFormed (reports.Line bytes answer) = IsOneLine bytes × IsWellFormedAnswer answer
