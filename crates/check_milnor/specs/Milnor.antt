-- The item Milnor of a report by what is tested, and when its numbers are high.
use Rattle.std.specs.Prelude.{◌≡◌, ℕ, suc, map, ◌<◌, ◌≤◌, ◌⊎◌, List, [], length, get_or, sum}
use Rattle.std.specs.List.{AllByRecursion}
use Rattle.ring_theory.specs.Scalars.{Meaning}
use Rattle.ext_algebra.specs.Algebra.{scalars, algebra_meaning}
use Rattle.poly_law.specs.Sums.{unit_at}
use Rattle.poly_law.specs.Polynomials.{Polynomial}
use Rattle.mono_exp.specs.declared.exponent.Exp.{Exp}
use Rattle.mono_exp.specs.Exponents.{exponents, monomials_below}
use Rattle.jet_law.specs.Terms.{exp_of}
use Rattle.jacobian_row.specs.Rows.{IsPartialHigh}
use Rattle.jacobian_row.specs.Multiples.{AreMultiples}
use Rattle.jacobian_row.specs.declared.multiple.Multiple.{Multiple}
use Rattle.milnor_alg.specs.declared.quotient.TableRow.{TableRow}
use Rattle.normal_forms.specs.Monomials.{in_eight}
use Rattle.check_rows.specs.Lists.{ArePartialLists, list_at}
use Rattle.cert_text.specs.declared.report.Named as named_type
use Rattle.report_law.specs.Items.{residual_of}
use Rattle.check_quotient.specs.Tables as images
use Rattle.table_rows.specs.Tables as rows

-- in n variables up to degree k, for the lists of the partials: the basis is low, its rows are unit rows, the multiples of the partials go to 0,
-- and each row is true of its monomial
pub record IsTableOf {E V : Type 0} (m : Meaning E V) (n k : ℕ) (basis : List Exp) (partials : List (List (Exp × E))) (multiples : List Multiple) (table : List (TableRow E)) : Type 0 where
  pub low : AllByRecursion (λ b. sum b.e ≤ k) basis
  pub units : (i j : ℕ) → i < length basis → j < length basis → images.value_in m n table (exp_of n (get_or basis i (in_eight []))) j ≡ unit_at m.scalars.ops i j
  pub kernel : AllByRecursion (images.IsMultipleInKernel m n table (length basis) k (list_at n m.value partials)) multiples
  pub rows : AllByRecursion (rows.IsTableRow m n k basis (list_at n m.value partials)) table

-- the value of the table at one of the multiples is high, or a number of a row
abbrev pub IsNumberHigh : {E V : Type 0} → Meaning E V → (n k : ℕ) → List Exp → List (List (Exp × E)) → List Multiple → List (TableRow E) → Type 0
IsNumberHigh m n k basis partials multiples table =
    images.AreImagesHigh m n table (length basis) k (list_at n m.value partials) multiples
    ⊎ rows.AreTableRowsHigh m n k basis (list_at n m.value partials) table

-- one row for each monomial of degree at most the order, in order, by the exponents
abbrev pub IsWhole : named_type.Named → Type 0
IsWhole r = map (λ row. exponents r.carried.corank row.monomial.e) r.quotient.table ≡ monomials_below r.carried.corank (suc r.carried.order)

-- by the lists of the partials and the multiples of degree up to k, the value of the table at a multiple is high, or a number of a row
pub record IsTableHigh {E V : Type 0} (m : Meaning E V) (n k : ℕ) (g : Polynomial n V) (basis : List Exp) (table : List (TableRow E)) : Type 0 where
  pub partials : List (List (Exp × E))
  pub are_partials : ArePartialLists m n g partials
  pub multiples : List Multiple
  pub are_multiples : AreMultiples n 0 k multiples
  pub high : IsNumberHigh m n k basis partials multiples table

-- a partial of the residual part is high, or a number of the table
abbrev pub IsMilnorHigh : named_type.Named → Type 0
IsMilnorHigh r =
    let c = r.carried in
    IsPartialHigh c.corank (scalars c.algebra) (residual_of c)
    ⊎ IsTableHigh (algebra_meaning c.algebra) c.corank c.order (residual_of c) r.quotient.basis r.quotient.table
