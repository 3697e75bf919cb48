-- Which of the numbers are high that the items of a change of coordinates form.
use Rattle.std.specs.Prelude.{ℕ, ◌⊎◌}
use Rattle.ring_theory.specs.Rational.{Rational}
use Rattle.ring_theory.specs.Scalars.{Scalars}
use Rattle.poly_law.specs.Exps.{variable}
use Rattle.poly_law.specs.ExpList.{exps}
use Rattle.poly_law.specs.Polynomials.{Polynomial, coefficient_in}
use Rattle.ext_algebra.specs.Algebra.{Value, scalars}
use Rattle.jet_subst.specs.Substitutions.{IsSubstHigh}
use Rattle.coord_change.specs.Changes.{IsMatrixHigh}
use Rattle.cert_text.specs.declared.report.Carried.{Carried}
use Rattle.report_law.specs.Polynomials.{lifted}
use Rattle.report_law.specs.Items.{variables_of, ring_of, part_of, matrix_of}

-- a product of the matrices w and a, in one order or the other, is high: a product of two entries, or the sum of the products of a row and a column
pub record AreProductsHigh {V : Type 0} (s : Scalars V) (n : ℕ) (w a : ℕ → ℕ → V) : Type 0 where
  pub high : IsMatrixHigh s n a w ⊎ IsMatrixHigh s n w a

-- the linear part of the change of a report: entry (i, j) is the coefficient of variable j in what is put for variable i
abbrev pub linear_part_in : (c : Carried) → ℕ → ℕ → Value c.algebra
linear_part_in c i j = coefficient_in (variables_of c) (ring_of c) (part_of c i) (variable (exps (variables_of c)) j)

-- the numbers of the item Inverse are high: those of the products of the linear part and the printed matrix
abbrev pub IsInverseHigh : Carried → Type 0
IsInverseHigh c = AreProductsHigh (scalars c.algebra) (variables_of c) (linear_part_in c) (matrix_of c)

-- the numbers of the item Carry are high for the germ g: those of the substitution of the change into g, cut at the order
abbrev pub IsCarryHigh : (c : Carried) → Polynomial (variables_of c) Rational → Type 0
IsCarryHigh c g = let n = variables_of c in IsSubstHigh (exps n) (exps n) (scalars c.algebra) c.order (part_of c) (lifted n c.algebra g)
