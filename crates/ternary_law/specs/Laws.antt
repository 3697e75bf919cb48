-- The laws that the crate's functions state.
use Rattle.std.specs.Prelude.{◌≡◌, ℕ, List}
use Rattle.ring_theory.specs.Height.{rational_scalars}
use Rattle.ring_theory.specs.Rational.{Rational, rational_ops}
use Rattle.poly_law.specs.Polynomials.{Polynomial}
use Rattle.ternary_law.specs.Linear.{HasRank, SpansKernel, HasKernelPlane, HasNoKernel}
use Rattle.ternary_law.specs.Matrices.{Matrix, AreInverse}
use Rattle.ternary_law.specs.Cubics.{SpansCommonLines}
use Rattle.ternary_law.specs.Shapes.{Shape, HasShape}
use Rattle.ternary_law.specs.Steps.{axis_matrix, plane_matrix}

-- rows have one rank
abbrev pub RanksAreUnique : Type 0
RanksAreUnique = (n : ℕ) (rows : List (ℕ → Rational)) (j k : ℕ) → HasRank rational_ops n rows j → HasRank rational_ops n rows k → j ≡ k

-- a kernel of dimension 1 is not 0 and has no two independent vectors
abbrev pub KernelsAreApart : Type 0
KernelsAreApart =
    (n : ℕ) (rows : List (ℕ → Rational)) (v : ℕ → Rational) → SpansKernel rational_ops n rows v
    → (HasNoKernel rational_ops n rows → ⊥) × (HasKernelPlane rational_ops n rows → ⊥)

-- the axis rule is the same for all vectors that span a kernel of rows with three columns
abbrev pub AxisRuleIsUnique : Type 0
AxisRuleIsUnique =
    (rows : List (ℕ → Rational)) (p : ℕ) (v w : ℕ → Rational) → SpansKernel rational_ops 3 rows v → SpansKernel rational_ops 3 rows w
    → axis_matrix rational_scalars p w ≡ axis_matrix rational_scalars p v

-- the plane rule is the same for all lines that span the common lines of a cubic
abbrev pub PlaneRuleIsUnique : Type 0
PlaneRuleIsUnique =
    (f : Polynomial 3 Rational) (p : ℕ) (k l : ℕ → Rational) → SpansCommonLines rational_scalars f k → SpansCommonLines rational_scalars f l
    → plane_matrix rational_scalars p l ≡ plane_matrix rational_scalars p k

-- a matrix of three rows has one inverse
abbrev pub InversesAreUnique : Type 0
InversesAreUnique = (m i j : Matrix Rational) → AreInverse rational_scalars m i → AreInverse rational_scalars m j → i ≡ j

-- a ternary cubic has one shape, with one linear move
abbrev pub ShapesAreUnique : Type 0
ShapesAreUnique = (c : List Rational) (t u : Shape) → HasShape c t → HasShape c u → t ≡ u
