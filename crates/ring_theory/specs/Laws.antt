-- The laws that the crate's functions state.
use Rattle.ring_theory.specs.Ring.{IsCommRing, IsField}
use Rattle.ring_theory.specs.Integers.{int_ops}
use Rattle.ring_theory.specs.Rational.{rational_ops, rational_inv}
use Rattle.ring_theory.specs.Scalars.{ScalarLaws, HeightLaws, InverseHeightLaws}
use Rattle.ring_theory.specs.Height.{rational_scalars}

-- the whole numbers are a commutative ring
abbrev pub IntegersAreRing : Type 0
IntegersAreRing = IsCommRing int_ops

-- the rational numbers in lowest terms are a field
abbrev pub RationalsAreField : Type 0
RationalsAreField = IsField rational_ops rational_inv

-- 1 differs from 0, and the test for zero tells
abbrev pub RationalsAreScalars : Type 0
RationalsAreScalars = ScalarLaws rational_scalars

-- a product or a sum of rational numbers is at most as high as its height says
abbrev pub RationalsHaveHeights : Type 0
RationalsHaveHeights = HeightLaws rational_scalars

-- and so is an inverse
abbrev pub RationalsHaveInverseHeights : Type 0
RationalsHaveInverseHeights = InverseHeightLaws rational_scalars
