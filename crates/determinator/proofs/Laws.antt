-- The laws of the plan's split move, over each algebra that is a field.
use Rattle.ext_algebra.specs.declared.algebra.Algebra.{Algebra}
use Rattle.ext_algebra.specs.Algebra.{scalars, IsFieldAlgebra}
use Rattle.ext_algebra.specs.AlgebraLaws.{algebra_scalar_laws, algebra_inverts}
use Rattle.split_lemma.specs.SplitForms.{SplitSplits, SplitKeeps, SplitFormsAreSplit, ResidualLow, SquaresAgree}
use Rattle.split_lemma.proofs.SplitLaws as laws

pub split_splits : (a : Algebra) → IsFieldAlgebra a → SplitSplits (scalars a)
split_splits a field = laws.split_splits (scalars a) (algebra_scalar_laws a) (algebra_inverts a field.irreducible)

pub split_keeps : (a : Algebra) → IsFieldAlgebra a → SplitKeeps (scalars a)
split_keeps a field = laws.split_keeps (scalars a) (algebra_scalar_laws a)

pub forms_are_split : (a : Algebra) → SplitFormsAreSplit (scalars a)
forms_are_split a = laws.split_forms_are_split (scalars a) (algebra_scalar_laws a)

pub residual_low : (a : Algebra) → ResidualLow (scalars a)
residual_low a = laws.residual_low (scalars a) (algebra_scalar_laws a)

pub squares_agree : (a : Algebra) → SquaresAgree (scalars a)
squares_agree a = laws.squares_agree (scalars a) (algebra_scalar_laws a)
