-- The laws of split forms and of the split move, for numbers with laws.
use Rattle.ring_theory.specs.Scalars.{Scalars, ScalarLaws, HasInverses}
use Rattle.split_lemma.specs.SplitForms.{SplitSplits, SplitKeeps, SplitFormsAreSplit, ResidualLow, SquaresAgree}
use Rattle.split_lemma.proofs.Residuals
use Rattle.split_lemma.proofs.SplitMoves

module _ {V : Type 0} (s : Scalars V) (laws : ScalarLaws s) where
  pub split_splits : HasInverses s → SplitSplits s
  split_splits inverts n c o two f start split squares = SplitMoves.splits n c o two s laws f start inverts split squares

  pub split_keeps : SplitKeeps s
  split_keeps n c o fewer two f start = SplitMoves.keeps n c o two s laws f start fewer

  pub split_forms_are_split : SplitFormsAreSplit s
  split_forms_are_split n c k fewer f own split = Residuals.is_split n c fewer s laws k f own split

  pub residual_low : ResidualLow s
  residual_low n c k d fewer f start = Residuals.residual_low n c fewer s laws k d f start

  pub squares_agree : SquaresAgree s
  squares_agree n c f g e = Residuals.squares_agree n s c f g e
