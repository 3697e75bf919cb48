pub mod Halves
pub mod Belonging
pub mod CompletedTerms
pub mod SplitParts
pub mod SplitOff
pub mod Residuals
pub mod SplitMoves
pub mod SplitLaws
