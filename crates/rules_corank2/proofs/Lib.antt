mod Divisors
pub mod MadeMoves
mod Pairs
pub mod OrderedTerms
pub mod TwoPuts
pub mod PlaneTerms
pub mod PlaneMoves
pub mod Quotients
pub mod FinishTails
pub mod FinishChoices
pub mod FinishChosen
pub mod FinishHeights
pub mod FinishKills
pub mod FinishMoves
pub mod FinishPuts
pub mod PlaneMatrices
pub mod BinaryMoves
