mod LiftedChains
pub mod LiftedElements
mod LiftedMoves
mod OpenChains
