mod ZeroCubics
mod NodeAxes
mod TriangleWays
pub mod OneChoice
mod Hessians
pub mod MatrixRows
mod Multiplication
mod KernelLemmas
mod CubicJets
mod Multiples
mod RowLemmas
pub mod LinearMoves
pub mod Inverses3
pub mod MovingLemmas
pub mod SteppingLemmas
pub mod ReachingLemmas
pub mod ConeLemmas
pub mod MatrixEntries
pub mod PairCases
pub mod PairingLemmas
