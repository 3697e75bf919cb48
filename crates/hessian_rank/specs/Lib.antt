pub mod Sound
pub mod Diagonals
pub mod Stages
pub mod Answers
