pub mod Divisors
pub mod Moves
pub mod Steps
pub mod Terms
