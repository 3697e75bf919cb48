pub mod Numbers
pub mod Multiples
pub mod Rows
pub mod Multipliers
