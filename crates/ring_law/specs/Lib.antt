pub mod Fraction
pub mod Refusals
