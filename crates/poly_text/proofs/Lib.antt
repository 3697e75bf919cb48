pub mod Factors
pub mod OnlyOne
