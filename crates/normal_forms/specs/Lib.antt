pub mod Monomials
pub mod Families
pub mod Patterns
pub mod Units
pub mod Forms
pub mod Coefficients
pub mod Distinct
