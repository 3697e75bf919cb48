pub mod GatheredLemmas
pub mod Output
pub mod Steps
pub mod Rows
pub mod KeptTerms
pub mod Derived
pub mod Coefficients
