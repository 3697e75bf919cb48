pub mod JetTerms
pub mod Jets
pub mod Gathered
