pub mod ListLemmas
pub mod JetLemmas
pub mod RowLemmas
pub mod Multiples
pub mod FunctionalLemmas
pub mod ReportLemmas
