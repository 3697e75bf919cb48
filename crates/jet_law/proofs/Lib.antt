pub mod High
pub mod Gather
pub mod CanonicalLemmas
pub mod TermLemmas
