pub mod Reduced
pub mod PowerLemmas
pub mod Monomials
pub mod Tables
pub mod Multiples
pub mod KeptLemmas
pub mod BlockLemmas
