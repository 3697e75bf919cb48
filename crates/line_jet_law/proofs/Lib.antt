pub mod Bridge
pub mod OneTerm
pub mod TermByTerm
pub mod Multiples
pub mod RingLaws
pub mod LinearTerms
pub mod FractionValues
