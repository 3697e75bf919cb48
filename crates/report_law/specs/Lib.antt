pub mod Polynomials
pub mod Items
pub mod Valid
pub mod Right
pub mod Meaning
pub mod Verdicts
