pub mod Numbers
pub mod Polynomials
