pub mod Exponents
pub mod Laws
