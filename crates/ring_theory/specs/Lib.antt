pub mod Ring
pub mod Integers
pub mod Gcd
pub mod Rational
pub mod Scalars
pub mod Height
pub mod Laws
