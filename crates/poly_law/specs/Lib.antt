pub mod Sums
pub mod Exps
pub mod ExpList
pub mod Poly
pub mod Polynomials
pub mod Laws
pub mod Examples
pub mod Sorted
