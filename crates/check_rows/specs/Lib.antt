pub mod Lists
pub mod Products
pub mod Rows
pub mod Functionals
pub mod ItemHeights
