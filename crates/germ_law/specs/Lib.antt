pub mod Germ
pub mod Reading
pub mod Jets
