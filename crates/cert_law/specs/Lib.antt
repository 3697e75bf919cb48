pub mod Unique
pub mod Fields
pub mod Laws
