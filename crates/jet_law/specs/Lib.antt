pub mod Heights
pub mod Terms
pub mod Canonical
