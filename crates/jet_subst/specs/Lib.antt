pub mod Powers
pub mod Substitutions
pub mod Parts
pub mod KeptPowers
pub mod Blocks
