pub mod Powers
pub mod Calculations
pub mod Lines
