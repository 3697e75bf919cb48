pub mod Lines
pub mod Blocks
pub mod States
pub mod Rows
pub mod Evidence
pub mod Answers
pub mod Functional
pub mod Wholes
