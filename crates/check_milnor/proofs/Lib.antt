pub mod TableRows
pub mod Join
pub mod KernelLaw
pub mod Requirements
pub mod TableTest
pub mod Decided
