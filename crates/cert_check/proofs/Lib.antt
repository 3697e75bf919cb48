pub mod Findings
pub mod GermCarry
pub mod OneVerdict
