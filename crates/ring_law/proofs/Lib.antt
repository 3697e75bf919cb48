pub mod FractionLaws
pub mod SumHeights
pub mod Exits
pub mod Loops
