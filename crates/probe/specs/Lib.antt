pub mod Chained
pub mod Over
