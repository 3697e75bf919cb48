pub mod Words
pub mod Names
pub mod Text
pub mod WellFormed
pub mod BadText
