pub mod Quotients
pub mod Answers
