pub mod ReadLaws
pub mod Kept
