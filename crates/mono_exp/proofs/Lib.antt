pub mod Lists
pub mod Counting
pub mod Table
pub mod NumberLemmas
pub mod ListLemmas
pub mod OrderLaws
