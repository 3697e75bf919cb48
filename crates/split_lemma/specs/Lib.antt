pub mod Splits
pub mod SplitForms
