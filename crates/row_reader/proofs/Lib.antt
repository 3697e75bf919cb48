pub mod Series
pub mod WordTexts
pub mod ValueTexts
pub mod RowTexts
