pub mod CarriedTest
pub mod Inverses
pub mod ReportChanges
