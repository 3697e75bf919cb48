pub mod Canonical
pub mod JetLaws
