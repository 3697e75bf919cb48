pub mod ReportJets
pub mod LiftedJets
pub mod SameTerms
pub mod OneJet
