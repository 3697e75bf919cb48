pub mod LineJets
