pub mod MultipliedHeights
pub mod FirstLeads
