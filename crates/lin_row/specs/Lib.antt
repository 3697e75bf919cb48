pub mod Lines
pub mod System
pub mod Plain
pub mod Rows
pub mod Forms
pub mod Stages
pub mod Systems
pub mod Reductions
