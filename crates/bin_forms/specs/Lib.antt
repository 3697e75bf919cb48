pub mod Forms
pub mod Lines
pub mod Shapes
pub mod Quartics
pub mod Pairs
pub mod Laws
