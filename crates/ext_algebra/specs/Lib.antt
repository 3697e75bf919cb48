pub mod Fractions
pub mod Algebra
pub mod AlgebraLaws
pub mod ExtRing
pub mod ExtRingLaws
pub mod ExtField
pub mod ExtFieldLaws
pub mod Tower
