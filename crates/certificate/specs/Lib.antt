pub mod Evidence
pub mod Readings
pub mod Moduli
