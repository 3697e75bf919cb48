pub mod Stopped
pub mod Bodies
