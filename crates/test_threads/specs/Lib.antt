pub mod Bodies
pub mod Wiring
