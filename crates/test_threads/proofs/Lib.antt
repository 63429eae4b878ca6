pub mod Bodies
pub mod Wired
