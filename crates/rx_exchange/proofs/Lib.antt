pub mod Turning
pub mod Amongst
