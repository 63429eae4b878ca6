pub mod Keeping
pub mod Known
pub mod Facing
