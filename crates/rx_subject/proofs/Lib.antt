pub mod Keeping
pub mod Rising
pub mod Standing
pub mod Taped
