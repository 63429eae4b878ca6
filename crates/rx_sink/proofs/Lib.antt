pub mod Apartness
pub mod Looking
pub mod Finding
pub mod Counts
pub mod Tending
pub mod Taking
