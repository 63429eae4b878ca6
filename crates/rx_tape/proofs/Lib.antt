pub mod Lasts
pub mod Lows
