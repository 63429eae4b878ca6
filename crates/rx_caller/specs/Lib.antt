pub mod Calling
pub mod Eithers
