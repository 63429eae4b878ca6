pub mod Asking
pub mod Hearing
pub mod Sinks
pub mod Telling
pub mod Written
