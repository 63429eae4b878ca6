pub mod Passing
pub mod Putting
pub mod Reports
pub mod Writes
