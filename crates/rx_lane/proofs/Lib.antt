pub mod Followed
pub mod Moving
pub mod Passed
pub mod Shared
pub mod Steps
