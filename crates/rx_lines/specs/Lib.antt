pub mod Bytes
pub mod Lines
pub mod Windows
pub mod Reads
pub mod Steps
pub mod Nexts
pub mod Feeds
