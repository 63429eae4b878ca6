pub mod Bytes
pub mod Grammar
pub mod Laws
pub mod LineFeeds
pub mod Names
pub mod Printing
pub mod Reading
pub mod Versions
