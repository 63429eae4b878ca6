pub mod CommandLines
pub mod Programs
pub mod Reporting
pub mod Clients
pub mod Notices
pub mod Unbounded
