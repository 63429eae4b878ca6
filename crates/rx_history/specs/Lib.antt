pub mod Delivery
pub mod Histories
pub mod Pasts
pub mod Stored
pub mod Traces
pub mod Walks
