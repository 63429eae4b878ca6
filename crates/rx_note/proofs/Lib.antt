pub mod Kept
pub mod Laws
pub mod Lines
pub mod Order
pub mod Released
pub mod Sending
pub mod Steps
