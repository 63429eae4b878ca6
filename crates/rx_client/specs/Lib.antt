pub mod Hearing
pub mod Following
pub mod Tiling
pub mod Printed
pub mod Requests
pub mod Running
pub mod Looking
