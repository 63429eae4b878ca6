pub mod Lanes
pub mod Queues
pub mod TapeLanes
