pub mod Queues
pub mod LineEmissions
