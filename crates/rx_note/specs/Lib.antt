pub mod Bodies
pub mod Choices
pub mod Fronts
pub mod Kinds
pub mod Queues
pub mod Signals
pub mod Texts
