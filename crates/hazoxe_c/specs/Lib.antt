pub mod Numbers
pub mod Steps
pub mod Desks
pub mod Asking
pub mod Opening
pub mod Taking
pub mod Batches
pub mod Held
