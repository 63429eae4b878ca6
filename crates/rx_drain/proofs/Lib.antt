pub mod Events
pub mod Changing
mod Rulings
pub mod Standing
pub mod Ending
pub mod Taking
pub mod Counting
mod Owing
mod Tallying
pub mod Crediting
pub mod Clearing
pub mod Paying
mod Faultless
