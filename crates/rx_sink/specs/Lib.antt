pub mod Acts
pub mod Attachments
pub mod KeptSinks
pub mod Kinds
pub mod Rests
pub mod Taken
pub mod Waiting
