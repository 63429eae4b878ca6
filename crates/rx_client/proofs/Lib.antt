pub mod Among
pub mod Answered
pub mod Bytewise
pub mod Digits
pub mod Lines
pub mod Tiled
pub mod Written
