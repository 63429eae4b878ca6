pub mod Amongst
pub mod ByTurns
pub mod Answering
pub mod SoFar
pub mod Gathering
