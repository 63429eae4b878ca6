pub mod Among
pub mod Laws
pub mod OpenSessions
pub mod Responses
pub mod Sessions
pub mod Turns
pub mod Begun
pub mod Gathering
