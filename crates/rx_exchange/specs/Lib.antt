pub mod Among
pub mod Coming
pub mod Exchanges
pub mod Meetings
