pub mod Asking
pub mod Audits
pub mod Printing
pub mod Scripts
pub mod Tellings
pub mod Transcripts
