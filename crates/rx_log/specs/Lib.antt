pub mod Logs
pub mod Machines
pub mod Rules
pub mod Senders
pub mod Terms
pub mod Totals
