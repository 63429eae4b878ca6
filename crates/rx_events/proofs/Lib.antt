pub mod Writings
mod Written
mod Hearing
mod Accounts
