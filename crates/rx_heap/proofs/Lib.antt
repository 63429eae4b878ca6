mod Limits
mod Steps
