mod Batches
mod Handles
mod Values
