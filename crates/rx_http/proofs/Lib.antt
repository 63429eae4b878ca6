pub mod Accounting
mod Back
pub mod BodyLines
mod Cuts
mod Cutting
mod Digits
mod Going
pub mod Joined
mod Lines
mod Plain
mod PlainTexts
mod Responses
mod Single
mod Spelled
pub mod Streams
mod Telling
mod Told
mod Utf8
pub mod Writes
pub mod HeadBlocks
mod HeadGrammar
mod HeadLaws
