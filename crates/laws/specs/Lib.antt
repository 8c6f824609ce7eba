-- What several crates say in the same words.
pub mod Refusals
