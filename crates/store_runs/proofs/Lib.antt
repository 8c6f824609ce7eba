pub mod Runs
pub mod Plain
