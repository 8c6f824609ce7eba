pub mod Parts
pub mod Passed
