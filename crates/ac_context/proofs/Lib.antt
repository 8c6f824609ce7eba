pub mod Bounds
pub mod Domain
pub mod Frequency
mod Same
