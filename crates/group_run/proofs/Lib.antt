pub mod Outcomes
pub mod Running
mod Channels
pub mod Main
