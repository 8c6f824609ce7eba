pub mod Each
pub mod Passed
pub mod Held
pub mod Costs
