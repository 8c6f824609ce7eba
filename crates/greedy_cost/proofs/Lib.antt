pub mod Costing
pub mod Runs
