pub mod Prices
mod Tested
pub mod Whole
