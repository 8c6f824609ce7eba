mod Splits
pub mod Walk
