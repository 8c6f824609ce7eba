mod Bits
mod Counts
mod Marks
pub mod Once
pub mod Order
pub mod Through
