mod Shifts
mod Past
mod Decoded
pub mod Signed
pub mod Hybrid
