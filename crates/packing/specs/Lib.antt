pub mod Signed
pub mod Hybrid
