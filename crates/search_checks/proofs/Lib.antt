pub mod Checked
pub mod Starting
pub mod Refusing
pub mod Writing
