pub mod Dequant
pub mod Weighing
pub mod Levels
