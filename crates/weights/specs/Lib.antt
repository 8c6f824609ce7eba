pub mod Window
pub mod Weights
pub mod Settings
