pub mod Error
pub mod Choices
pub mod Block
pub mod Worked
