pub mod Painted
pub mod Filled
pub mod Trained
pub mod Prefixed
