pub mod Passing
pub mod Stepping
pub mod Settling
pub mod Choosing
