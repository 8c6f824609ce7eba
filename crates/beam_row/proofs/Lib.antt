pub mod Reach
pub mod Trying
pub mod Growing
pub mod Taking
