pub mod Rounding
pub mod Levels
pub mod Lists
pub mod Sizes
pub mod Laws
