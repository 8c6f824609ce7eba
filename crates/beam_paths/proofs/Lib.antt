pub mod Naming
pub mod Keeping
pub mod Closing
