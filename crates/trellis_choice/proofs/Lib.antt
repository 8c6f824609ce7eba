pub mod Scanning
pub mod Noting
pub mod Tying
pub mod Choosing
