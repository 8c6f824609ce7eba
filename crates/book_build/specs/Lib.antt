pub mod Paint
pub mod Fill
pub mod Prefix
