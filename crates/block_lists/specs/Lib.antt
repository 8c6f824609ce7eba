pub mod Lengths
pub mod Copied
pub mod Zeros
