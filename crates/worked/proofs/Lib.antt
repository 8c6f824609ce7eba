pub mod Worked
pub mod Zeros
