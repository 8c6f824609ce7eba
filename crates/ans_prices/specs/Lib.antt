pub mod Ans
pub mod Table
