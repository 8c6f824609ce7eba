-- A block's search problem; `Main` lists the theorems.
mod Terms
pub mod Local
pub mod Problem
pub mod Tokens
pub mod Input
pub mod Refusals
pub mod Wider
pub mod Written
pub mod Main
