pub mod Placed
pub mod Runs
pub mod Marks
pub mod Tokens
