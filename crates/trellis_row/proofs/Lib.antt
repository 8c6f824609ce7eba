pub mod Rows
pub mod Rooms
pub mod Recursion
pub mod Table
