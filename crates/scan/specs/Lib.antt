pub mod Scan
pub mod Marks
