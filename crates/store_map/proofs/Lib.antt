pub mod Entries
pub mod Stores
pub mod Kept
