pub mod Lists
pub mod Checks
pub mod Uses
mod Steps
mod Ends
mod Pieces
pub mod Changes
pub mod Entries
pub mod Undone
pub mod Taken
pub mod Settled
