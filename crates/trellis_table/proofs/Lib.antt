pub mod Picks
pub mod Steps
pub mod Turns
pub mod Totals
