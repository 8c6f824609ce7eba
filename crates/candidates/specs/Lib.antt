pub mod Nearest
pub mod Candidates
pub mod Steps
