-- A position with one candidate.
pub mod Sole
