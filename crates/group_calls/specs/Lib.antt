-- What the loop over a list leaves.
pub mod Ran
