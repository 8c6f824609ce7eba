-- How tokens are coded, without what they cost.
pub mod Coding
pub mod Checked
