-- The theorems of least cost; `Main` lists the main ones.
pub mod First
pub mod Trial
pub mod Step
pub mod Best
pub mod Row
pub mod Factored
pub mod Nonzero
pub mod Range
pub mod Counts
pub mod Whole
pub mod Infinite
pub mod Main
pub mod Examples
