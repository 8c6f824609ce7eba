-- A tally after any run of calls.
pub mod Runs
