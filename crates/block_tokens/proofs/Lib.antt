-- Writing and reading are inverse to one another: `RoundTrip` of the definitions, `Promises` of the calls' outcomes.
pub mod Counts
pub mod Pairs
pub mod Levels
pub mod RoundTrip
pub mod Passed
pub mod Through
pub mod Accepted
pub mod Numbered
mod ReadBack
mod WrittenBack
pub mod Promises
